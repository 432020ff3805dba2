pub mod Firsts
pub mod Threads
