-- In reading order.
-- Lists written into a lent one, and the loops that do so
pub mod Fronts
pub mod Sheets
pub mod Loops
-- The hosts of one thread, the moves of one read, and the table of all threads
pub mod Staying
pub mod Passes
pub mod Owned
-- Along the run the plan is followed, so that what is written is the list by moments
pub mod Hosted
pub mod Followed
pub mod OwnMoves
pub mod OneOrder
pub mod Whole
-- The run of a certificate
pub mod Replaying
