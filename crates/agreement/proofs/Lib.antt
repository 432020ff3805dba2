-- In reading order.
-- Helpers: functions changed at one number, any step that takes items, sums over threads
pub mod Updates
pub mod Sums
-- One thread alone: what its store buffer emits is what moves make of its program order
pub mod Buffer
pub mod Moving
pub mod Sliding
-- All threads: from a complete run to a complete order, and back
pub mod Relations
pub mod ToOrder
pub mod ToRun
-- The machines' steps and these relations
pub mod RunSteps
pub mod MoveSteps
pub mod CertificateSteps
-- How many items and moves there are
pub mod Reversals
pub mod Bounds
-- Raw items, and the case of a list of records
pub mod Encoding
pub mod Cases
-- By moments: the order is one and sorting finds it; along the run, one thread and then all threads follow it
pub mod Dictionary
pub mod Tallies
pub mod Orders
pub mod Groups
pub mod Shifts
pub mod Indices
pub mod Waiting
pub mod Passing
pub mod Following
pub mod Sites
pub mod Along
pub mod Pairs
-- The theorems
pub mod Theorems
