-- Runs of calls: what an answer tells, what a call does, histories of calls, and the law of any two of them.
pub mod Told
pub mod Step
pub mod History
pub mod Law
