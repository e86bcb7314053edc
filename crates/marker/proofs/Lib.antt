-- Lemmas on reading chapter by chapter, on the audit of upward readings, on verdicts, on the walk of a listing, and on denied listings.
pub mod Found
pub mod Walking
pub mod Upreading
pub mod Gathering
pub mod Verdicts
pub mod Denials
