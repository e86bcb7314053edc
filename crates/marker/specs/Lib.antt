-- What a marker holds, what its calls do to it, how it judges and reads, whole and by chapters, what it audits, and what it lists.
pub mod State
pub mod Judging
pub mod Reading
pub mod Audit
pub mod Listing
pub mod Walk
