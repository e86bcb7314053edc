-- Worked books by computing: checks, what written books mean, and what a check says of an answer.
mod Checks
mod Standing
mod Inside
mod Written
mod Once
mod Judging
mod Reading
mod Listing
mod Auditing
mod NewMarkers
mod Results
