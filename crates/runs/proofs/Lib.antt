-- Lemmas on histories of calls, on what each call owes, on denials, listings and readings; the law over any languages of calls.
pub mod Chains
pub mod CallKinds
pub mod Listings
pub mod Denials
pub mod Readings
pub mod Questions
pub mod Moments
pub mod Laws
