-- The promise of every book, the rule book and the protest book, and the published definitions for both.
pub mod Promise
pub mod Entries
pub mod Lines
pub mod RuleBook
pub mod Program
pub mod Protesters
pub mod ProtestBook
pub mod Framework
pub mod PartialEvaluation
-- Lemmas by which the laws of both sorts of book hold: that they keep the laws and the promise of every book.
pub mod Tests
pub mod Any
pub mod EntriesLemmas
pub mod Faults
pub mod PromiseLemmas
pub mod Protests
