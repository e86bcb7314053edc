-- Lemmas on the tests of conditions, on the rows of protesters, on changes, and on the published definitions.
pub mod Conditions
pub mod Rows
pub mod Changes
pub mod Programs
pub mod ProgramsOfBooks
pub mod PartialEvaluation
pub mod EvaluatedEntries
pub mod Framework
