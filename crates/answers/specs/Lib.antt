-- The numbers and words of refusals, what is checked of points, what verdicts tell, and the order of an audit's rows.
pub mod Faults
pub mod Checks
pub mod Verdicts
pub mod AuditRows
-- Lemmas, which a trait's law cites: that order is strict and total.
pub mod AuditOrder
