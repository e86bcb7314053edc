-- Lemmas on entries that a rule book takes.
pub mod Taking
