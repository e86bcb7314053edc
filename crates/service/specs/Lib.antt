-- Serving what a reader gives, to a writer.
pub mod Serving
