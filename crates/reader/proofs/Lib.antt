-- Lemmas on lists of bytes and blocks, on records and replies as encodings, on what stands at a place, on replies under way and calls carried out, on streams and their law, of one input and of two.
pub mod Blocks
pub mod Encodings
pub mod Readback
pub mod Reading
pub mod StreamLaws
mod Fronts
mod Outcomes
mod Writing
pub mod Pairs
pub mod Streaming
