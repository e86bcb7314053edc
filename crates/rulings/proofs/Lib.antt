-- Lemmas on binary digits, bytes and rulings.
pub mod Digits
pub mod Bytes
pub mod Equality
pub mod Bitwise
pub mod Orders
pub mod RowOrder
pub mod Differences
pub mod Listed
pub mod Ascending
pub mod FromFn
