-- Records and replies: their formats, why a record cannot be read, one turn of the reader, whole streams, and the law of two
-- streams. `Writing` and `Carrying` are cited by no public contract.
pub mod Records
pub mod Replies
pub mod Unreadable
pub mod Writing
pub mod Carrying
pub mod Turns
pub mod Streams
pub mod StreamLaw
