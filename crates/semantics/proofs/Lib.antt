-- Lemmas of the theory, by topic.
pub mod Tests
pub mod LeastFixpoint
pub mod Closures
pub mod Splitting
pub mod Alternating
pub mod SplitReading
pub mod Restricting
pub mod Subsets
pub mod Joined
pub mod RulingOf
pub mod Fillings
pub mod Ways
pub mod Levels
pub mod Walk
pub mod StableTest
pub mod WalkSteps
