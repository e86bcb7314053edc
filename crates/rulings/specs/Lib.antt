-- What a reader of this crate must believe: sets of points, the bytes of a ruling, its lowest points, its points in order, the row order.
pub mod Points
pub mod Rulings
pub mod Ascending
pub mod Order
