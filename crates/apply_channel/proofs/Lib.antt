pub mod Slots
pub mod Nodes
pub mod LastPlaces
pub mod Table
pub mod Receiving
pub mod Same
pub mod Absent
