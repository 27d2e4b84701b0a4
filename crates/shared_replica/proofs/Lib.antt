pub mod Replays
pub mod Quiet
pub mod Spares
pub mod Growths
pub mod Merges
pub mod Closings
pub mod Faulty
