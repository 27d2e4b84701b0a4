pub mod Sending
pub mod Runs
pub mod Shapes
pub mod Conditions
pub mod Knowing
pub mod Settling
pub mod Written
pub mod Unknown
