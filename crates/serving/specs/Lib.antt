pub mod Verdicts
pub mod Listing
pub mod Serving
pub mod Servable
pub mod Faults
pub mod Working
pub mod Unknown
