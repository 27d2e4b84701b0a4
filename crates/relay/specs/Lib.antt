pub mod Known
pub mod Own
