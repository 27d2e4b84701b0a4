pub mod FirstTouch
pub mod Seeing
