pub mod Quoted
pub mod Tokens
pub mod Values
pub mod Lines
pub mod Reading
pub mod Contents
pub mod Types
