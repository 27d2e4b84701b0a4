pub mod Servers
pub mod States
