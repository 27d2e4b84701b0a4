pub mod Tests
pub mod Numbers
pub mod Options
pub mod Lists
pub mod SameGtid
