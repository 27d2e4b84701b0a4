pub mod GoingOn
pub mod Onces
pub mod Drainings
pub mod Crossing
