mod Accepting
pub mod Feeding
pub mod Cutting
pub mod Bringing
pub mod Coming
pub mod OwnLines
pub mod Heading
pub mod Saying
pub mod Lacking
pub mod Counting
pub mod Weighing
pub mod Fronts
