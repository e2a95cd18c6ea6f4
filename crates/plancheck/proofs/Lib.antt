pub mod FirstSubtasks
pub mod Clashes
pub mod LatestEnds
pub mod Counts
pub mod SubtaskTests
pub mod ProcessorTests
pub mod Replied
pub mod Swept
