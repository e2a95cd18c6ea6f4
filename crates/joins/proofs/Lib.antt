pub mod Putting
pub mod RowByRow
pub mod Successors
pub mod Answered
pub mod Joining
