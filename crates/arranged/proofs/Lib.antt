-- counted
pub mod LentRows
pub mod Counted
pub mod Begun
-- placed
pub mod GrowingRows
pub mod SoFar
pub mod Placed
-- the arrows by either side
pub mod BothSides
-- what callers cite
pub mod OwnTables
-- those that no arrow has at one side
pub mod NoArrows
