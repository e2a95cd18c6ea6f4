-- the chains of arrows
pub mod Chained
-- scans
pub mod FirstArrows
pub mod WrongEnds
pub mod RepeatedArrows
-- the order
pub mod Marks
pub mod Walk
pub mod WalkPasses
pub mod WalkEnters
pub mod WalkPlaces
pub mod NoCycle
-- the lowest on a cycle
pub mod CycleSearch
-- C and P
pub mod PathWeights
-- the answers
pub mod ArrowAnswers
pub mod Replies
