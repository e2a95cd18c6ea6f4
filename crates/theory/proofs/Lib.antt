-- counting and searching
pub mod Sums
pub mod Counting
pub mod Tallies
pub mod Search
pub mod Pigeonhole
-- tables and loops
pub mod Stores
pub mod Firsts
pub mod Rounds
-- the table
pub mod Answers
pub mod Stops
pub mod SoundPlans
pub mod Accepted
pub mod ReadSizes
-- graphs
pub mod Work
pub mod Paths
pub mod Longest
pub mod Reaching
-- plans
pub mod Ends
pub mod Running
pub mod NoGap
pub mod Instants
pub mod PlanTests
pub mod Bounds
pub mod Graham
-- the list rule
pub mod Placing
pub mod ListRule
pub mod OneList
pub mod ListExists
pub mod Clock
pub mod ListPlans
-- arrows arranged
pub mod Ascending
pub mod SortedArrows
pub mod TimesOver
-- joined graphs
pub mod Faultless
pub mod JoinedArrows
pub mod JoinedRows
pub mod JoinedSound
pub mod JoinedPaths
pub mod JoinedReplies
-- the written text
pub mod Decimals
pub mod LinesBack
pub mod GraphBack
pub mod TextLengths
pub mod LongestText
pub mod TextBack
pub mod WrittenBack
-- nests
pub mod Together
pub mod OneNest
pub mod NestWeights
-- what a reader wants
pub mod OneReply
pub mod Places
pub mod OneArranged
pub mod Alterations
pub mod Dropping
pub mod DemandThree
pub mod OtherVerdicts
pub mod SureEnds
pub mod TwoSubtasks
pub mod Dummies
pub mod JoinDummies
