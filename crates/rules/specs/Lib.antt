-- Document 01 in its order: Records (Letters, Set, Job, Report, Counts), Successors and scan, Correctors (One and Two, Graph, GapSize),
-- Driver, the calls with their refusals, and the program; then document 02's requests.
pub mod Letters
pub mod Refusal
pub mod Set
pub mod Job
pub mod Report
pub mod Counts
pub mod Counted
pub mod Scan
pub mod Exist
pub mod Graph
pub mod GapSize
pub mod Driver
pub mod Calls
pub mod Solid
pub mod Blocks
pub mod Index
pub mod Samples
pub mod Scenarios
pub mod Supports
