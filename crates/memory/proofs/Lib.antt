-- what the memory holds, read from its entries
pub mod Holds
-- an entry that stands for a place
pub mod Places
-- the estimate is the taking rule's
pub mod Lines
-- what it holds after a write
pub mod Writes
-- the sites side by side
pub mod Columns
-- the scan of the code: the closest site
mod Closest
-- the tree of the open nodes: after writes, settled anew, and who stands at its top
pub mod TreeChanges
mod TreeReplay
mod TreeTop
