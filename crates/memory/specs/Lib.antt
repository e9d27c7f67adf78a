-- what the memory holds
pub mod Memory
-- the estimate, from it
pub mod Aim
-- the region that a search is over
pub mod Region
-- the tree of the open nodes
pub mod Tree
