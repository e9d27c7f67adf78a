-- the numbers of the nodes before are those that the lengths give
pub mod Parents
-- what the memory holds after an arc reaches a node, a node closed, the start, the arcs of a node
-- and a node taken
mod Reaching
mod Closing
mod Starting
mod Following
-- the open node that goes next
mod Choosing
-- the arcs of a node in a chain
mod Chaining
