-- the nodes before, as arcs are followed
pub mod Parents
-- how arcs are linked, and what a step asks of lengths
pub mod Ways
-- what it does
pub mod Steps
