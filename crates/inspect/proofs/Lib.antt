-- the first faulty entry
mod Faults
-- the points
mod Placed
-- the sites before one, and the sites by one bit per node
mod Sites
mod Marked
