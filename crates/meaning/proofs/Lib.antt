-- Theorems about the definitions.

-- tests, lists, scans and counting
pub mod Bools
pub mod Tests
pub mod Alls
pub mod Counting
pub mod Scans
-- the readings: the order of refusals, what an accepted text has, no second outcome, the tables, worked texts
pub mod Refusals
pub mod Reading
pub mod Unique
pub mod Accepted
pub mod Coordinates
pub mod Texts
-- what a best-first search with a consistent estimate may conclude, over any arcs
pub mod Exits
pub mod Orders
-- the arcs of a region
pub mod Arcs
-- the taking rule: following arcs, every state, the sites taken, the routes, how far it goes
pub mod Relaxing
pub mod States
pub mod Listed
pub mod Trace
pub mod Routes
pub mod Bounds
-- the straight line: its root, and the estimate that it gives
pub mod Roots
pub mod Estimates
-- the list: no second one fits, the search's own is one, arcs that are alike have the same
pub mod Listings
pub mod Parallel
pub mod Alike
-- the public calls: accepted regions, outcomes, demands, stretches, other orders of the tables, cases A to K
pub mod Passed
pub mod Outcomes
pub mod Demands
pub mod Stretches
pub mod Independent
pub mod Cases
-- the calls as C and Rust make them: how far a refusal's place reaches, and the number that an answer is
pub mod Places
pub mod Boundary
