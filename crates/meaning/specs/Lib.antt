-- The definitions, to be read in this order beside the paper.

-- limits and refusals by name
pub mod Limits
-- "The three texts": lines, fields, numbers
pub mod Text
-- the table of problem lines and data lines
pub mod Grammar
-- a reading, its tables at exit, and the outcome of the three readers
pub mod Files
-- scans that compute
pub mod Scan
pub mod Lists
-- "Straight line and road"
pub mod Straight
-- the lent tables and rooms, and the region in them
pub mod Region
-- "A search trusts no table": its checks
pub mod Checks
-- walks and shortest lengths
pub mod Walk
-- "The taking rule"
pub mod Taking
-- "The list": the route, then the list
pub mod Route
pub mod Listing
-- the outcome of the search, the panel call and the stretch
pub mod Search
-- the calls as C and Rust make them, with an answer in one number
pub mod Boundary
