-- what the checks have shown, the sites that are left, and a run of the taking rule
mod Checked
mod Left
mod Runs
-- the routes that the memory leads to are the list's
mod Ways
-- from a run to the outcome
mod Outcome
