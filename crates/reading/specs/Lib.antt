pub mod Marks
pub mod Rows
pub mod Follows
pub mod Said
