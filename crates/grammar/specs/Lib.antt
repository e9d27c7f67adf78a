-- a line by what its fields were read as, and what a plain line says
pub mod Fields
pub mod Plain
