pub mod Bits
pub mod Steps
pub mod Lines
