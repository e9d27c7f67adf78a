mod Stores
mod Ways
mod Route
mod Lines
