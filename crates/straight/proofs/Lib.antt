-- what others cite
pub mod Laws
-- Newton's method
mod Newton
