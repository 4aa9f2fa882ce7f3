-- the order of refusals, call by call
pub mod Rises
-- numbers returned and told
pub mod Numbers
pub mod Judge
pub mod Terms
pub mod View
pub mod Grammar
pub mod Closest
pub mod Running
pub mod Ceiling
pub mod Others
