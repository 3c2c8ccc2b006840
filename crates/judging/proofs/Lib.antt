mod BracketHolds
mod SharesDecide
pub mod Order
