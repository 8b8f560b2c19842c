pub mod Order
pub mod Together
