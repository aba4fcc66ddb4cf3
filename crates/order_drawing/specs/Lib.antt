-- What a drawing in an order asks and gives.
pub mod InOrder
