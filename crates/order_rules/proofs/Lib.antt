-- What is proved of tiles in any order.
pub mod Figures
pub mod OrderTests
pub mod AnyOrder
pub mod OrderLoops
pub mod OrderCalls
