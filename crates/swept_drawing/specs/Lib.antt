-- What a swept picture asks and gives that no line refuses.
pub mod Swept
