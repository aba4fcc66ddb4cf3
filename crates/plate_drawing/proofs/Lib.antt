-- What is proved of parts that are joined.
pub mod JoinedParts
pub mod Redrawn
pub mod Others
