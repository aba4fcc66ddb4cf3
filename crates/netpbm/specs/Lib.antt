-- What the calls on pictures promise.
pub mod Appending
pub mod FileParts
pub mod Files
pub mod Places
