-- What a look at a region and the levels ask and promise.
pub mod Looks
