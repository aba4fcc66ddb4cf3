-- 64-tiles of a solid in any order, to be read against T-10.
pub mod Orders
