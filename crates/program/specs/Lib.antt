-- What the program and its parts promise.
pub mod Says
