-- What is drawn of a region, and what the search and the pixels ask and promise.
pub mod Puts
pub mod Searches
