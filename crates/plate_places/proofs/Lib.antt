-- What is proved of the places.
pub mod PlaceLaws
