-- What is proved of the definitions, for the functions' proofs to cite.
pub mod Written
pub mod Digits
pub mod PlaceLaws
pub mod FileRows
pub mod FileLaws
