-- What must hold, to be read against the scope paper: fixed-point values and ranges, tapes and what makes one accepted,
-- drawings, slopes, pictures and their files, probes, and the demands.
pub mod Values
pub mod Tapes
pub mod Marks
pub mod Accepted
pub mod Drawings
pub mod Slopes
pub mod Pictures
pub mod Probes
pub mod Demands
