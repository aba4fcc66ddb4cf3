-- What follows from the promises: the demands, and what the requests ask to be shown, of what the calls return.
pub mod DemandTwo
pub mod DemandThree
pub mod Slopes
pub mod SlopesExample
pub mod Probes
pub mod Texts
pub mod Merging
pub mod Reasons
pub mod Orders
pub mod Swept
pub mod Plates
pub mod Tables
