-- What lines 12 and 13 say, the ends of a call, its checks one after another, and what they leave where none refuses.
pub mod LineLaws
pub mod Ends
pub mod Chains
pub mod Clear
