-- Laws by which both calls are proved.
pub mod TableChecks
pub mod Calls
