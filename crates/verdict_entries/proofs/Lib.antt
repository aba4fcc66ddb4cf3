-- Laws by which the entries are proved.
pub mod EntryLaws
pub mod KeptEntry
pub mod Judging
