-- What is proved of parts that are set.
pub mod PatchLaws
