-- Why the answer is what is promised.
pub mod Answering
