-- Laws of regions that are drawn part by part, and of the search.
pub mod PutLaws
pub mod SearchLaws
