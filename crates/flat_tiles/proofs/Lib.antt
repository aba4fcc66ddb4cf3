-- Laws by which the flat drawing by tiles is proved.
pub mod WalkLaws
