-- Laws by which the solid drawing by tiles is proved.
pub mod WalkLaws
