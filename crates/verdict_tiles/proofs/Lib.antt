-- Laws by which a tile with the table is proved.
pub mod SharedLaws
pub mod KnownLaws
