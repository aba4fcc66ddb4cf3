-- What the public calls promise: read Says; the others are the words that it uses.
pub mod Faults
pub mod Sides
pub mod Figures
pub mod Says
pub mod Plates
pub mod PlateRuns
pub mod Tables
pub mod TableRuns
