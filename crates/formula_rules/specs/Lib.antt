-- What a formula means (Trees), its grammar (Formulas), the reader of its text (FormulaReader, FormulaCalls)
-- and its tape (FormulaTapes; as the reader writes it, FormulaDepths).
pub mod Trees
pub mod Formulas
pub mod FormulaReader
pub mod FormulaCalls
pub mod FormulaTapes
pub mod FormulaDepths
