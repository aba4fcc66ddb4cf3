-- What is proved of formulas, their texts and their tapes.
pub mod FormulaNumbers
pub mod FormulaTakes
pub mod FormulaParts
pub mod FormulaMoves
pub mod FormulaEnds
pub mod FormulaNesting
pub mod Formulas
pub mod FormulaSteps
pub mod FormulaCalls
pub mod FormulaItems
pub mod FormulaTexts
pub mod FormulaSlots
pub mod FormulaSheets
pub mod FormulaValues
pub mod FormulaAccepted
pub mod FormulaFigures
