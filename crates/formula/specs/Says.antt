-- What reading a formula's text promises: the number and every lent byte, for all texts and buffers.
use Rattle.std.specs.Prelude.{◌≡◌, List, ℕ, eqb, Result}
use Rattle.rules.specs.Values.{pick}
use Rattle.faults.specs.Numbers.{fault_of}
use Rattle.faults.specs.declared.Fault.{Fault}
use Rattle.formula_rules.specs.FormulaReader.{reader}
use Rattle.promises.specs.Faults.{text_fault, answer_bytes, in_front}

-- The buffer o has become o', and the outcome is r. A refused text leaves every byte as it was.
pub record TextSays (text o o' : List ℕ) (r : Result (Unit {0}) Fault) : Type 0 where
  pub number : fault_of r ≡ text_fault text o
  pub out : o' ≡ pick (eqb (text_fault text o) 0) (in_front (answer_bytes (reader text)) o) o
