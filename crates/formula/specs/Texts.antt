-- What the steps of reading a whole text promise: the sum and the end of the text; the clauses packed.
use Rattle.std.specs.Prelude.{◌≡◌, List, ℤ, ℕ, ◌*◌, ◌≤◌, length, take, Result, Ok, Err}
use Rattle.rules.specs.Tapes.{read_list}
use Rattle.formula_rules.specs.Trees.{Tree}
use Rattle.formula_rules.specs.FormulaReader.{done, reader}
use Rattle.formula_rules.specs.FormulaTapes.{text_clauses, text_slots}
use Rattle.formula_rules.specs.FormulaDepths.{clauses_at, blank, emit_all}
use Rattle.formula.specs.declared.sheet.Sheet.{Sheet}
use Rattle.formula.specs.declared.text.Stop.{Stop}
use Rattle.formula.specs.Sheets.{sheet_on}
use Rattle.formula.specs.Heads.{answer_of}
use Rattle.promises.specs.Faults.{tape_room}

-- The text was read as a tree, and the tree's clauses were written on a blank sheet, whatever its array held; or the
-- reader stopped.
pub record GotText (text : List ℕ) (s : Sheet) : Type 0 where
  pub tree : Tree
  pub answer : reader text ≡ done tree
  pub before : List ℤ
  pub room : length before ≡ 5120
  pub sheet : sheet_on s ≡ emit_all (clauses_at 0 tree) (blank before)

abbrev pub ReadsText : List ℕ → Sheet → Result (Unit {0}) Stop → Type 0
ReadsText text s (Ok _) = GotText text s
ReadsText text s (Err e) = reader text ≡ answer_of e

-- The clauses on the sheet are within the limits of a text, and are accepted.
pub record CanPack (s : Sheet) (o : List ℕ) : Type 0 where
  pub few : s.count ≤ text_clauses
  pub slots : s.slots ≤ text_slots
  pub size : length o ≡ tape_room
  pub accepted : (read_list s.slots (take (5 * s.count) s.list)).number ≡ 0
  pub clauses : length (read_list s.slots (take (5 * s.count) s.list)).tape.clauses ≡ s.count
