-- The sheet that clauses are written on.
use Rattle.std.specs.Prelude.{◌≡◌, ℕ, ◌+◌, ◌≤◌, ◌<◌, length}
use Rattle.formula_rules.specs.FormulaDepths as depths
use Rattle.formula.specs.declared.sheet.Sheet.{Sheet}
use Rattle.formula.specs.declared.steps.Step.{Step}
use Rattle.formula.specs.Steps.{step_of, IsSmall}

abbrev pub sheet_on : Sheet → depths.Sheet
sheet_on s = record { list = s.list; count = s.count; slots = s.slots }

pub record IsBlank (s : Sheet) : Type 0 where
  pub room : length s.list ≡ 5120
  pub count : s.count ≡ 0
  pub slots : s.slots ≡ 0

-- The sheet has room for as many clauses as a text may have; the numbers of a clause that is stored fit.
pub record CanPush (s : Sheet) (x : Step) (slot : ℕ) : Type 0 where
  pub waits : slot ≤ s.count
  pub small : IsSmall x
  pub few : s.count < 9223372036854775808

pub record Pushed (s : Sheet) (x : Step) (slot : ℕ) (s' : Sheet) : Type 0 where
  pub sheet : sheet_on s' ≡ depths.emit (step_of x slot) (sheet_on s)
  pub count : s'.count ≡ s.count + 1
