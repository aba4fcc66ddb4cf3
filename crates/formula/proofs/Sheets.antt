-- What is written on a sheet.
use Rattle.std.proofs.Common.{◌≡◌, refl, sym, ap₂, ◌∙◌, ap, List, ℤ, ℕ, ◌+◌, ◌*◌, max}
use lib.Dec.{ltb}
use Rattle.std.proofs.lemmas.List.Edits.{sets}
use Rattle.rules.specs.Values.{pick}
use Rattle.formula_rules.specs.FormulaTapes.{text_clauses}
use Rattle.formula_rules.specs.FormulaDepths.{five, emit}
use Rattle.formula.specs.declared.sheet.Sheet.{Sheet}
use Rattle.formula.specs.declared.steps.Step.{Step}
use Rattle.formula.specs.declared.steps.Step.TheVariants as kind
use Rattle.formula.specs.Steps.{step_of}
use Rattle.formula.specs.Sheets.{Pushed}

-- A clause has its value in the slot that it is given.
pub out_of : (x : Step) (slot : ℕ) → (step_of x slot).out ≡ slot
out_of (kind.Number u) slot = refl
out_of (kind.Axis a) slot = refl
out_of (kind.Unary u) slot = refl
out_of (kind.Binary b) slot = refl

pub pushed : (s : Sheet) (x : Step) (slot : ℕ) (zs : List ℤ) (s' : Sheet) (m : ℕ)
    → zs ≡ pick (ltb s.count text_clauses) (sets s.list (5 * s.count) (five (step_of x slot))) s.list
    → s' ≡ record { list = zs; count = s.count; slots = s.slots } → m ≡ max s'.slots (slot + 1)
    → Pushed s x slot (record { list = s'.list; count = s'.count + 1; slots = m })
unfolding emit
pushed s x slot zs s' m e f g =
    rw f
    (record {
      sheet = ap₂ (λ (l : List ℤ) (k : ℕ). record { list = l; count = s.count + 1; slots = k }) e
          (g ∙ rw f refl ∙ ap (λ k. max s.slots (k + 1)) (sym (out_of x slot)));
      count = refl;
    })
