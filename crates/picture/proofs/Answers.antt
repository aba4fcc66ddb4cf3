-- Tests one after the other, and the answer of a call that was tested.
use mathlib.Core.Path.{◌≡◌, sym, ap, ◌∙◌}
use mathlib.Core.Bool.{Bool, true, false, ◌&&◌, not}
use borrow.Author.Tests.{not-true, not-false}

-- A conjunction whose first part fails, and one whose first part holds.
pub stops : {a : Bool} (b : Bool) → a ≡ false → false ≡ (a && b)
stops b e = ap (λ t. t && b) (sym e)

pub goes_on_lem : {a b r : Bool} → a ≡ true → r ≡ b → r ≡ (a && b)
goes_on_lem {a} {b} e h = h ∙ ap (λ t. t && b) (sym e)

-- What a call answers is known by its contract.
pub refused : {a : Bool} (r : Bool) → r ≡ a → not r ≡ true → a ≡ false
refused r e n = sym e ∙ not-true r n

pub passed : {a : Bool} (r : Bool) → r ≡ a → not r ≡ false → a ≡ true
passed r e n = sym e ∙ not-false r n

-- The same where the test is of the call itself.
pub refused_by : {a : Bool} (r : Bool) → r ≡ a → r ≡ false → a ≡ false
refused_by r e n = sym e ∙ n

pub passed_by : {a : Bool} (r : Bool) → r ≡ a → r ≡ true → a ≡ true
passed_by r e n = sym e ∙ n
