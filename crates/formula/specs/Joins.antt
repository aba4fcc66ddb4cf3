-- The join at a place, by its operation; none where none stands.
use Rattle.std.specs.Prelude.{◌≡◌, List, ℕ, Option, None, Some}
use Rattle.formula_rules.specs.Formulas.{SumJoin, ProductJoin, sum_byte, product_byte, sum_tree, product_tree}
use Rattle.formula_rules.specs.FormulaCalls.{NoPlus}
use Rattle.formula.specs.declared.steps.Binary.{Binary}
use Rattle.formula.specs.Bytes.{Here, NotHere}
use Rattle.formula.specs.Steps.{binary_of}

pub record SumJoinAt (text : List ℕ) (n : ℕ) (b : Binary) : Type 0 where
  pub join : SumJoin
  pub here : Here text n (sum_byte join)
  pub same : binary_of b ≡ sum_tree join

abbrev pub PlusAt : List ℕ → ℕ → Option Binary → Type 0
PlusAt text n None = NoPlus text n
PlusAt text n (Some b) = SumJoinAt text n b

pub record NoTimesOrOver (text : List ℕ) (n : ℕ) : Type 0 where
  pub times : NotHere text n 42
  pub over : NotHere text n 47

pub record ProductJoinAt (text : List ℕ) (n : ℕ) (b : Binary) : Type 0 where
  pub join : ProductJoin
  pub here : Here text n (product_byte join)
  pub same : binary_of b ≡ product_tree join

abbrev pub TimesAt : List ℕ → ℕ → Option Binary → Type 0
TimesAt text n None = NoTimesOrOver text n
TimesAt text n (Some b) = ProductJoinAt text n b
