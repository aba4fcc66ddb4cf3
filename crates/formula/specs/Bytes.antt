-- A text's byte at a place, if there is one; digits; the byte that must stand at a place.
use Rattle.std.specs.Prelude.{◌≡◌, true, false, ◌&&◌, List, ℕ, suc, ◌+◌, ◌-◌, ◌*◌, ◌≤◌, ◌<◌, ◌≢◌, leb, length, get_or}
use Rattle.std.specs.Prelude.{Option, None, Some, Result, Ok, Err}
use Rattle.formula_rules.specs.Formulas.{is_digit}
use Rattle.formula.specs.declared.digits.Run.{Run}
use Rattle.formula.specs.declared.text.Stop.{Stop}
use Rattle.formula.specs.declared.text.Stop.TheVariants as stop

-- The byte b stands there.
pub record Here (text : List ℕ) (n b : ℕ) : Type 0 where
  pub within : n < length text
  pub byte : get_or text n 0 ≡ b

-- Another byte, or the end.
pub record NotHere (text : List ℕ) (n b : ℕ) : Type 0 where
  pub other : n < length text → get_or text n 0 ≢ b

abbrev pub IsByteAt : List ℕ → ℕ → Option ℕ → Type 0
IsByteAt text n None = length text ≤ n
IsByteAt text n (Some b) = Here text n b

-- A byte that must stand there: the place after it, or where the text breaks the rules.
pub record Passed (text : List ℕ) (n b m : ℕ) : Type 0 where
  pub here : Here text n b
  pub next : m ≡ n + 1

pub record Missed (text : List ℕ) (n b : ℕ) (s : Stop) : Type 0 where
  pub other : NotHere text n b
  pub stop : s ≡ stop.Breaks n

abbrev pub Expected : List ℕ → ℕ → ℕ → Result ℕ Stop → Type 0
Expected text n b (Ok m) = Passed text n b m
Expected text n b (Err s) = Missed text n b s

pub record IsDigit (text : List ℕ) (n v : ℕ) : Type 0 where
  pub within : n < length text
  pub digit : is_digit (get_or text n 0) ≡ true
  pub value : v ≡ get_or text n 0 - 48

pub record NoDigit (text : List ℕ) (n : ℕ) : Type 0 where
  pub none : n < length text → is_digit (get_or text n 0) ≡ false

abbrev pub DigitAt : List ℕ → ℕ → Option ℕ → Type 0
DigitAt text n None = NoDigit text n
DigitAt text n (Some v) = IsDigit text n v

-- Digits from place n up to place j, at most some of them and with values at most top: their value and how many.
pub data Ran (text : List ℕ) (n most top : ℕ) : ℕ → ℕ → ℕ → Type 0 where
  none : Ran text n most top n 0 0
  next : (j v k : ℕ) → Ran text n most top j v k → j < length text → is_digit (get_or text j 0) ≡ true → suc k ≤ most
      → 10 * v + (get_or text j 0 - 48) ≤ top
      → Ran text n most top (suc j) (10 * v + (get_or text j 0 - 48)) (suc k)

-- As many as may stand there.
pub record RanOut (text : List ℕ) (n most top : ℕ) (r : Run) : Type 0 where
  pub ran : Ran text n most top r.at r.value r.count
  pub within : r.at ≤ length text
  pub some : r.count ≤ most
  pub small : r.value ≤ top
  pub ends : r.at < length text
      → (is_digit (get_or text r.at 0)
      && (leb (suc r.count) most && leb (10 * r.value + (get_or text r.at 0 - 48)) top)) ≡ false
