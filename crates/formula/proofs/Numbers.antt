-- Digits that were read, as the reader's modes, and the numbers that they end.
use mathlib.Core.Path.{◌≡◌, refl, sym, ap, ◌∙◌}
use mathlib.Core.Bool.{Bool, true, false, ◌&&◌, true≢false}
use mathlib.Core.List.{List}
use mathlib.Core.Logic.{◌≢◌}
use lib.IntN.{pos}
use Prim.Native.Nat.{ℕ, zero, suc, ◌+◌, ◌-◌, ◌*◌, ◌/◌, ◌^◌, ◌≤◌, ◌<◌}
use native.Mathlib.Nat.{div-lt_iff_lt-mul, pow-suc}
use native.Mathlib.Numerals.{add-one}
use native.Mathlib.Omega.{arith}
use lib.Dec.{leb, ltb}
use lib.ListN.{length, get_or}
use borrow.Author.Tests.{le-leb, lt-leb, leb-true, ltb-true, ltb-false}
use Rattle.formula_rules.specs.Trees.{number}
use Rattle.formula_rules.specs.Formulas.{is_digit, whole_units, decimal_units}
use Rattle.formula_rules.specs.FormulaReader.{digits, decimals, point, after, breaks}
use Rattle.formula_rules.specs.FormulaCalls.{ModeRead, ItemStops}
use Rattle.formula_rules.specs.FormulaDepths.{clauses_at}
use Rattle.formula_rules.proofs.FormulaNumbers.{digit_below}
use Rattle.formula_rules.proofs.FormulaItems.{digit_start, digit_step, point_step, decimal_start, decimal_step, no_decimal}
use Rattle.formula_rules.proofs.FormulaItems.{whole_read, decimal_read, mode_ends}
use Rattle.formula.specs.declared.digits.Run.{Run}
use Rattle.formula.specs.declared.steps.Step.TheVariants as kind
use Rattle.formula.specs.Bytes.{Here, NotHere, NoDigit, IsDigit, Ran, none, next, RanOut}
use Rattle.formula.specs.Heads.{LeafAt, BreaksIn}

-- As long as there are digits, and below their power of 10.
pub ran_on : {text : List ℕ} {n most top j v k : ℕ} → Ran text n most top j v k → j ≡ n + k
ran_on none = omega arith
ran_on (next j v k r h e f g) = omega (arith, ran_on r)

pub ran_below : {text : List ℕ} {n most top j v k : ℕ} → Ran text n most top j v k → v < 10 ^ k
ran_below none = omega arith
ran_below {text = text} (next j v k r h e f g) =
    rw (pow-suc 10 k) (omega (arith, ran_below r, digit_below (get_or text j 0) e))

ran_none : {text : List ℕ} {n most top j v : ℕ} → Ran text n most top j v 0 → (j ≡ n) × (v ≡ 0)
ran_none none = (refl, refl)

-- Digit by digit, as long as one more may stand there.
pub record Running (text : List ℕ) (n most top j v k : ℕ) : Type 0 where
  pub ran : Ran text n most top j v k
  pub within : j ≤ length text
  pub some : k ≤ most
  pub small : v ≤ top

abbrev run_of : ℕ → ℕ → ℕ → Run
run_of j v k = record { at = j; value = v; count = k }

pub running_start : (text : List ℕ) (n most top : ℕ) → n ≤ length text → Running text n most top n 0 0
running_start text n most top h = record { ran = none; within = h; some = omega arith; small = omega arith }

module _ (text : List ℕ) (n most top j v k : ℕ) (s : Running text n most top j v k) where
  out : (j < length text
      → (is_digit (get_or text j 0) && (leb (suc k) most && leb (10 * v + (get_or text j 0 - 48)) top)) ≡ false)
      → RanOut text n most top (run_of j v k)
  out f = record { ran = s.ran; within = s.within; some = s.some; small = s.small; ends = f }

  pub out_all : most ≤ k → RanOut text n most top (run_of j v k)
  out_all h = out (λ w. rw (lt-leb (suc k) most (omega arith)) (none (is_digit (get_or text j 0))))
    where
      none : (t : Bool) → (t && false) ≡ false
      none true = refl
      none false = refl

  pub out_none : NoDigit text j → RanOut text n most top (run_of j v k)
  out_none h =
      out
      (λ w. ap (λ t. t && (leb (suc k) most && leb (10 * v + (get_or text j 0 - 48)) top)) (h.none w))

  module _ (b : ℕ) (d : IsDigit text j b) where
    pub out_top : top < 10 * v + b → RanOut text n most top (run_of j v k)
    out_top h =
        out (λ w. rw (← d.value, lt-leb (10 * v + b) top h) (none (is_digit (get_or text j 0)) (leb (suc k) most)))
      where
        none : (t u : Bool) → (t && (u && false)) ≡ false
        none true true = refl
        none true false = refl
        none false u = refl

    pub running_next : k < most → 10 * v + b ≤ top → Running text n most top (j + 1) (10 * v + b) (k + 1)
    running_next l m =
        record {
          ran = rw (add-one j, add-one k, d.value) (next j v k s.ran d.within d.digit l (rw (← d.value) m));
          within = omega (arith, d.within);
          some = omega arith;
          small = m;
        }

-- The reader's modes.
ran_digits : {text : List ℕ} {n j v : ℕ} (k : ℕ) → Ran text n 5 32767 j v (suc k)
    → ModeRead text n j (after (digits v (suc k)))
ran_digits {text = text} {n = n} zero (next j v k none h e f g) =
    let q : 10 * 0 + (get_or text n 0 - 48) ≡ get_or text n 0 - 48 = omega arith in
    rw q (digit_start text n h e)
ran_digits {text = text} {n = n} (suc i) (next j v k r h e f g) =
    digit_step text n j v (suc i) (ran_digits {j = j} i r) h e f g

ran_decimals : {text : List ℕ} {n m v j f : ℕ} (k : ℕ) → ModeRead text n m (point v) → Ran text m 4 9999 j f (suc k)
    → ModeRead text n j (after (decimals v f (suc k)))
ran_decimals {text = text} {n = n} {m = m} {v = v} zero p (next j f k none h e g i) =
    let q : 10 * 0 + (get_or text m 0 - 48) ≡ get_or text m 0 - 48 = omega arith in
    rw q (decimal_start text n m v p h e)
ran_decimals {text = text} {n = n} {v = v} (suc c) p (next j f k r h e g i) =
    decimal_step text n j v f (suc c) (ran_decimals {j = j} c p r) h e g

-- None: no digit stands there.
digit_free : (b most top : ℕ) → 1 ≤ most → 9 ≤ top → (is_digit b && (leb 1 most && leb (b - 48) top)) ≡ false
    → is_digit b ≡ false
digit_free b most top h g e = by (is_digit b) refl
  where
    by : (t : Bool) → is_digit b ≡ t → is_digit b ≡ false
    by false f = f
    by true f =
        let d = digit_below b f in
        absurd (true≢false (sym (rw (f, le-leb 1 most h, le-leb (b - 48) top (omega arith))) ∙ e))

pub none_there : (text : List ℕ) (n most top : ℕ) (r : Run) → 1 ≤ most → 9 ≤ top → RanOut text n most top r
    → r.count ≡ 0 → NoDigit text n
none_there text n most top r h g o e = by r.at r.value r.count e o.ran o.ends
  where
    by : (j v k : ℕ) → k ≡ 0 → Ran text n most top j v k
        → (j < length text
        → (is_digit (get_or text j 0) && (leb (suc k) most && leb (10 * v + (get_or text j 0 - 48)) top)) ≡ false)
        → NoDigit text n
    by j v zero q none f =
        record {
          none = λ w. let z : 10 * 0 + (get_or text n 0 - 48) ≡ get_or text n 0 - 48 = omega arith in
              digit_free (get_or text n 0) most top h g (rw z at (f w));
        }
    by j v (suc k) q x f = absurd (omega arith)

-- A whole number, with no point after it.
small_whole : (v : ℕ) → v ≤ 32767 → 65536 * v < 2147483648
small_whole v h = omega arith

pub whole_at : (text : List ℕ) (n : ℕ) (r : Run) → RanOut text n 5 32767 r → r.count ≢ 0
    → NotHere text r.at 46 → LeafAt text n r.at (kind.Number (65536 * r.value))
unfolding clauses_at
whole_at text n r o f q =
    record {
      tree = number (pos (whole_units r.value));
      read = λ d. whole_read text n r.at d r.value r.count (mode r.at r.value r.count f o.ran)
          (λ w. (o.ends w, q.other w));
      clause = λ s. refl;
      small = small_whole r.value o.small;
      on = omega (arith, ran_on o.ran, some r.count f);
      within = o.within;
    }
  where
    mode : (j v k : ℕ) → k ≢ 0 → Ran text n 5 32767 j v k → ModeRead text n j (after (digits v k))
    mode j v zero g x = absurd (g refl)
    mode j v (suc k) g x = ran_digits k x

    some : (k : ℕ) → k ≢ 0 → 1 ≤ k
    some zero g = absurd (g refl)
    some (suc k) g = omega arith

-- The point after one.
pub point_at : (text : List ℕ) (n : ℕ) (r : Run) → RanOut text n 5 32767 r → r.count ≢ 0 → Here text r.at 46
    → ModeRead text n (r.at + 1) (point r.value)
point_at text n r o f h = rw (add-one r.at) (by r.count f o.ran)
  where
    by : (k : ℕ) → k ≢ 0 → Ran text n 5 32767 r.at r.value k → ModeRead text n (suc r.at) (point r.value)
    by zero g x = absurd (g refl)
    by (suc k) g x = point_step text n r.at r.value (suc k) (ran_digits k x) h.within h.byte

pub no_decimals : (text : List ℕ) (n m v : ℕ) → ModeRead text n m (point v) → NoDigit text m → BreaksIn text n m
no_decimals text n m v p f = record { stops = λ d. by d (ltb m (length text)) refl }
  where
    by : (d : ℕ) (t : Bool) → ltb m (length text) ≡ t → ItemStops text n d (breaks m)
    by d true e =
        let w = ltb-true m (length text) e in
        no_decimal text n m d v p w (f.none w)
    by d false e =
        let w = ltb-false m (length text) e in
        mode_ends text n m d (point v) p (omega (arith, p.within)) (λ l k. refl)

-- The decimals after it.
pub part_below : (f t : ℕ) → f < t → 65536 * f / t < 65536
part_below f t h = (div-lt_iff_lt-mul {k = t} {x = 65536 * f} {y = 65536} (omega arith)).1 (omega arith)

few : (k : ℕ) → k ≤ 3 → 10 ^ k ≤ 1000
few zero h = omega arith
few (suc zero) h = omega arith
few (suc (suc zero)) h = omega arith
few (suc (suc (suc zero))) h = omega arith
few (suc (suc (suc (suc k)))) h = absurd (omega arith)

drop_top : (x y z : Bool) → (x && (y && z)) ≡ false → (x ≡ true → y ≡ true → z ≡ true) → (x && y) ≡ false
drop_top false y z e f = refl
drop_top true false z e f = refl
drop_top true true z e f = absurd (true≢false (sym (f refl refl) ∙ e))

pub decimal_at : (text : List ℕ) (n m v t : ℕ) (r : Run) → ModeRead text n m (point v) → n < m → v ≤ 32767
    → RanOut text m 4 9999 r → r.count ≢ 0 → t ≡ 10 ^ r.count
    → LeafAt text n r.at (kind.Number (65536 * v + 65536 * r.value / t))
unfolding clauses_at
decimal_at text n m v t r p on h o f e =
    let j = r.at in
    let b = get_or text j 0 in
    rw e
    (record {
      tree = number (pos (decimal_units v r.value r.count));
      read = λ d. decimal_read text n j d v r.value r.count (mode j r.value r.count f o.ran)
          (λ w. drop_top (is_digit b) (leb (suc r.count) 4) (leb (10 * r.value + (b - 48)) 9999) (o.ends w)
          (λ g q. le-leb (10 * r.value + (b - 48)) 9999
          (top r.value r.count b (ran_below o.ran) (leb-true (suc r.count) 4 q) (digit_below b g))));
      clause = λ s. refl;
      small = omega (arith, part_below r.value (10 ^ r.count) (ran_below o.ran));
      on = omega (arith, ran_on o.ran);
      within = o.within;
    })
  where
    mode : (j x k : ℕ) → k ≢ 0 → Ran text m 4 9999 j x k → ModeRead text n j (after (decimals v x k))
    mode j x zero g y = absurd (g refl)
    mode j x (suc k) g y = ran_decimals k p y

    top : (x k b : ℕ) → x < 10 ^ k → suc k ≤ 4 → b - 48 ≤ 9 → 10 * x + (b - 48) ≤ 9999
    top x k b l g q = omega (arith, few k (omega arith))
