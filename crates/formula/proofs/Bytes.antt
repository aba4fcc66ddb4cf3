-- What a byte of the text, or its end, tells of the place where it was read.
use Rattle.std.proofs.Common.{◌≡◌, sym, ◌∙◌, ap, List, ℕ, ◌≤◌, ◌<◌, length, get_or, arith, Option, None, Some}
use Rattle.std.proofs.Common.{not, Bool, true, false, ◌+◌, ◌-◌, drop, length-drop, get_or-drop}
use Rattle.std.specs.List.{prefix_len}
use Rattle.std.proofs.lemmas.List.Sums.{prefix_len-le-length, prefix_len_passes, prefix_len_stops}
use Rattle.formula_rules.specs.FormulaCalls.{Blank}
use mathlib.Core.Bool.{true≢false}
use lib.Dec.{eqb}
use borrow.Author.Tests.{eqb-true, eqb-false, not-true, not-false}
use Rattle.std.specs.Option.{option_eq}
use Rattle.formula.specs.Bytes.{Here, NotHere, IsByteAt}

pub other : (text : List ℕ) (n b : ℕ) (o : Option ℕ) → IsByteAt text n o → (o ≡ Some b → ⊥) → NotHere text n b
other text n b None h f = record { other = λ w. absurd (omega arith) }
other text n b (Some a) h f = record { other = λ w q. f (ap Some (sym h.byte ∙ q)) }

pub here : (text : List ℕ) (n b : ℕ) (o : Option ℕ) → IsByteAt text n o → o ≡ Some b → Here text n b
here text n b o h e = rw e at h

-- The byte that was read, and another; the end.
pub here_is : {text : List ℕ} {n a b : ℕ} → Here text n a → a ≡ b → Here text n b
here_is h e = record { within = h.within; byte = h.byte ∙ e }

pub not_here : {text : List ℕ} {n a b : ℕ} → Here text n a → (a ≡ b → ⊥) → NotHere text n b
not_here h f = record { other = λ w q. f (sym h.byte ∙ q) }

pub past_end : {text : List ℕ} {n b : ℕ} → length text ≤ n → NotHere text n b
past_end h = record { other = λ w. absurd (omega arith) }

-- What the test for a byte told.
pub is_other : (text : List ℕ) (n b : ℕ) (o : Option ℕ) → IsByteAt text n o → not (option_eq eqb o (Some b)) ≡ true
    → NotHere text n b
is_other text n b None h e = past_end h
is_other text n b (Some a) h e = not_here h (eqb-false a b (not-true (eqb a b) e))

pub is_here : (text : List ℕ) (n b : ℕ) (o : Option ℕ) → IsByteAt text n o → not (option_eq eqb o (Some b)) ≡ false
    → Here text n b
is_here text n b None h e = absurd (true≢false e)
is_here text n b (Some a) h e = here_is h (eqb-true a b (not-false (eqb a b) e))

-- The spaces that what is left of the text begins with.
module _ (text : List ℕ) (n : ℕ) (h : n ≤ length text) where
  pub blank_at : Blank text n (n + prefix_len (λ b. eqb b 32) (drop n text))
  blank_at =
      let p : ℕ → Bool = λ b. eqb b 32 in
      let s = drop n text in
      record {
        from = omega arith;
        within = omega (arith, prefix_len-le-length p s, length-drop n text);
        each = λ i f l. let k : i - n < prefix_len p s = omega arith in
            let e : n + (i - n) ≡ i = omega arith in
            let w = prefix_len_passes p s (i - n) 0 k in
            eqb-true (get_or text i 0) 32 (rw (get_or-drop n text (i - n) 0, e) at w);
        ends = λ l. let k : prefix_len p s < length s = omega (arith, length-drop n text) in
            let w = prefix_len_stops p s 0 k in
            eqb-false (get_or text (n + prefix_len p s) 0) 32 (rw (get_or-drop n text (prefix_len p s) 0) at w);
      }
