-- One entry by its verdict, the entries in their order, and the whole table.
use mathlib.Core.Path.{◌≡◌, refl, sym, ap, ap₂, ◌∙◌}
use mathlib.Core.Bool.{Bool, true, false, ◌&&◌, ◌||◌, not}
use mathlib.Core.List.{List}
use Prim.Native.Nat.{ℕ, zero, suc, ◌+◌, ◌-◌, ◌*◌, ◌<◌, ◌≤◌}
use native.Mathlib.Omega.{arith}
use native.Mathlib.Decide.{dec_lt}
use native.Mathlib.Numerals.{add-one}
use lib.Dec.{eqb}
use lib.ListN.{length, take, drop}
use borrow.Author.Tests.{eq-eqb, ne_eqb, le-leb, lt-leb}
use Rattle.rules.specs.Tapes.{Tape, read_tape}
use Rattle.rules.specs.Drawings.{Grid}
use Rattle.picture.proofs.Answers.{stops, goes_on_lem}
use Rattle.table_rules.specs.Tables.{head_length, entry_length, tile_limit, table_length, entry_at, entry_in, verdict_in}
use Rattle.verdicts.specs.Verdicts.{byte_of}
use Rattle.verdicts.specs.declared.verdict.Verdict.{Verdict}
use Rattle.verdicts.specs.declared.verdict.Verdict.TheVariants.{Unknown, Full, Empty, Kept}
use Rattle.table_rules.specs.Tables.{marks_in, kept_ok, entry_ok, entries_ok, same_bytes, table_head, table_ok}

-- Each verdict but the last is below it.
pub below_kept : (v : Verdict) → (v ≡ Kept → ⊥) → byte_of v < 3
below_kept Unknown n = omega arith
below_kept Full n = omega arith
below_kept Empty n = omega arith
below_kept Kept n = absurd (n refl)

module _ (t : Tape) (e : List ℕ) where
  pub entry_above : 3 < verdict_in e → false ≡ entry_ok t e
  unfolding entry_ok
  entry_above h = stops (not (eqb (verdict_in e) 3) || kept_ok t (marks_in t e)) (lt-leb (verdict_in e) 3 h)

  pub entry_below : verdict_in e ≤ 3 → (verdict_in e ≡ 3 → ⊥) → true ≡ entry_ok t e
  unfolding entry_ok
  entry_below h n =
      goes_on_lem (le-leb (verdict_in e) 3 h)
      (sym (ap (λ d. not d || kept_ok t (marks_in t e)) (ne_eqb (verdict_in e) 3 n)))

  pub entry_kept : {r : Bool} → verdict_in e ≡ 3 → r ≡ kept_ok t (marks_in t e) → r ≡ entry_ok t e
  unfolding entry_ok
  entry_kept v k =
      goes_on_lem (le-leb (verdict_in e) 3 (omega arith))
      (k ∙ sym (ap (λ d. not d || kept_ok t (marks_in t e)) (eq-eqb (verdict_in e) 3 v)))

-- The first i entries.
pub record EntriesSo (t : Tape) (b : List ℕ) (i : ℕ) : Type 0 where
  pub pass : entries_ok i t b ≡ true

module _ (t : Tape) (b : List ℕ) where
  pub entries_start : EntriesSo t b 0
  unfolding entries_ok
  entries_start = record { pass = refl }

  pub entries_next : (i : ℕ) → EntriesSo t b i → entry_ok t (entry_in i b) ≡ true → EntriesSo t b (i + 1)
  unfolding entries_ok
  entries_next i p e =
      record { pass = ap (λ j. entries_ok j t b) (add-one i) ∙ ap₂ (λ x y. x && y) p.pass e }

  pub entries_end : (n i : ℕ) → i ≡ n → EntriesSo t b i → true ≡ entries_ok n t b
  entries_end n i e p = sym (ap (λ j. entries_ok j t b) (sym e) ∙ p.pass)

  pub entries_stop : (n i : ℕ) → i < n → entry_ok t (entry_in i b) ≡ false → false ≡ entries_ok n t b
  unfolding entries_ok
  entries_stop zero i h e = absurd (omega arith)
  entries_stop (suc n) i h e = elim (dec_lt i n) [
    | yes l ↦ ap (λ x. x && entry_ok t (entry_in n b)) (entries_stop n i l e)
    | no l ↦ (let k : i ≡ n = omega arith in
        sym (ap (λ x. entries_ok n t b && x) (ap (λ j. entry_ok t (entry_in j b)) (sym k) ∙ e) ∙ none (entries_ok n t b)))
  ]
    where
      none : (x : Bool) → (x && false) ≡ false
      none true = refl
      none false = refl

-- The bytes of an entry.
pub entry_part : (i : ℕ) (b : List ℕ)
    → (let a = head_length + entry_length * i in take (a + entry_length - a) (drop a b) ≡ entry_in i b)
unfolding entry_in
entry_part i b =
    let e : head_length + entry_length * i + entry_length - (head_length + entry_length * i) ≡ entry_length = omega arith in
    ap (λ j. take j (drop (entry_at i) b)) e

-- The lines of the table in their order: its length, its head, its entries.
module _ (s : List ℕ) (g : Grid) (b : List ℕ) where
  abbrev head : Bool
  head = same_bytes (take head_length b) (table_head s g)

  abbrev rest : Bool
  rest = entries_ok tile_limit (read_tape s).tape b

  pub table_short : (length b ≡ table_length → ⊥) → false ≡ table_ok s g b
  unfolding table_ok
  table_short n = stops (head && rest) (ne_eqb (length b) table_length n)

  pub table_other : length b ≡ table_length → head ≡ false → false ≡ table_ok s g b
  unfolding table_ok
  table_other l h = goes_on_lem (eq-eqb (length b) table_length l) (stops rest h)

  pub table_rest : {r : Bool} → length b ≡ table_length → head ≡ true → r ≡ rest → r ≡ table_ok s g b
  unfolding table_ok
  table_rest l h e = goes_on_lem (eq-eqb (length b) table_length l) (goes_on_lem h e)
