-- The clauses of a list: the one at a place and those after it; their number; one stored.
use mathlib.Core.Path.{◌≡◌, refl, sym, ap, ◌∙◌}
use mathlib.Core.List.{List, [], ◌∷◌}
use Prim.Native.Nat.{ℕ, zero, suc, ◌+◌, ◌*◌, ◌/◌, ◌≤◌}
use native.Mathlib.Nat.{add-zero}
use native.Mathlib.Omega.{arith}
use lib.IntN.{ℤ, pos}
use lib.ListN.{length, get_or, drop, set, length-drop, drop_of_length-le}
use lib.Seq.{sets, get_or-drop, drop-drop}
use Rattle.rules.specs.Tapes.{raws_of}
use Rattle.tape.specs.declared.Fields.{Fields}
use Rattle.tape.specs.Clauses.{raw_of, five}
use Rattle.tape.proofs.FieldValues.{Kept, raw, kept, small, kept_is}

abbrev at : List ℤ → ℕ → ℤ
at zs i = get_or zs i (pos 0)

first_raw : (zs : List ℤ) → 5 ≤ length zs
    → raws_of zs ≡ raw (at zs 0) (at zs 1) (at zs 2) (at zs 3) (at zs 4) ∷ raws_of (drop 5 zs)
unfolding raws_of
first_raw [] h = absurd (omega arith)
first_raw (a ∷ []) h = absurd (omega arith)
first_raw (a ∷ (b ∷ [])) h = absurd (omega arith)
first_raw (a ∷ (b ∷ (c ∷ []))) h = absurd (omega arith)
first_raw (a ∷ (b ∷ (c ∷ (d ∷ [])))) h = absurd (omega arith)
first_raw (a ∷ (b ∷ (c ∷ (d ∷ (e ∷ zs))))) h = refl

pub raw_at : (zs : List ℤ) (i : ℕ) → i + 5 ≤ length zs → small (at zs i) → small (at zs (i + 1)) → small (at zs (i + 2))
    → small (at zs (i + 3)) → small (at zs (i + 4))
    → raws_of (drop i zs) ≡
    raw (kept (at zs i)) (kept (at zs (i + 1))) (kept (at zs (i + 2))) (kept (at zs (i + 3))) (kept (at zs (i + 4)))
    ∷ raws_of (drop (i + 5) zs)
raw_at zs i h a b c d e =
    let n : 5 ≤ length (drop i zs) = omega (arith, length-drop i zs) in
    let f : at (drop i zs) 0 ≡ at zs i = get_or-drop i zs 0 (pos 0) ∙ ap (at zs) (add-zero i) in
    first_raw (drop i zs) n
    ∙ cc (
      f,
      get_or-drop i zs 1 (pos 0),
      get_or-drop i zs 2 (pos 0),
      get_or-drop i zs 3 (pos 0),
      get_or-drop i zs 4 (pos 0),
      drop-drop 5 i zs,
      kept_is (at zs i) a,
      kept_is (at zs (i + 1)) b,
      kept_is (at zs (i + 2)) c,
      kept_is (at zs (i + 3)) d,
      kept_is (at zs (i + 4)) e,
    )

pub raws_length : (zs : List ℤ) → length (raws_of zs) ≡ length zs / 5
unfolding raws_of
raws_length [] = refl
raws_length (a ∷ []) = refl
raws_length (a ∷ (b ∷ [])) = refl
raws_length (a ∷ (b ∷ (c ∷ []))) = refl
raws_length (a ∷ (b ∷ (c ∷ (d ∷ [])))) = refl
raws_length (a ∷ (b ∷ (c ∷ (d ∷ (e ∷ zs))))) = omega (arith, raws_length zs)

-- As the walk over them goes: from one clause to the next, to the end.
pub raws_next : (zs : List ℤ) (i : ℕ) → raws_of (drop (5 * i + 5) zs) ≡ raws_of (drop (5 * (i + 1)) zs)
raws_next zs i = let e : 5 * i + 5 ≡ 5 * (i + 1) = omega arith in rw e

module _ (zs : List ℤ) (k : ℕ) (h : length zs ≡ 5 * k) where
  pub raws_end : (i : ℕ) → k ≤ i → raws_of (drop (5 * i) zs) ≡ []
  unfolding raws_of
  raws_end i l = ap raws_of (drop_of_length-le zs {i = 5 * i} (omega arith))

  pub raws_count : k ≡ length (raws_of zs)
  raws_count = omega (arith, raws_length zs)

  -- What is left from the i-th on is what the clauses read before it leave.
  pub raws_after : (i : ℕ) → i ≤ k → drop i (raws_of zs) ≡ raws_of (drop (5 * i) zs)
  raws_after zero l = refl
  raws_after (suc i) l =
      let one : i + 1 ≡ suc i = omega arith in
      let n : 5 ≤ length (drop (5 * i) zs) = omega (arith, length-drop (5 * i) zs) in
      ap (λ x. drop x (raws_of zs)) (sym one)
      ∙ sym (drop-drop 1 i (raws_of zs))
      ∙ ap (drop 1) (raws_after i (omega arith) ∙ first_raw (drop (5 * i) zs) n)
      ∙ ap raws_of (drop-drop 5 (5 * i) zs)
      ∙ raws_next zs i
      ∙ ap (λ x. raws_of (drop (5 * x) zs)) one

-- A clause's five numbers, stored.
pub five_stored : (l : List ℤ) (i : ℕ) (f : Fields) → Kept f
    → set
    (set (set (set (set l i (kept f.opcode)) (i + 1) (kept f.out)) (i + 2) (kept f.left)) (i + 3)
    (kept f.right))
    (i + 4)
    (kept f.constant)
    ≡ sets l i (five (raw_of f))
five_stored l i f k =
    let p : i + 1 ≡ suc i = omega arith in
    let q : i + 2 ≡ suc (suc i) = omega arith in
    let r : i + 3 ≡ suc (suc (suc i)) = omega arith in
    let s : i + 4 ≡ suc (suc (suc (suc i))) = omega arith in
    cc (k.opcode, k.out, k.left, k.right, k.constant)
