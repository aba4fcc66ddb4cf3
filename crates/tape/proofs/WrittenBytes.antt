-- What each writing call stores: runs of bytes one after the other, a constant's four, the head's and a clause's.
use mathlib.Core.Path.{◌≡◌, refl, ap, ◌∙◌}
use mathlib.Core.List.{List, [], ◌∷◌, ◌++◌}
use Prim.Native.Nat.{ℕ, suc, ◌+◌, ◌/◌}
use native.Mathlib.Numerals.{add-one}
use native.Mathlib.Omega.{arith}
use lib.IntN.{ℤ, pos, negsuc}
use lib.ListN.{length, set}
use lib.Seq.{sets}
use mir.Syntax.{w32}
use mir.Val.{SFits, of_z}
use Rattle.rules.specs.Tapes.{nat, raw4, two, four, clause_of, clause_bytes}
use Rattle.tape.specs.declared.Fields.{Fields}
use Rattle.tape.specs.Clauses.{raw_of}
use Rattle.tape.proofs.FieldValues.{Kept, kept, kept_is}

-- Two stores are a run, and a run of stores right after another is one run.
pub pair_stored : (l : List ℕ) (i a b : ℕ) → set (set l i a) (i + 1) b ≡ sets l i (a ∷ (b ∷ []))
pair_stored l i a b = ap (λ k. set (set l i a) k b) (add-one i)

pub runs : (vs ws l : List ℕ) (i j : ℕ) → j ≡ i + length vs → sets (sets l i vs) j ws ≡ sets l i (vs ++ ws)
runs [] ws l i j e = let f : j ≡ i = omega arith in ap (λ k. sets l k ws) f
runs (v ∷ vs) ws l i j e = runs vs ws _ (suc i) j (omega arith)

pub and_then : (l m n vs ws : List ℕ) (i j : ℕ) → m ≡ sets l i vs → n ≡ sets m j ws → j ≡ i + length vs
    → n ≡ sets l i (vs ++ ws)
and_then l m n vs ws i j p q e = q ∙ ap (λ x. sets x j ws) p ∙ runs vs ws l i j e

-- Four runs, as the head and a clause have them: the first three of two bytes each.
module _ (l o₁ o₂ o₃ o₄ : List ℕ) (i j k m a b c d e f : ℕ) (vs : List ℕ) where
  pub four_runs : j ≡ i + 2 → k ≡ i + 4 → m ≡ i + 6 → o₁ ≡ sets l i (a ∷ (b ∷ [])) → o₂ ≡ sets o₁ j (c ∷ (d ∷ []))
      → o₃ ≡ sets o₂ k (e ∷ (f ∷ [])) → o₄ ≡ sets o₃ m vs → o₄ ≡ sets l i (a ∷ (b ∷ (c ∷ (d ∷ (e ∷ (f ∷ vs))))))
  four_runs x y z p q r s =
      let two_runs = and_then l o₁ o₂ (a ∷ (b ∷ [])) (c ∷ (d ∷ [])) i j p q x in
      let three-runs = and_then l o₂ o₃ (a ∷ (b ∷ (c ∷ (d ∷ [])))) (e ∷ (f ∷ [])) i k two_runs r y in
      and_then l o₃ o₄ (a ∷ (b ∷ (c ∷ (d ∷ (e ∷ (f ∷ [])))))) vs i m three-runs s z

-- A constant's bits, as the library takes them, and its four bytes.
bits_are : (z : ℤ) → of_z w32 z ≡ raw4 z
bits_are (pos a) = refl
bits_are (negsuc a) = omega arith

pub four_stored : (l o₁ o₂ : List ℕ) (i v : ℕ) (z : ℤ) → SFits w32 z → v ≡ of_z w32 (kept z) → o₁ ≡ sets l i (two v)
    → o₂ ≡ sets o₁ (i + 2) (two (v / 65536)) → o₂ ≡ sets l i (four z)
four_stored l o₁ o₂ i v z h e p q =
    let same : v ≡ raw4 z = e ∙ ap (of_z w32) (kept_is z h.sfits) ∙ bits_are z in
    and_then l o₁ o₂ (two v) (two (v / 65536)) i (i + 2) p q refl ∙ ap (λ x. sets l i (two x ++ two (x / 65536))) same

-- A clause's ten, from its fields as they were cast.
pub clause_stored : (l o₁ o₂ o₃ o₄ : List ℕ) (i o t x y : ℕ) (f : Fields) → Kept f → o ≡ nat (kept f.opcode)
    → t ≡ nat (kept f.out) → x ≡ nat (kept f.left) → y ≡ nat (kept f.right) → o₁ ≡ sets l i (67 ∷ (76 ∷ []))
    → o₂ ≡ sets o₁ (i + 2) (o ∷ (t ∷ [])) → o₃ ≡ sets o₂ (i + 4) (x ∷ (y ∷ []))
    → o₄ ≡ sets o₃ (i + 6) (four (kept f.constant)) → o₄ ≡ sets l i (clause_bytes (clause_of (raw_of f) ∷ []))
unfolding clause_bytes
clause_stored l o₁ o₂ o₃ o₄ i o t x y f k po pt px py p q r s =
    let z = kept f.constant in
    let eo : o ≡ nat f.opcode = po ∙ ap nat k.opcode in
    let et : t ≡ nat f.out = pt ∙ ap nat k.out in
    let ex : x ≡ nat f.left = px ∙ ap nat k.left in
    let ey : y ≡ nat f.right = py ∙ ap nat k.right in
    let c = clause_of (raw_of f) in
    let same : 67 ∷ (76 ∷ (o ∷ (t ∷ (x ∷ (y ∷ four z))))) ≡
    67 ∷ (76 ∷ (c.opcode ∷ (c.out ∷ (c.left ∷ (c.right ∷ four c.constant))))) = cc k.constant in
    four_runs l o₁ o₂ o₃ o₄ i (i + 2) (i + 4) (i + 6) 67 76 o t x y (four z) refl refl refl p q r s ∙ ap (sets l i) same
