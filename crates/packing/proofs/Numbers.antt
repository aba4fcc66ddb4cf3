-- That a lent list's numbers are of 32 bits, as its type says: told at each clause that is read, and gathered over all.
use mathlib.Core.Path.{◌≡◌, refl, ap}
use mathlib.Core.Bool.{true}
use mathlib.Core.List.{List, [], ◌∷◌}
use Prim.Native.Nat.{ℕ, ◌+◌, ◌*◌, ◌≤◌}
use native.Mathlib.Omega.{arith}
use lib.IntN.{ℤ, pos, negsuc}
use lib.ListN.{length, drop, drop_of_length-le}
use lib.Seq.{drop-drop}
use borrow.Author.Tests.{le-leb}
use Rattle.rules.specs.Tapes.{Raw, raws_of, in32, all_in32}
use Rattle.tape.specs.declared.Fields.{Fields}
use Rattle.tape.specs.Clauses.{raw_of}
use Rattle.tape.proofs.FieldValues.{small}

-- The five numbers of a clause.
pub record InWords (r : Raw) : Type 0 where
  pub opcode : in32 r.opcode ≡ true
  pub out : in32 r.out ≡ true
  pub left : in32 r.left ≡ true
  pub right : in32 r.right ≡ true
  pub constant : in32 r.constant ≡ true

in_word : (z : ℤ) → small z → in32 z ≡ true
in_word (pos a) h = le-leb a 2147483647 (omega arith)
in_word (negsuc a) h = le-leb a 2147483647 (omega arith)

-- Where the bounds stand in what is told of a clause that is read.
pub in_words : (f : Fields) {A B C D E U : Type 0}
    → (A × small f.opcode) ×
    ((B × small f.out) × ((C × small f.left) × ((D × small f.right) × ((E × small f.constant) × U))))
    → InWords (raw_of f)
in_words f t =
    record {
      opcode = in_word f.opcode t.0.1;
      out = in_word f.out t.1.0.1;
      left = in_word f.left t.1.1.0.1;
      right = in_word f.right t.1.1.1.0.1;
      constant = in_word f.constant t.1.1.1.1.0.1;
    }

clause_words : (ws : List ℤ) (r : Raw) (rs : List Raw) → raws_of ws ≡ r ∷ rs → InWords r → all_in32 (drop 5 ws) ≡ true
    → all_in32 ws ≡ true
unfolding raws_of all_in32
clause_words [] r rs e w h = refl
clause_words (a ∷ []) r rs e w h = absurd (omega (arith, ap length e))
clause_words (a ∷ (b ∷ [])) r rs e w h = absurd (omega (arith, ap length e))
clause_words (a ∷ (b ∷ (c ∷ []))) r rs e w h = absurd (omega (arith, ap length e))
clause_words (a ∷ (b ∷ (c ∷ (d ∷ [])))) r rs e w h = absurd (omega (arith, ap length e))
clause_words (a ∷ (b ∷ (c ∷ (d ∷ (k ∷ zs))))) r rs e w h =
    cc (e, w.opcode, w.out, w.left, w.right, w.constant, h)

-- Before the i-th clause: if the numbers from there on are of 32 bits, all are.
pub record Gathered (zs : List ℤ) (i : ℕ) : Type 0 where
  pub all : all_in32 (drop (5 * i) zs) ≡ true → all_in32 zs ≡ true

pub none_gathered : (zs : List ℤ) → Gathered zs 0
none_gathered zs = record { all = λ h. h }

module _ (zs : List ℤ) (i : ℕ) (g : Gathered zs i) where
  pub one_gathered : (r : Raw) (rs : List Raw) → raws_of (drop (5 * i) zs) ≡ r ∷ rs → InWords r → Gathered zs (i + 1)
  one_gathered r rs e w =
      let n : 5 * i + 5 ≡ 5 * (i + 1) = omega arith in
      record {
        all = λ h. g.all (clause_words (drop (5 * i) zs) r rs e w (rw (drop-drop 5 (5 * i) zs, n) h));
      }

  pub all_gathered : (k : ℕ) → length zs ≡ 5 * k → k ≤ i → all_in32 zs ≡ true
  unfolding all_in32
  all_gathered k e l = g.all (rw (drop_of_length-le zs {i = 5 * i} (omega arith)) refl)
