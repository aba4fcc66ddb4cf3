-- The tests of one signed field, as the code makes them and as the rules state them.
use mathlib.Core.Path.{◌≡◌, refl, sym, ap, ap₂, ◌∙◌}
use mathlib.Core.Bool.{Bool, true, false, ◌&&◌}
use Prim.Native.Nat.{ℕ, zero, suc, ◌-◌, ◌<◌}
use native.Mathlib.Omega.{arith}
use lib.IntN.{ℤ, pos, negsuc}
use lib.Signed.{le_z, lt_z, mag}
use lib.Dec.{eqb, leb, leb-zero, leb-suc-zero, eqb-suc-zero}
use mir.Syntax.{w32}
use mir.Val.{SFits, of_z}
use mir.Facts.{to_z-of_z}
use borrow.Author.Tests.{eq-eqb, ne_eqb, eqb-true, eqb-false}
use Rattle.rules.specs.Tapes.{last_opcode, is_slot, is_zero, is_opcode, least_word, nat}
use Rattle.tape.proofs.FieldValues.{kept}

-- Two tests of equality that hold at the same numbers.
same_eqb : (a b c d : ℕ) → (a ≡ b → c ≡ d) → (c ≡ d → a ≡ b) → eqb a b ≡ eqb c d
same_eqb a b c d f g = at (eqb c d) refl
  where
    at : (t : Bool) → eqb c d ≡ t → eqb a b ≡ eqb c d
    at true e = eq-eqb a b (g (eqb-true c d e)) ∙ sym e
    at false e = ne_eqb a b (λ h. eqb-false c d e (f h)) ∙ sym e

le_nat : (k : ℕ) (z : ℤ) → le_z (pos (suc k)) z ≡ leb (suc k) (nat z)
le_nat k (pos a) = refl
le_nat k (negsuc a) = sym (leb-suc-zero k)

pub uses_test : (k : ℕ) (z : ℤ) → SFits w32 z → le_z (pos (suc k)) (kept z) ≡ leb (suc k) (nat z)
uses_test k z f = ap (le_z (pos (suc k))) (to_z-of_z f) ∙ le_nat k z

zero_nat : (z : ℤ) → le_z z (pos 0) ≡ eqb (nat z) 0
zero_nat (pos zero) = refl
zero_nat (pos (suc a)) = leb-suc-zero a ∙ sym (eqb-suc-zero a)
zero_nat (negsuc a) = refl

pub constant_test : (z : ℤ) → SFits w32 z → le_z (kept z) (pos 0) ≡ eqb (nat z) 0
constant_test z f = ap (λ x. le_z x (pos 0)) (to_z-of_z f) ∙ zero_nat z

opcode_at_lem : (z : ℤ) → (le_z (pos 0) z && le_z z (pos last_opcode)) ≡ is_opcode z
opcode_at_lem (pos a) = rw leb-zero
opcode_at_lem (negsuc a) = refl

pub opcode_test : (z : ℤ) → SFits w32 z → (le_z (pos 0) (kept z) && le_z (kept z) (pos last_opcode)) ≡ is_opcode z
opcode_test z f = ap (λ x. le_z (pos 0) x && le_z x (pos last_opcode)) (to_z-of_z f) ∙ opcode_at_lem z

pub zero_test : (z : ℤ) → mag z < 2147483648 → eqb (of_z w32 z) 0 ≡ is_zero z
zero_test (pos a) h = refl
zero_test (negsuc a) h = ne_eqb (4294967296 - suc a) 0 (λ e. omega arith)

pub least_test : (z : ℤ) → mag z < 2147483648 → eqb (of_z w32 z) 2147483648 ≡ least_word z
least_test (pos a) h = ne_eqb a 2147483648 (λ e. omega arith)
least_test (negsuc a) h = same_eqb (4294967296 - suc a) 2147483648 a 2147483647 (λ e. omega arith) (λ e. omega arith)

slot_at : (n : ℕ) (z : ℤ) → (le_z (pos 0) z && lt_z z (pos n)) ≡ is_slot n z
slot_at n (pos a) = rw leb-zero
slot_at n (negsuc a) = refl

pub slot_test : (n : ℕ) (z : ℤ) → SFits w32 z → SFits w32 (pos n)
    → (le_z (pos 0) (kept z) && lt_z (kept z) (kept (pos n))) ≡ is_slot n z
slot_test n z f g = ap₂ (λ x y. le_z (pos 0) x && lt_z x y) (to_z-of_z f) (to_z-of_z g) ∙ slot_at n z
