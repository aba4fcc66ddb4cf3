-- A clause's fields as the code reads them: a signed number that is passed, stored or returned is read back as it was;
-- a slot is cast to the natural number that it is.
use mathlib.Core.Path.{◌≡◌, ap}
use mathlib.Core.Bool.{true}
use Prim.Native.Nat.{ℕ, ◌≤◌, ◌<◌}
use native.Mathlib.Omega.{arith}
use lib.Dec.{T}
use lib.IntN.{ℤ, pos, negsuc, nat_abs}
use lib.Signed.{non_neg, mag}
use mir.Syntax.{w8, w32}
use mir.Val.{SFits, Fits, to_z, of_z}
use mir.Facts.{to_z-of_z}
use borrow.Author.Tests.{ltb-true, lt-ltb}
use Rattle.rules.specs.Tapes.{Raw, is_slot, nat}
use Rattle.tape.specs.declared.Fields.{Fields}

-- A parameter, as an operation reads it.
abbrev pub kept : ℤ → ℤ
kept z = to_z w32 (of_z w32 z)

abbrev pub raw : ℤ → ℤ → ℤ → ℤ → ℤ → Raw
raw a b c d e = record { opcode = a; out = b; left = c; right = d; constant = e }

abbrev pub small : ℤ → Type 0
small z = mag z < 2147483648

pub kept_is : (z : ℤ) → small z → kept z ≡ z
kept_is z h = to_z-of_z {w = w32} (record { sfits = h })

-- A slot, as the code casts it; and one that goes into a byte.
pub slot_cast : (n : ℕ) (z : ℤ) → SFits w32 z → is_slot n z ≡ true
    → T (non_neg (kept z)) × Fits w32 (nat_abs (kept z))
slot_cast n (pos a) f h = rw (to_z-of_z f) (tt, record { fits = omega (arith, f.sfits) })
slot_cast n (negsuc a) f h = let z : ◌≡◌ {A = ℕ} 0 1 = cc in absurd (omega arith)

pub slot_below : (n : ℕ) (z : ℤ) → SFits w32 z → is_slot n z ≡ true → nat_abs (kept z) < n
slot_below n (pos a) f h = rw (to_z-of_z f) (ltb-true a n h)
slot_below n (negsuc a) f h = let z : ◌≡◌ {A = ℕ} 0 1 = cc in absurd (omega arith)

pub slot_nat : (n : ℕ) (z : ℤ) → SFits w32 z → is_slot n z ≡ true → nat_abs (kept z) ≡ nat z
slot_nat n (pos a) f h = ap nat_abs (to_z-of_z f)
slot_nat n (negsuc a) f h = let z : ◌≡◌ {A = ℕ} 0 1 = cc in absurd (omega arith)

pub byte_cast : (z : ℤ) → SFits w32 z → is_slot 256 z ≡ true → T (non_neg (kept z)) × Fits w8 (nat_abs (kept z))
byte_cast (pos a) f h = rw (to_z-of_z f) (tt, record { fits = omega (arith, ltb-true a 256 h) })
byte_cast (negsuc a) f h = let z : ◌≡◌ {A = ℕ} 0 1 = cc in absurd (omega arith)

-- A slot of fewer is one of more.
pub wider : (n m : ℕ) (z : ℤ) → n ≤ m → is_slot n z ≡ true → is_slot m z ≡ true
wider n m (pos a) h e = lt-ltb a m (omega (arith, ltb-true a n e))
wider n m (negsuc a) h e = cc

-- Each field of a clause is what an operation reads of it.
pub record Kept (f : Fields) : Type 0 where
  pub opcode : kept f.opcode ≡ f.opcode
  pub out : kept f.out ≡ f.out
  pub left : kept f.left ≡ f.left
  pub right : kept f.right ≡ f.right
  pub constant : kept f.constant ≡ f.constant

-- What is told of a clause's fields holds the bound of each.
pub all_kept : (f : Fields) {A B C D E U : Type 0}
    → (A × small f.opcode) ×
    ((B × small f.out) × ((C × small f.left) × ((D × small f.right) × ((E × small f.constant) × U))))
    → Kept f
all_kept f t =
    record {
      opcode = kept_is f.opcode t.0.1;
      out = kept_is f.out t.1.0.1;
      left = kept_is f.left t.1.1.0.1;
      right = kept_is f.right t.1.1.1.0.1;
      constant = kept_is f.constant t.1.1.1.1.0.1;
    }
