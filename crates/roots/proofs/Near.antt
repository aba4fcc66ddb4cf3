-- Numbers that are the same but for some parts in 10^12, and two laws on products.
use mathlib.Core.Path.{◌≡◌, refl, ap}
use mathlib.Core.Bool.{Bool, true, false}
use lib.Dec.{ltb}
use Prim.Native.Nat.{ℕ, ◌+◌, ◌*◌, ◌-◌, ◌≤◌, ◌<◌}
use native.Mathlib.Omega.{arith}
use native.Mathlib.Nat.{mul-le-mul, mul-le-mul_left, mul-le-mul_right, le_of_mul-le-mul_left, le_of_mul-le-mul_right}
use borrow.Author.Tests.{ltb-true, ltb-false}

abbrev pub whole : ℕ
whole = 1000000000000

-- a and b are the same but for k parts in 10^12.
pub record Near (k a b : ℕ) : Type 0 where
  pub up : whole * a ≤ (whole + k) * b
  pub down : whole * b ≤ (whole + k) * a

pub near_sym : {k a b : ℕ} → Near k a b → Near k b a
near_sym n = record { up = n.down; down = n.up }

pub near_more : {k a b : ℕ} (l : ℕ) → k ≤ l → Near k a b → Near l a b
near_more {k} {a} {b} l h n =
    let i = mul-le-mul_right a h in
    let j = mul-le-mul_right b h in
    record { up = omega arith; down = omega arith }

up_trans : (k l a b c : ℕ) → k * l ≤ whole → whole * a ≤ (whole + k) * b → whole * b ≤ (whole + l) * c
    → whole * a ≤ (whole + (k + l + 1)) * c
up_trans k l a b c h p q =
    let i : whole * (whole * a) ≤ whole * ((whole + k) * b) = mul-le-mul_left whole p in
    let j : (whole + k) * (whole * b) ≤ (whole + k) * ((whole + l) * c) = mul-le-mul_left (whole + k) q in
    let r : k * l * c ≤ whole * c = mul-le-mul_right c h in
    let s : whole * (whole * a) ≤ whole * ((whole + (k + l + 1)) * c) = omega arith in
    le_of_mul-le-mul_left s (omega arith)

up_mul : (k l a b c d : ℕ) → k * l ≤ whole → whole * a ≤ (whole + k) * b → whole * c ≤ (whole + l) * d
    → whole * (a * c) ≤ (whole + (k + l + 1)) * (b * d)
up_mul k l a b c d h p q =
    let i : whole * a * (whole * c) ≤ (whole + k) * b * ((whole + l) * d) = mul-le-mul p q in
    let r : k * l * (b * d) ≤ whole * (b * d) = mul-le-mul_right (b * d) h in
    let s : whole * (whole * (a * c)) ≤ whole * ((whole + (k + l + 1)) * (b * d)) = omega arith in
    le_of_mul-le-mul_left s (omega arith)

up_times : (k m a b : ℕ) → whole * a ≤ (whole + k) * b → whole * (a * m) ≤ (whole + k) * (b * m)
up_times k m a b p = let i : whole * a * m ≤ (whole + k) * b * m = mul-le-mul_right m p in omega arith

up_cancel : (k m a b : ℕ) → 0 < m → whole * (a * m) ≤ (whole + k) * (b * m) → whole * a ≤ (whole + k) * b
up_cancel k m a b h p = let i : whole * a * m ≤ (whole + k) * b * m = omega arith in le_of_mul-le-mul_right i h

pub near_trans : (k l : ℕ) {a b c : ℕ} → k * l ≤ whole → Near k a b → Near l b c → Near (k + l + 1) a c
near_trans k l {a} {b} {c} h m n =
    let s : l * k ≤ whole = omega arith in
    let d : whole * c ≤ (whole + (l + k + 1)) * a = up_trans l k c b a s n.down m.down in
    record { up = up_trans k l a b c h m.up n.up; down = omega arith }

pub near_mul : (k l : ℕ) {a b c d : ℕ} → k * l ≤ whole → Near k a b → Near l c d → Near (k + l + 1) (a * c) (b * d)
near_mul k l {a} {b} {c} {d} h m n =
    record { up = up_mul k l a b c d h m.up n.up; down = up_mul k l b a d c h m.down n.down }

pub near_times : {k a b : ℕ} (m : ℕ) → Near k a b → Near k (a * m) (b * m)
near_times {k} {a} {b} m n = record { up = up_times k m a b n.up; down = up_times k m b a n.down }

pub near_cancel : {k : ℕ} (a b m : ℕ) → 0 < m → Near k (a * m) (b * m) → Near k a b
near_cancel {k} a b m h n = record { up = up_cancel k m a b h n.up; down = up_cancel k m b a h n.down }

pub near_add : {k a b c d : ℕ} → Near k a b → Near k c d → Near k (a + c) (b + d)
near_add m n = record { up = omega arith; down = omega arith }

-- the same numbers in other words
pub near_same : {k a b : ℕ} (c d : ℕ) → a ≡ c → b ≡ d → Near k a b → Near k c d
near_same {k} {a} {b} c d p q n = rw (← p, ← q) n

-- greater times greater and smaller times smaller is most
pub sorted : (a b c d : ℕ) → b ≤ a → d ≤ c → a * d + b * c ≤ a * c + b * d
sorted a b c d h l = by (a - b) (omega arith)
  where
    by : (i : ℕ) → b + i ≡ a → a * d + b * c ≤ a * c + b * d
    by i e =
        let j : (b + i) * d ≡ a * d = ap (λ n. n * d) e in
        let k : (b + i) * c ≡ a * c = ap (λ n. n * c) e in
        let r : i * d ≤ i * c = mul-le-mul_left i l in
        omega arith

-- (a + b)² is at least 4·a·b
pub four_products : (a b : ℕ) → 4 * (a * b) ≤ (a + b) * (a + b)
four_products a b = by (ltb a b) refl
  where
    by : (t : Bool) → ltb a b ≡ t → 4 * (a * b) ≤ (a + b) * (a + b)
    by true e = let h = ltb-true a b e in let s = sorted b a b a (omega arith) (omega arith) in omega arith
    by false e = let h = ltb-false a b e in let s = sorted a b a b h h in omega arith

-- and not much more, if neither of a and b is less than i / j of the other
pub few_products : (i j a b : ℕ) → i * b ≤ j * a → i * a ≤ j * b → i * j * ((a + b) * (a + b)) ≤ (i + j) * (i + j) * (a * b)
few_products i j a b h l = let s = sorted (j * a) (i * b) (j * b) (i * a) h l in omega arith
