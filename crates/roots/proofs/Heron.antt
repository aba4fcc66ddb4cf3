-- Two of Heron's steps with one division, each rounded: how far the estimate is off the root, and that it is at most
-- one step above it.
use mathlib.Core.Path.{◌≡◌, refl, ap}
use mathlib.Core.Bool.{Bool, true, false}
use lib.Dec.{ltb, lit≤, lit<}
use Prim.Native.Nat.{ℕ, zero, suc, ◌+◌, ◌*◌, ◌^◌, ◌≤◌, ◌<◌}
use native.Mathlib.Omega.{arith}
use native.Mathlib.Nat.{mul-one, mul_comm, mul-pos, mul-le-mul, mul-le-mul_left, mul-le-mul_right, le_of_mul-le-mul_right}
use borrow.Author.Tests.{ltb-true, ltb-false}
use Rattle.roots.proofs.Rounding.{Within}
use Rattle.roots.proofs.Near.{
  whole,
  Near,
  near_sym,
  near_more,
  near_trans,
  near_mul,
  near_times,
  near_cancel,
  near_add,
  near_same,
  four_products,
  few_products,
}

-- From a first estimate a of the root of x to a better one, t; S stands for 1, and f for 8391169 / 8388608.
pub record Steps (S f x a q u v z w n d g t : ℕ) : Type 0 where
  pub unit : 0 < S
  pub some : 0 < x
  pub low : 932 * (x * S) ≤ 1000 * (a * a)
  pub high : 1000 * (a * a) ≤ 1072 * (x * S)
  pub q_is : Within q (a * a) S
  pub u_is : Within u (q + x) 1
  pub v_is : Within v (u * u) S
  pub z_is : Within z (v * 8187) 32768
  pub w_is : Within w (q * x) S
  pub n_is : Within n (z + w) 1
  pub d_is : Within d (a * u) S
  pub f_is : 8388608 * f ≡ 8391169 * S
  pub g_is : Within g (f * S) d
  pub t_is : Within t (n * g) S

near_of_lem : {r y d : ℕ} → Within r y d → Near 1 (r * d) y
near_of_lem h = record { up = omega arith; down = omega arith }

-- parts in a thousand, some of them given up for the rounding
low_of : (x y z : ℕ) → Near 1 z y → 932 * x ≤ 1000 * y → 9318 * x ≤ 10000 * z
low_of x y z h l = omega arith

high_of : (x y z : ℕ) → Near 1 z y → 1000 * y ≤ 1072 * x → 9318 * z ≤ 10000 * x
high_of x y z h l = omega arith

-- From p = 4·o, nearly, to 8187·p = 32768·o to 2 parts in 3127.
squares_low : (p r o : ℕ) → Near 3 p r → 4 * o ≤ r → 3125 * (32768 * o) ≤ 3127 * (8187 * p)
squares_low p r o h l = omega arith

squares_high : (p r o : ℕ) → Near 3 p r → 93180000 * r ≤ 373185124 * o → 3125 * (8187 * p) ≤ 3127 * (32768 * o)
squares_high p r o h l = omega arith

-- Products in another order.
last_two : (a b c : ℕ) → a * b * c ≡ a * c * b
last_two a b c = omega arith

by_one : (a b c : ℕ) → a * 1 * (b * c) ≡ a * b * c
by_one a b c = omega arith

both_by : (a b c d : ℕ) → (a + b) * (c * d) ≡ a * c * d + b * c * d
both_by a b c d = omega arith

squares : (a b : ℕ) → a * a * (b * b) ≡ a * b * (a * b)
squares a b = omega arith

squares_by : (a b c : ℕ) → a * b * (a * b) * (c * c) ≡ a * c * b * (a * c * b)
squares_by a b c = omega arith

squared : (d S : ℕ) → d * S * (d * S) ≡ d * d * S * S
squared d S = omega arith

moved : (d S g c : ℕ) → d * d * S * (g * g * c) ≡ g * d * (g * d) * c * S
moved d S g c = omega arith

ones_last : (t S d k : ℕ) → t * S * (d * k) ≡ t * k * d * S
ones_last t S d k = omega arith

swapped : (n g d k : ℕ) → n * g * (d * k) ≡ g * d * (n * k)
swapped n g d k = omega arith

in_parts : (n b S c : ℕ) → n * b * S * c ≡ n * c * b * S
in_parts n b S c = omega arith

-- f is c / k
of_factor : (S f n k c : ℕ) → k * f ≡ c * S → f * S * (n * k) ≡ n * c * S * S
of_factor S f n k c e = let i : k * f * (n * S) ≡ c * S * (n * S) = ap (λ y. y * (n * S)) e in omega arith

-- p and q are factors of both sides, and go.
low_free : (S x q p g m : ℕ) → 0 < q * p → whole * (m * S) ≤ (whole + 25) * (g * 1073741824 * (q * p))
    → 4 * (8187 * p * (32768 * (q * x))) ≤ m
    → whole * (8187 * (x * S)) ≤ (whole + 25) * (8192 * g)
low_free S x q p g m o h l =
    let i : 4 * (8187 * p * (32768 * (q * x))) * S ≤ m * S = mul-le-mul_right S l in
    let j : whole * (8187 * (x * S)) * (q * p) ≤ (whole + 25) * (8192 * g) * (q * p) = omega arith in
    le_of_mul-le-mul_right j o

high_free : (S x q p g m : ℕ) → 0 < q * p → whole * (g * 1073741824 * (q * p)) ≤ (whole + 25) * (m * S)
    → 9771875 * m ≤ 39087504 * (8187 * p * (32768 * (q * x)))
    → whole * (9771875 * (8192 * g)) ≤ (whole + 25) * (9771876 * (8187 * (x * S)))
high_free S x q p g m o h l =
    let i : 9771875 * m * S ≤ 39087504 * (8187 * p * (32768 * (q * x))) * S = mul-le-mul_right S l in
    let j : whole * (9771875 * (8192 * g)) * (q * p) ≤ (whole + 25) * (9771876 * (8187 * (x * S))) * (q * p) = omega arith in
    le_of_mul-le-mul_right j o

-- a bound on the square of s is one on that of s·c
scaled_low : (p q x s c : ℕ) → 4 * (8187 * p * (32768 * (q * x))) ≤ s * s
    → 4 * (8187 * p * (32768 * (q * (x * (c * c))))) ≤ s * c * (s * c)
scaled_low p q x s c h =
    let i : 4 * (8187 * p * (32768 * (q * x))) * (c * c) ≤ s * s * (c * c) = mul-le-mul_right (c * c) h in
    omega arith

scaled_high : (p q x s c : ℕ) → 9771875 * (s * s) ≤ 39087504 * (8187 * p * (32768 * (q * x)))
    → 9771875 * (s * c * (s * c)) ≤ 39087504 * (8187 * p * (32768 * (q * (x * (c * c)))))
scaled_high p q x s c h =
    let i : 9771875 * (s * s) * (c * c) ≤ 39087504 * (8187 * p * (32768 * (q * x))) * (c * c) = mul-le-mul_right (c * c) h in
    omega arith

-- the square of the factor c / k against a / b
square_low : (S x t k c a b : ℕ) → 0 < k → a * (k * k) ≤ b * (c * c)
    → whole * (8187 * (x * (c * c) * S)) ≤ (whole + 25) * (8192 * (t * k * (t * k)))
    → whole * (8187 * (a * (x * S))) ≤ (whole + 25) * (8192 * (b * (t * t)))
square_low S x t k c a b o f h =
    let i : a * (k * k) * (x * S) ≤ b * (c * c) * (x * S) = mul-le-mul_right (x * S) f in
    let l : b * (whole * (8187 * (x * (c * c) * S))) ≤ b * ((whole + 25) * (8192 * (t * k * (t * k)))) = mul-le-mul_left b h in
    let j : whole * (8187 * (a * (x * S))) * (k * k) ≤ (whole + 25) * (8192 * (b * (t * t))) * (k * k) = omega arith in
    le_of_mul-le-mul_right j (mul-pos o o)

square_high : (S x t k c a b : ℕ) → 0 < k → b * (c * c) ≤ a * (k * k)
    → whole * (9771875 * (8192 * (t * k * (t * k)))) ≤ (whole + 25) * (9771876 * (8187 * (x * (c * c) * S)))
    → whole * (9771875 * (8192 * (b * (t * t)))) ≤ (whole + 25) * (9771876 * (8187 * (a * (x * S))))
square_high S x t k c a b o f h =
    let i : b * (c * c) * (x * S) ≤ a * (k * k) * (x * S) = mul-le-mul_right (x * S) f in
    let l : b * (whole * (9771875 * (8192 * (t * k * (t * k))))) ≤ b * ((whole + 25) * (9771876 * (8187 * (x * (c * c) * S)))) = mul-le-mul_left b h in
    let j : whole * (9771875 * (8192 * (b * (t * t)))) * (k * k) ≤ (whole + 25) * (9771876 * (8187 * (a * (x * S)))) * (k * k) = omega arith in
    le_of_mul-le-mul_right j (mul-pos o o)

-- that of 8391169 / 8388608 is between 11470 / 11463 and 3277 / 3275
low_end : (x t : ℕ) → whole * (8187 * (11470 * x)) ≤ (whole + 25) * (8192 * (11463 * t))
    → 99999993 * x ≤ 100000000 * t
low_end x t h = omega arith

high_parts : (x t : ℕ) → whole * (9771875 * (8192 * t)) ≤ (whole + 25) * (9771876 * (8187 * x)) → 1000000000 * t ≤ 999389751 * x
high_parts x t h = omega arith

high_end : (x t : ℕ) → 1000000000 * (3275 * t) ≤ 999389751 * (3277 * x) → 100000000 * t ≤ 100000007 * x
high_end x t h = omega arith

products : (i j k l a b : ℕ) → i * (j * a) ≤ k * (l * b) → i * j * a ≤ k * l * b
products i j k l a b h = omega arith

pos_of : (i j a b : ℕ) → 0 < a → suc i * a ≤ j * b → 0 < b
pos_of i j a zero h l = absurd (omega arith)
pos_of i j a (suc b) h l = omega arith

module _ {S f x a q u v z w n d g t : ℕ} (s : Steps S f x a q u v z w n d g t) where
  -- q is x to 7 parts in a hundred
  q_low : 9318 * x ≤ 10000 * q
  q_low =
      let h = low_of (x * S) (a * a) (q * S) (near_of_lem s.q_is) s.low in
      let j : 9318 * x * S ≤ 10000 * q * S = omega arith in
      le_of_mul-le-mul_right j s.unit

  q_high : 9318 * q ≤ 10000 * x
  q_high =
      let h = high_of (x * S) (a * a) (q * S) (near_of_lem s.q_is) s.high in
      let j : 9318 * q * S ≤ 10000 * x * S = omega arith in
      le_of_mul-le-mul_right j s.unit

  square_near : Near 3 (u * 1 * (u * 1)) ((q + x) * (q + x))
  square_near = let i = near_of_lem s.u_is in near_mul 1 1 (lit≤ tt) i i

  u_near : Near 3 (u * u) ((q + x) * (q + x))
  u_near = near_same (u * u) ((q + x) * (q + x)) (rw (mul-one u)) refl square_near

  -- u·u is 4 products of q and x, but for some parts in a thousand
  u_low : 3125 * (32768 * (q * x)) ≤ 3127 * (8187 * (u * u))
  u_low = squares_low (u * u) ((q + x) * (q + x)) (q * x) u_near (four_products q x)

  u_high : 3125 * (8187 * (u * u)) ≤ 3127 * (32768 * (q * x))
  u_high =
      squares_high (u * u) ((q + x) * (q + x)) (q * x) u_near (few_products 9318 10000 q x q_low q_high)

  -- what n is, before the rounding, in parts of 32768·S
  abbrev sum : ℕ
  sum = 8187 * (u * u) + 32768 * (q * x)

  -- its square is 4 products of its two parts, but for 11 parts in 10^8
  sum_low : 4 * (8187 * (u * u) * (32768 * (q * x))) ≤ sum * sum
  sum_low = four_products (8187 * (u * u)) (32768 * (q * x))

  sum_high : 9771875 * (sum * sum) ≤ 39087504 * (8187 * (u * u) * (32768 * (q * x)))
  sum_high = few_products 3125 3127 (8187 * (u * u)) (32768 * (q * x)) u_low u_high

  sum_near : Near 5 (n * 32768 * S) sum
  sum_near =
      let zs : Near 1 (z * 32768 * S) (v * 8187 * S) = near_times S (near_of_lem s.z_is) in
      let vs : Near 1 (v * S * 8187) (u * u * 8187) = near_times 8187 (near_of_lem s.v_is) in
      let vt : Near 1 (v * 8187 * S) (8187 * (u * u)) = near_same (v * 8187 * S) (8187 * (u * u)) (last_two v S 8187) (mul_comm (u * u) 8187) vs in
      let zt : Near 3 (z * 32768 * S) (8187 * (u * u)) = near_trans 1 1 (lit≤ tt) zs vt in
      let ws : Near 1 (w * S * 32768) (q * x * 32768) = near_times 32768 (near_of_lem s.w_is) in
      let wt : Near 3 (w * 32768 * S) (32768 * (q * x)) = near_more 3 (lit≤ tt) (near_same (w * 32768 * S) (32768 * (q * x)) (last_two w S 32768) (mul_comm (q * x) 32768) ws) in
      let zw : Near 3 (z * 32768 * S + w * 32768 * S) sum = near_add zt wt in
      let ns : Near 1 (n * 1 * (32768 * S)) ((z + w) * (32768 * S)) = near_times (32768 * S) (near_of_lem s.n_is) in
      let nt : Near 1 (n * 32768 * S) (z * 32768 * S + w * 32768 * S) = near_same (n * 32768 * S) (z * 32768 * S + w * 32768 * S) (by_one n 32768 S) (both_by z w 32768 S) ns in
      near_trans 1 3 (lit≤ tt) nt zw

  -- d·d is q·u·u
  d_near : Near 5 (d * d * S) (q * (u * u))
  d_near =
      let i = near_of_lem s.d_is in
      let j : Near 3 (d * S * (d * S)) (a * u * (a * u)) = near_mul 1 1 (lit≤ tt) i i in
      let k : Near 1 (a * a * (u * u)) (q * S * (u * u)) = near_times (u * u) (near_sym (near_of_lem s.q_is)) in
      let l : Near 1 (a * u * (a * u)) (q * (u * u) * S) = near_same (a * u * (a * u)) (q * (u * u) * S) (squares a u) (last_two q S (u * u)) k in
      let m : Near 5 (d * S * (d * S)) (q * (u * u) * S) = near_trans 3 1 (lit≤ tt) j l in
      near_cancel (d * d * S) (q * (u * u)) S s.unit (near_same (d * d * S * S) (q * (u * u) * S) (squared d S) refl m)

  -- t and the sum, each by its part of the factor
  abbrev top : ℕ
  top = t * 8388608

  abbrev all : ℕ
  all = sum * 8391169

  -- t is n / d by the factor
  ratio_near : Near 3 (top * d) (n * 8391169 * S)
  ratio_near =
      let i : Near 1 (t * S * (d * 8388608)) (n * g * (d * 8388608)) = near_times (d * 8388608) (near_of_lem s.t_is) in
      let j : Near 1 (g * d * (n * 8388608)) (f * S * (n * 8388608)) = near_times (n * 8388608) (near_of_lem s.g_is) in
      let k : Near 1 (top * d * S) (g * d * (n * 8388608)) = near_same (top * d * S) (g * d * (n * 8388608)) (ones_last t S d 8388608) (swapped n g d 8388608) i in
      let l : Near 1 (g * d * (n * 8388608)) (n * 8391169 * S * S) = near_same (g * d * (n * 8388608)) (n * 8391169 * S * S) refl (of_factor S f n 8388608 8391169 s.f_is) j in
      near_cancel (top * d) (n * 8391169 * S) S s.unit (near_trans 1 1 (lit≤ tt) k l)

  all_near : Near 5 (n * 8391169 * 32768 * S) all
  all_near = near_same (n * 8391169 * 32768 * S) all (in_parts n 32768 S 8391169) refl (near_times 8391169 sum_near)

  -- t·t·q·u·u is the square of the sum, by that of the factor
  t_near : Near 25 (top * top * 1073741824 * (q * (u * u))) (all * all * S)
  t_near =
      let j : Near 7 (top * d * (top * d)) (n * 8391169 * S * (n * 8391169 * S)) = near_mul 3 3 (lit≤ tt) ratio_near ratio_near in
      let k : Near 7 (top * d * (top * d) * 1073741824) (n * 8391169 * S * (n * 8391169 * S) * 1073741824) = near_times 1073741824 j in
      let l : Near 7 (top * d * (top * d) * 1073741824) (n * 8391169 * 32768 * S * (n * 8391169 * 32768 * S)) = near_same (top * d * (top * d) * 1073741824) (n * 8391169 * 32768 * S * (n * 8391169 * 32768 * S)) refl (squares_by (n * 8391169) S 32768) k in
      let m : Near 11 (n * 8391169 * 32768 * S * (n * 8391169 * 32768 * S)) (all * all) = near_mul 5 5 (lit≤ tt) all_near all_near in
      let o : Near 19 (top * d * (top * d) * 1073741824 * S) (all * all * S) = near_times S (near_trans 7 11 (lit≤ tt) l m) in
      let p : Near 5 (q * (u * u) * (top * top * 1073741824)) (d * d * S * (top * top * 1073741824)) = near_times (top * top * 1073741824) (near_sym d_near) in
      let r : Near 5 (top * top * 1073741824 * (q * (u * u))) (top * d * (top * d) * 1073741824 * S) = near_same (top * top * 1073741824 * (q * (u * u))) (top * d * (top * d) * 1073741824 * S) (mul_comm (q * (u * u)) (top * top * 1073741824)) (moved d S top 1073741824) p in
      near_trans 5 19 (lit≤ tt) r o

  q_pos : 0 < q
  q_pos = pos_of 9317 10000 x q s.some q_low

  qu_pos : 0 < q * (u * u)
  qu_pos = mul-pos q_pos (pos_of 102399999 25600749 (q * x) (u * u) (mul-pos q_pos s.some) (products 3125 32768 3127 8187 (q * x) (u * u) u_low))

  -- t·t is x, but for 7 parts in 10^8
  pub estimate_near : (99999993 * (x * S) ≤ 100000000 * (t * t)) × (100000000 * (t * t) ≤ 100000007 * (x * S))
  estimate_near =
      let i = low_free S (x * (8391169 * 8391169)) q (u * u) (top * top) (all * all) qu_pos t_near.down (scaled_low (u * u) q x sum 8391169 sum_low) in
      let j = high_free S (x * (8391169 * 8391169)) q (u * u) (top * top) (all * all) qu_pos t_near.up (scaled_high (u * u) q x sum 8391169 sum_high) in (
        low_end (x * S) (t * t) (square_low S x t 8388608 8391169 11470 11463 (lit< tt) (lit≤ tt) i),
        high_end (x * S) (t * t) (high_parts (3277 * (x * S)) (3275 * (t * t)) (square_high S x t 8388608 8391169 3277 3275 (lit< tt) (lit≤ tt) j)),
      )

-- ---- from the estimate to the whole number

-- 131,072·x is (131,072·m + 1)·S, so 262,144·x·S is twice that by S
twice_low : (S m x t k : ℕ) → 0 < S → 131072 * x ≡ (131072 * m + 1) * S → (2 * k + 1) * S ≤ 512 * t
    → 100000000 * (t * t) ≤ 100000007 * (x * S)
    → 100000000 * ((2 * k + 1) * (2 * k + 1)) ≤ 100000007 * (2 * (131072 * m + 1))
twice_low S m x t k o e h l =
    let i : (2 * k + 1) * S * ((2 * k + 1) * S) ≤ 512 * t * (512 * t) = mul-le-mul h h in
    let d : 131072 * x * S ≡ (131072 * m + 1) * S * S = ap (λ n. n * S) e in
    let j : 100000000 * ((2 * k + 1) * (2 * k + 1)) * (S * S) ≤ 100000007 * (2 * (131072 * m + 1)) * (S * S) = omega arith in
    le_of_mul-le-mul_right j (mul-pos o o)

twice_high : (S m x t e : ℕ) → 0 < S → 131072 * x ≡ (131072 * m + 1) * S → 512 * t ≤ (2 * e + 1) * S
    → 99999993 * (x * S) ≤ 100000000 * (t * t)
    → 99999993 * (2 * (131072 * m + 1)) ≤ 100000000 * ((2 * e + 1) * (2 * e + 1))
twice_high S m x t e o p h l =
    let i : 512 * t * (512 * t) ≤ (2 * e + 1) * S * ((2 * e + 1) * S) = mul-le-mul h h in
    let d : 131072 * x * S ≡ (131072 * m + 1) * S * S = ap (λ n. n * S) p in
    let j : 99999993 * (2 * (131072 * m + 1)) * (S * S) ≤ 100000000 * ((2 * e + 1) * (2 * e + 1)) * (S * S) = omega arith in
    le_of_mul-le-mul_right j (mul-pos o o)

below_of : (b k : ℕ) → k * k < b * b → k < b
below_of b k h = by (ltb k b) refl
  where
    by : (t : Bool) → ltb k b ≡ t → k < b
    by true e = ltb-true k b e
    by false e = let l = ltb-false k b e in let i = mul-le-mul l l in absurd (omega arith)

-- One step too far would be a part in 1.2e7 too far.
step_low : (m k : ℕ) → m < 2147483648
    → 100000000 * ((2 * k + 1) * (2 * k + 1)) ≤ 100000007 * (2 * (131072 * m + 1))
    → k * k ≤ 65536 * m
step_low m k h l =
    let b = below_of 12000000 k (omega arith) in
    let i : k * k ≤ 12000000 * k = mul-le-mul_right k (omega arith) in
    by (ltb (65536 * m) (k * k)) refl i
  where
    by : (t : Bool) → ltb (65536 * m) (k * k) ≡ t → k * k ≤ 12000000 * k → k * k ≤ 65536 * m
    by true e i = let j = ltb-true (65536 * m) (k * k) e in absurd (omega arith)
    by false e i = ltb-false (65536 * m) (k * k) e

step_high : (m e : ℕ) → m < 2147483648
    → 99999993 * (2 * (131072 * m + 1)) ≤ 100000000 * ((2 * e + 1) * (2 * e + 1))
    → 65536 * m < (e + 1) * (e + 1)
step_high m e h l = by (ltb (65536 * m) ((e + 1) * (e + 1))) refl
  where
    by : (t : Bool) → ltb (65536 * m) ((e + 1) * (e + 1)) ≡ t → 65536 * m < (e + 1) * (e + 1)
    by true d = ltb-true (65536 * m) ((e + 1) * (e + 1)) d
    by false d =
        let j = ltb-false (65536 * m) ((e + 1) * (e + 1)) d in
        let b = below_of 12000000 (e + 1) (omega arith) in
        let i : e * e ≤ 12000000 * e = mul-le-mul_right e (omega arith) in
        absurd (omega arith)

small_of : (m e : ℕ) → m < 2147483648 → ((k : ℕ) → k + 1 ≡ e → k * k ≤ 65536 * m) → e < 16777216
small_of m zero h f = omega arith
small_of m (suc k) h f =
    let i = f k (omega arith) in
    let b = below_of 12000000 k (omega arith) in
    omega arith

-- x is m + 2^-17 ones of S, and e is 256·t, rounded to the nearest.
pub estimate_steps : (S m x t e : ℕ) → 0 < S → m < 2147483648 → 131072 * x ≡ (131072 * m + 1) * S
    → 512 * t ≤ 2 * e * S + S
    → 2 * e * S ≤ 512 * t + S
    → 99999993 * (x * S) ≤ 100000000 * (t * t)
    → 100000000 * (t * t) ≤ 100000007 * (x * S)
    → ((k : ℕ) → k + 1 ≡ e → k * k ≤ 65536 * m) × (65536 * m < (e + 1) * (e + 1)) × (e < 2 ^ 24)
estimate_steps S m x t e o h d u v l r = (low, step_high m e h (twice_high S m x t e o d (omega arith) l), small_of m e h low)
  where
    low : (k : ℕ) → k + 1 ≡ e → k * k ≤ 65536 * m
    low k c =
        let i : (k + 1) * S ≡ e * S = ap (λ n. n * S) c in
        step_low m k h (twice_low S m x t k o d (omega arith) r)
