-- The byte of a row of samples: its bits, as the code makes it from the first pixels, and with one sample more.
use mathlib.Core.Path.{◌≡◌, refl, sym, ap, ◌∙◌}
use mathlib.Core.Bool.{Bool, true, false}
use mathlib.Core.List.{List, [], ◌∷◌, ◌++◌}
use Prim.Native.Nat.{ℕ, zero, suc, ◌+◌, ◌-◌, ◌*◌, ◌/◌, ◌%◌, ◌^◌, ◌<◌, ◌≤◌, max}
use native.Mathlib.Nat.{add-mul-div_right, add_comm, pow-suc, one-mul, zero-add, add-mul, mod-eq_of_lt, div-eq_of_lt}
use native.Mathlib.Nat.{zero-div, zero-mul, suc-sub-suc, sub-zero}
use native.Mathlib.Omega.{arith}
use mir.Val.{bool_byte}
use lib.Bits.{bit_and, bit_or, or_shr, or_step, or_shifted}
use lib.Dec.{ltb}
use lib.ListN.{length, get_or, replicate, length-replicate, get_or-replicate, get_or-eq_default}
use lib.Pow.{pow-add, pow-lt, pow_pos, high}
use borrow.Author.Tests.{ltb-true, ltb-false}
use Rattle.rules.specs.Values.{when}
use Rattle.picture.specs.Bits.{bit, row_byte_from, row_byte}

pub bit_or_lem : (j a b : ℕ) → bit j (bit_or a b) ≡ max (bit j a) (bit j b)
bit_or_lem j a b = rw or_shr (omega (arith, or_step (a / 2 ^ j) (b / 2 ^ j)))

-- The bits of a row's byte.
pub row_byte_lt : (n : ℕ) (bs : List Bool) → row_byte_from n bs < 2 ^ n
unfolding row_byte_from
row_byte_lt zero bs = omega arith
row_byte_lt (suc n) [] = pow_pos (suc n)
row_byte_lt (suc n) (true ∷ bs) = omega (arith, row_byte_lt n bs, pow-suc 2 n)
row_byte_lt (suc n) (false ∷ bs) = omega (arith, row_byte_lt n bs, pow-suc 2 n)

bit_add : (j d x : ℕ) → bit j (2 ^ (suc d + j) + x) ≡ bit j x
bit_add j d x =
    rw (pow-add 2 (suc d) j, add_comm, add-mul-div_right x (2 ^ suc d) (pow_pos j)) (omega (arith, pow-suc 2 d))

bit_first : (n x : ℕ) (b : Bool) → x < 2 ^ n → bit n (when b (2 ^ n) + x) ≡ when b 1
bit_first n x true l = ap (λ a. (a + x) / 2 ^ n % 2) (sym (one-mul (2 ^ n))) ∙ ap (λ a. a % 2) (high 1 n l)
bit_first n x false l = rw (zero-add, div-eq_of_lt l)

bit_later : (n j x : ℕ) (b : Bool) → j < n → bit j (when b (2 ^ n) + x) ≡ bit j x
bit_later n j x true l =
    let e : n ≡ suc (n - suc j) + j = omega arith in
    ap (λ m. bit j (2 ^ m + x)) e ∙ bit_add j (n - suc j) x
bit_later n j x false l = rw zero-add

pub bit_zero : (j : ℕ) → bit j 0 ≡ 0
bit_zero j = rw zero-div

row_byte_from_lem : (n k : ℕ) (bs : List Bool) → k < n → bit (n - suc k) (row_byte_from n bs) ≡ when (get_or bs k false) 1
unfolding row_byte_from
row_byte_from_lem zero k bs l = absurd (omega arith)
row_byte_from_lem (suc n) k [] l = bit_zero (suc n - suc k)
row_byte_from_lem (suc n) zero (b ∷ bs) l =
    rw (suc-sub-suc, sub-zero) (bit_first n (row_byte_from n bs) b (row_byte_lt n bs))
row_byte_from_lem (suc n) (suc k) (b ∷ bs) l =
    rw suc-sub-suc
    (bit_later n (n - suc k) (row_byte_from n bs) b (omega arith) ∙ row_byte_from_lem n k bs (omega arith))

pub row_byte_bits : (k : ℕ) (bs : List Bool) → k < 8 → bit (7 - k) (row_byte bs) ≡ when (get_or bs k false) 1
row_byte_bits k bs l =
    let e : 7 - k ≡ 8 - suc k = omega arith in
    ap (λ j. bit j (row_byte bs)) e ∙ row_byte_from_lem 8 k bs l

-- The byte of the first pixels, as the code makes it.
first_byte : (m : ℕ) → 1 ≤ m → m ≤ 8 → bit_and (65280 / 2 ^ m) 255 ≡ row_byte (replicate m true)
unfolding row_byte_from
first_byte zero l u = absurd (omega arith)
first_byte (suc zero) l u = refl
first_byte (suc (suc zero)) l u = refl
first_byte (suc (suc (suc zero))) l u = refl
first_byte (suc (suc (suc (suc zero)))) l u = refl
first_byte (suc (suc (suc (suc (suc zero))))) l u = refl
first_byte (suc (suc (suc (suc (suc (suc zero)))))) l u = refl
first_byte (suc (suc (suc (suc (suc (suc (suc zero))))))) l u = refl
first_byte (suc (suc (suc (suc (suc (suc (suc (suc zero)))))))) l u = refl
first_byte (suc (suc (suc (suc (suc (suc (suc (suc (suc m))))))))) l u = absurd (omega arith)

pub first_in_lem : (m k : ℕ) → get_or (replicate m true) k false ≡ ltb k m
first_in_lem m k = by (ltb k m) refl
  where
    by : (t : Bool) → ltb k m ≡ t → get_or (replicate m true) k false ≡ t
    by true e = get_or-replicate m k true false (ltb-true k m e)
    by false e =
        get_or-eq_default (replicate m true) false (omega (arith, ltb-false k m e, length-replicate m true))

pub first_bits : (m k : ℕ) → 1 ≤ m → m ≤ 8 → k < 8 → bit (7 - k) (bit_and (65280 / 2 ^ m) 255) ≡ when (ltb k m) 1
first_bits m k l u o =
    ap (bit (7 - k)) (first_byte m l u) ∙ row_byte_bits k (replicate m true) o ∙ ap (λ t. when t 1) (first_in_lem m k)

-- The byte with one more sample.
row_byte_none : (n : ℕ) → row_byte_from n [] ≡ 0
unfolding row_byte_from
row_byte_none zero = refl
row_byte_none (suc n) = refl

row_byte_more : (n : ℕ) (bs : List Bool) (b : Bool) → length bs < n
    → row_byte_from n (bs ++ (b ∷ [])) ≡ row_byte_from n bs + when b (2 ^ (n - suc (length bs)))
unfolding row_byte_from
row_byte_more zero bs b l = absurd (omega arith)
row_byte_more (suc n) [] b l = rw (suc-sub-suc, sub-zero) (omega (arith, row_byte_none n))
row_byte_more (suc n) (a ∷ bs) b l =
    rw suc-sub-suc (omega (arith, row_byte_more n bs b (omega arith)))

-- Its bits past the samples are 0.
rest_more : (n k : ℕ) (a : Bool) (x : ℕ) → k ≤ n → (q : ℕ) × (x ≡ q * 2 ^ (n - k))
    → (r : ℕ) × (when a (2 ^ n) + x ≡ r * 2 ^ (suc n - suc k))
rest_more n k true x l (q, e) =
    let s : k + (n - k) ≡ n = omega arith in
    (2 ^ k + q, rw (suc-sub-suc, add-mul, ← pow-add, s, e))
rest_more n k false x l (q, e) = (q, rw (suc-sub-suc, zero-add) e)

row_byte_rest : (n : ℕ) (bs : List Bool) → length bs ≤ n
    → (q : ℕ) × (row_byte_from n bs ≡ q * 2 ^ (n - length bs))
unfolding row_byte_from
row_byte_rest zero bs l = (0, sym (zero-mul (2 ^ (0 - length bs))))
row_byte_rest (suc n) [] l = (0, sym (zero-mul (2 ^ (suc n - 0))))
row_byte_rest (suc n) (a ∷ bs) l = rest_more n (length bs) a (row_byte_from n bs) (omega arith)
    (row_byte_rest n bs (omega arith))

-- The bit that the code joins.
pixel_bit : (k : ℕ) (b : Bool) → k < 8 → bool_byte b * 2 ^ (7 - k) % 256 ≡ when b (2 ^ (8 - suc k))
pixel_bit k true l =
    let e : 7 - k ≡ 8 - suc k = omega arith in
    let m : 2 ^ (7 - k) < 2 ^ 8 = pow-lt {i = 7 - k} {j = 8} (omega arith) in
    rw (← e, one-mul (2 ^ (7 - k))) (mod-eq_of_lt m)
pixel_bit k false l = rw (zero-mul (2 ^ (7 - k)))

pixel_lt : (k : ℕ) (b : Bool) → k < 8 → when b (2 ^ (8 - suc k)) < 2 ^ (8 - k)
pixel_lt k true l = pow-lt (omega arith)
pixel_lt k false l = pow_pos (8 - k)

joined : (x k : ℕ) (b : Bool) → k < 8 → (q : ℕ) × (x ≡ q * 2 ^ (8 - k))
    → bit_or x (bool_byte b * 2 ^ (7 - k) % 256) ≡ x + when b (2 ^ (8 - suc k))
joined x k b l (q, e) = rw (pixel_bit k b l, e) (or_shifted q (8 - k) (when b (2 ^ (8 - suc k))) (pixel_lt k b l))

pub with_pixel_lem : (x k : ℕ) (b : Bool) (bs : List Bool) → k < 8 → length bs ≡ k → x ≡ row_byte bs
    → bit_or x (bool_byte b * 2 ^ (7 - k) % 256) ≡ row_byte (bs ++ (b ∷ []))
with_pixel_lem x k b bs l e f =
    rw (f, ← e) (joined (row_byte bs) (length bs) b (omega arith) (row_byte_rest 8 bs (omega arith))
    ∙ sym (row_byte_more 8 bs b (omega arith)))
