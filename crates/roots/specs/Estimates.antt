-- The float of a number, the first estimate of its root, and the last one.
use Rattle.std.specs.Prelude.{◌≡◌, false, not, ℕ, ◌+◌, ◌*◌, ◌/◌, ◌%◌, ◌≤◌, ◌<◌, T, ℤ, pos, negsuc, Float}
use Rattle.std.specs.Float.{fin, binary64}
use Rattle.std.specs.Float.Ieee.{add, of_int, is_nan, to_bits, of_bits}
use Rattle.std.specs.Float.Ieee.Exact.{HasValue}
use Rattle.rules.specs.Values.{root_of}

-- m + 2^-17.
abbrev pub number_of : ℕ → Float
number_of m = add binary64 (of_int binary64 (pos m)) (fin false 1 (negsuc 16))

-- Half of a float's pattern, and that of its root's exponent.
abbrev pub half_of : Float → ℕ
half_of x = to_bits binary64 x / 2 + 0x1FF76C0000000000

abbrev pub first_of : Float → Float
first_of x = of_bits binary64 (half_of x)

-- The float of a number that has the root of z.
pub record Number (z : ℤ) (x : Float) : Type 0 where
  pub part : ℕ
  pub bound : part < 2147483648
  pub root : root_of (pos part) ≡ root_of z
  pub is : x ≡ number_of part

-- A float, half of whose pattern is a float's too.
pub record Halves (x : Float) : Type 0 where
  pub some : T (not (is_nan x))
  pub half : half_of x ≤ 0x7ff0000000000000

-- The last digits of t.
abbrev pub digits_of : Float → ℕ
digits_of t = to_bits binary64 t % 16777216

-- t is 2^44 and e 256ths, where e is the root of 65,536·m or one more.
pub record Estimate (m : ℕ) (t : Float) : Type 0 where
  pub value : HasValue t false (4503599627370496 + digits_of t) 256
  pub low : (k : ℕ) → k + 1 ≡ digits_of t → k * k ≤ 65536 * m
  pub high : 65536 * m < (digits_of t + 1) * (digits_of t + 1)
