-- A probe under the cursor: what a coordinate means, the sample it is rounded to, line 20, the value in the answer.
use Rattle.std.specs.Prelude.{◌≡◌, Bool, true, false, ◌&&◌, not, List, [], ◌∷◌, ℤ, pos, neg_ℤ, ◌+ℤ◌, ◌*ℤ◌, ℕ, ◌+◌, ◌-◌, ◌*◌, ◌/◌, ◌%◌, ◌^◌, eqb, leb, Float}
use Rattle.std.specs.Float.{nan, inf, fin, binary64}
use Rattle.std.specs.Float.Ieee.{up, down, of_int, div}
use Rattle.rules.specs.Values.{pick, when, first_fault, below, fraction, Sample}
use Rattle.rules.specs.Tapes.{read_tape, value_at}

-- "The viewer has a point given as three f64 coordinates". A coordinate is what its 64 bits mean, by the kit's account
-- of IEEE 754: `nan` is not a number, `inf` infinite, and `fin s m e` is m·2^e, negative where s is true.
pub record Point : Type 0 where
  pub x : Float
  pub y : Float
  pub z : Float

-- The fraction that a coordinate is: over/under, since 2^e is up e/down e. What is not a number or infinite is none,
-- and line 20 refuses it; 0/1 stands there.
abbrev pub signed : Bool → ℕ → ℤ
signed s n = pick s (neg_ℤ (pos n)) (pos n)

abbrev pub over : Float → ℤ
over nan = pos 0
over (inf s) = pos 0
over (fin s m e) = signed s (m * up e)

abbrev pub under : Float → ℕ
under nan = 1
under (inf s) = 1
under (fin s m e) = down e

abbrev pub is_finite : Float → Bool
is_finite nan = false
is_finite (inf s) = false
is_finite (fin s m e) = true

-- The same from the 64 bits alone: the highest is the sign, 11 are the exponent, 52 the digits. It counts units of
-- 2^−1,074. Where the exponent is 0 there is no leading digit; where it is 2,047 the bits mean no fraction.
abbrev pub bits_exponent : ℕ → ℕ
bits_exponent b = b % 2 ^ 63 / 2 ^ 52

abbrev pub bits_over : ℕ → ℤ
bits_over b =
    let x = bits_exponent b in
    let t = b % 2 ^ 52 in signed (leb (2 ^ 63) b) (pick (eqb x 0) t ((2 ^ 52 + t) * 2 ^ (x - 1)))

-- "Each is rounded down to a unit of 1/65,536": floor(65,536·over/under).
abbrev pub rounded_down : Float → ℤ
rounded_down c = fraction (over c) (under c)

abbrev pub rounded_point : Point → Sample
rounded_point p = record { x = rounded_down p.x; y = rounded_down p.y; z = rounded_down p.z }

-- "Over whole numbers: never above the coordinate, less than one unit below it." v/65,536 and (v + 1)/65,536 against
-- over/under, all times 65,536·under.
pub record RoundsDown (c : Float) (v : ℤ) : Type 0 where
  pub never_above : below (over c *ℤ pos 65536) (v *ℤ pos (under c)) ≡ false
  pub within_a_unit : below (over c *ℤ pos 65536) ((v +ℤ pos 1) *ℤ pos (under c)) ≡ true

-- "20 when a coordinate is not a number, infinite, or above 32,767 in magnitude, tested after the tape."
abbrev pub coordinate_limit : ℕ
coordinate_limit = 32767

unfoldable pub coordinate_ok : Float → Bool
coordinate_ok nan = false
coordinate_ok (inf s) = false
coordinate_ok (fin s m e) = leb (m * up e) (coordinate_limit * down e)

unfoldable pub point_fault : Point → ℕ
point_fault p = when (not (coordinate_ok p.x && (coordinate_ok p.y && coordinate_ok p.z))) 20

abbrev pub probe_lines : List ℕ → Point → List ℕ
probe_lines s p = (read_tape s).number ∷ (point_fault p ∷ [])

abbrev pub probe_fault : List ℕ → Point → ℕ
probe_fault s p = first_fault (probe_lines s p)

-- "that value is the full tape's at the rounded point".
abbrev pub probed_value : List ℕ → Point → ℤ
probed_value s p = value_at (read_tape s).tape (rounded_point p)

-- "The f64 in the answer is exactly the stored number divided by 65,536": the number as an f64, divided by 2^16. That
-- neither step rounds is the statement below.
unfoldable pub stored_float : ℤ → Float
stored_float v = div binary64 (of_int binary64 v) (fin false 1 (pos 16))

pub record Exactly (v : ℤ) (x : Float) : Type 0 where
  pub finite : is_finite x ≡ true
  pub same : over x *ℤ pos 65536 ≡ v *ℤ pos (under x)
