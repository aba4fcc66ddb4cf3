-- The places of a number in decimal.
use Rattle.std.specs.Prelude.{◌≡◌, ℕ, ◌^◌, ◌≤◌, max}

-- A 1 in one of the places where v has digits is worth p. Of 0 the ones are such a place.
pub record Place (v p : ℕ) : Type 0 where
  pub exponent : ℕ
  pub power : p ≡ 10 ^ exponent
  pub held : p ≤ max 1 v
