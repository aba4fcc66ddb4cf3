-- The declared point as the rules' one, and the cases of a probe's answer: the number and the value that each stands for.
use Rattle.std.specs.Prelude.{ℕ, zero, suc, ℤ, pos, negsuc, eqb, false, Float}
use Rattle.std.specs.Float.{fin}
use Rattle.rules.specs.Values.{pick}
use Rattle.rules.specs.Probes.{Point, stored_float}
use Rattle.promises.specs.declared.Point as declared-point
use Rattle.promises.specs.declared.Probe.{Probe}
use Rattle.promises.specs.declared.Probe.TheVariants.{Inside, Outside, Surface, Refused}

abbrev pub point_in : declared-point.Point → Point
point_in p = record { x = p.x; y = p.y; z = p.z }

-- "The answer is inside with its value, outside with its value, or surface where the value is 0." Inside is where there
-- is material, below 0.
abbrev pub side_of : ℤ → Probe
side_of (pos zero) = Surface
side_of (pos (suc a)) = Outside (stored_float (pos (suc a)))
side_of (negsuc a) = Inside (stored_float (negsuc a))

-- A number other than 0 is a refusal.
abbrev pub probe_of : ℕ → ℤ → Probe
probe_of n v = pick (eqb n 0) (side_of v) Refused

-- The answer for callers without enums: 0 refused, 1 inside, 2 outside, 3 surface; +0 where there is no value.
abbrev pub side_number : Probe → ℕ
side_number (Inside x) = 1
side_number (Outside x) = 2
side_number Surface = 3
side_number Refused = 0

abbrev pub side_value : Probe → Float
side_value (Inside x) = x
side_value (Outside x) = x
side_value Surface = fin false 0 (pos 0)
side_value Refused = fin false 0 (pos 0)
