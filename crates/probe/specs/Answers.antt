-- What a probe answers, on any bytes and any point.
use Rattle.std.specs.Prelude.{◌≡◌, ℕ, List, Result, Ok, Err}
use Rattle.rules.specs.Tapes.{read_tape}
use Rattle.rules.specs.Probes.{probe_fault, probed_value}
use Rattle.promises.specs.declared.Point.{Point}
use Rattle.promises.specs.declared.Probe.{Probe}
use Rattle.promises.specs.declared.Probe.TheVariants.{Refused}
use Rattle.faults.specs.declared.Refusal.{Refusal}
use Rattle.answers.specs.Says.{answer_in}
use Rattle.promises.specs.Sides.{point_in}
use Rattle.promises.specs.Sides.{probe_of}

-- The side that is returned, or that the call is refused.
abbrev pub probe_given : Result Probe Refusal → Probe
probe_given (Ok p) = p
probe_given (Err r) = Refused

-- A tape that is accepted has the place 0.
pub record Found (s : List ℕ) (p : Point) (r : Result Probe Refusal) : Type 0 where
  pub number : (answer_in r).number ≡ probe_fault s (point_in p)
  pub place : (answer_in r).place ≡ (read_tape s).place
  pub side : probe_given r ≡ probe_of (probe_fault s (point_in p)) (probed_value s (point_in p))
