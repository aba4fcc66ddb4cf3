-- What is asked of an axis, a sample, a box and a list of positions, and what is promised of what a position moves.
use Rattle.std.specs.Prelude.{◌≡◌, List, ℤ, ◌-ℤ◌, ℕ, ◌-◌, ◌≤◌, ◌<◌, length, get_or}
use Rattle.rules.specs.Values.{IsValue, Sample, Box}
use Rattle.rules.specs.Drawings.{at}
use Rattle.code.specs.Runs.{SampleOk, EndsOk, BoxOk}
use Rattle.swept_rules.specs.Swept.{Offset, offsets_of, moved_sample}
use Rattle.swept_rules.specs.Keeping.{Hull, hull_box}
use Rattle.swept_rules.proofs.Boxes.{Moves}

-- An axis of n samples whose first and last are values.
pub record ForEnds (origin step : ℤ) (n : ℕ) : Type 0 where
  pub some : 1 ≤ n
  pub first : IsValue (at origin step 0)
  pub last : IsValue (at origin step (n - 1))

-- A position moves the sample to values; and a hull the ends of a box.
pub record ForSample (s : Sample) (o : Offset) : Type 0 where
  pub x : IsValue (s.x -ℤ o.x)
  pub y : IsValue (s.y -ℤ o.y)
  pub z : IsValue s.z

pub record SampleMoved (s : Sample) (o : Offset) (r : Sample) : Type 0 where
  pub same : r ≡ moved_sample o s
  pub ok : SampleOk r

pub record ForBox (b : Box) (h : Hull) : Type 0 where
  pub moves : Moves b h
  pub zs : EndsOk b.zs

pub record BoxMoved (b : Box) (h : Hull) (r : Box) : Type 0 where
  pub same : r ≡ hull_box b h
  pub ok : BoxOk r

-- Numbers of positions of the path, at least one.
pub record InPath (zs : List ℤ) (ks : List ℕ) : Type 0 where
  pub each : (i : ℕ) → i < length ks → get_or ks i 0 < length (offsets_of zs)

pub record ForHull (zs : List ℤ) (ks : List ℕ) : Type 0 where
  pub some : 1 ≤ length ks
  pub in_path : InPath zs ks
