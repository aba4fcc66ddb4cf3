-- What the verdict on a range says, and what a region that is cut has.
use Rattle.std.specs.Prelude.{◌≡◌, true, false, List, ℕ, ◌≤◌, length, take, drop}
use Rattle.rules.specs.Values.{is_neg, Range, Box}
use Rattle.rules.specs.Tapes.{shortened}
use Rattle.rules.specs.Marks.{marks_over, mark_bytes}
use Rattle.code.specs.Words.{tape_in}
use Rattle.code.specs.Runs.{Fit}
use Rattle.shortening.specs.Kept.{KeptAs, mark_room}
use Rattle.walk.specs.declared.verdict.Verdict.{Verdict}
use Rattle.walk.specs.declared.verdict.Verdict.TheVariants.{Full, Empty, Mixed}

-- The high end is below 0; the low end is 0 or more; neither.
pub record IsFull (x : Range) : Type 0 where
  pub high : is_neg x.high ≡ true

pub record IsEmpty (x : Range) : Type 0 where
  pub high : is_neg x.high ≡ false
  pub low : is_neg x.low ≡ false

pub record IsMixed (x : Range) : Type 0 where
  pub high : is_neg x.high ≡ false
  pub low : is_neg x.low ≡ true

abbrev pub Judged : Range → Verdict → Type 0
Judged x Full = IsFull x
Judged x Empty = IsEmpty x
Judged x Mixed = IsMixed x

-- The words ws are cut over the box b: from m on stand the words of their short tape, on any number of slots that ws
-- fit. Whatever marks ms keep ws of the whole tape, those that the box makes of them keep the short tape's words, and
-- stand in the work buffer from base on.
pub record CutOver (whole ws : List ℕ) (b : Box) (base : ℕ) (work next : List ℕ) (m : ℕ) : Type 0 where
  pub start : m ≤ length next
  pub short : (n : ℕ) → Fit n ws → tape_in n (drop m next) ≡ shortened (tape_in n ws) b
  pub kept : (n : ℕ) → Fit n ws → (ms : List ℕ) → KeptAs whole ws ms
      → KeptAs whole (drop m next) (marks_over (tape_in n whole) ms b)
  pub bytes : (n : ℕ) → Fit n ws → (ms : List ℕ) → KeptAs whole ws ms
      → take (mark_room (length whole)) (drop base work) ≡ mark_bytes (marks_over (tape_in n whole) ms b)
