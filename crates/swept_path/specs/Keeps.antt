-- What keeping positions asks and promises.
use Rattle.std.specs.Prelude.{◌≡◌, true, List, [], ◌∷◌, ℤ, ℕ, ◌≤◌, ◌<◌, length, get_or, take}
use Rattle.rules.specs.Values.{is_neg, Range, Box}
use Rattle.rules.specs.Tapes.{range_over}
use Rattle.code.specs.Words.{tape_in, Runnable}
use Rattle.code.specs.Runs.{Fit}
use Rattle.swept_rules.specs.Swept.{Offset, offsets_of}
use Rattle.swept_rules.specs.Keeping.{hull_of, moved_box, position_at}
use Rattle.swept_rules.proofs.Positions.{Kept}
use Rattle.swept_path.specs.Asked.{ForBox}
use Rattle.swept_path.specs.declared.keep.Cover.{Cover}
use Rattle.swept_path.specs.declared.keep.Cover.TheVariants.{Nowhere, Everywhere, Partly}

-- Words that run, with room for their choices, and a position that moves the box to values.
pub record ForRange (ws : List ℕ) (b : Box) (zs : List ℤ) (k : ℕ) (work : List ℕ) : Type 0 where
  pub runs : Runnable ws
  pub room : length ws ≤ length work
  pub in_path : k < length (offsets_of zs)
  pub box : ForBox b (hull_of (position_at (offsets_of zs) k))

-- The range over the box moved by the position k, on any number of slots that the words fit.
pub record RangeAt (ws : List ℕ) (b : Box) (os : List Offset) (k : ℕ) (x : Range) : Type 0 where
  pub range : (n : ℕ) → Fit n ws → x ≡ range_over (tape_in n ws) (moved_box b (position_at os k))

-- The same of every position of a list, with room for as many numbers.
pub record ForKeep (ws : List ℕ) (b : Box) (zs : List ℤ) (ks kept work : List ℕ) : Type 0 where
  pub runs : Runnable ws
  pub room : length ws ≤ length work
  pub in_path : (i : ℕ) → i < length ks → get_or ks i 0 < length (offsets_of zs)
  pub box : (i : ℕ) → i < length ks → ForBox b (hull_of (position_at (offsets_of zs) (get_or ks i 0)))
  pub list : length ks ≤ length kept

-- What is kept of the positions ks.
pub record KeptAs (ws : List ℕ) (b : Box) (os : List Offset) (ks ls : List ℕ) : Type 0 where
  pub kept : (n : ℕ) → Fit n ws → Kept (tape_in n ws) os b ks ls

-- The position k alone, which covers all that the box has.
pub record CoversAll (ws : List ℕ) (b : Box) (os : List Offset) (ks : List ℕ) (k : ℕ) : Type 0 where
  pub kept : KeptAs ws b os ks (k ∷ [])
  pub high : (n : ℕ) → Fit n ws → is_neg (range_over (tape_in n ws) (moved_box b (position_at os k))).high ≡ true

-- The first m numbers of the list.
pub record KeptFirst (ws : List ℕ) (b : Box) (os : List Offset) (ks list : List ℕ) (m : ℕ) : Type 0 where
  pub kept : KeptAs ws b os ks (take m list)
  pub some : 1 ≤ m
  pub within : m ≤ length list

abbrev pub CoverOf : List ℕ → Box → List Offset → List ℕ → List ℕ → Cover → Type 0
CoverOf ws b os ks list Nowhere = KeptAs ws b os ks []
CoverOf ws b os ks list (Everywhere k) = CoversAll ws b os ks k
CoverOf ws b os ks list (Partly m) = KeptFirst ws b os ks list m
