-- What a drawing function does: to the picture, as a relation R between its list and the heights, and to the count.
use Rattle.std.specs.Prelude.{◌≡◌, Bool, List, ℕ, ◌+◌}
use Rattle.rules.specs.Drawings.{Grid, Region, State, raise_row, filled, hidden}

-- Whatever state the picture b shows, b' shows the state that f makes of it, and f counts c clauses.
pub record Draws (R : List ℕ → List ℕ → Type 0) (f : State → State) (b b' : List ℕ) (c : ℕ) : Type 0 where
  pub shown : (s : State) → R b s.heights → R b' (f s).heights
  pub count : (s : State) → R b s.heights → (f s).clauses ≡ s.clauses + c

-- Filling the region r makes b' of b.
pub record Fills (R : List ℕ → List ℕ → Type 0) (g : Grid) (r : Region) (b b' : List ℕ) : Type 0 where
  pub shown : (h : List ℕ) → R b h → R b' (filled g r h)

-- Raising m pixels from p on to the height z makes b' of b.
pub record Raises (R : List ℕ → List ℕ → Type 0) (p m z : ℕ) (b b' : List ℕ) : Type 0 where
  pub shown : (h : List ℕ) → R b h → R b' (raise_row m p z h)

-- Whether r is hidden in the picture b.
pub record Hidden (R : List ℕ → List ℕ → Type 0) (g : Grid) (r : Region) (b : List ℕ) (v : Bool) : Type 0 where
  pub known : (h : List ℕ) → R b h → hidden g r h ≡ v

-- A solid picture's list is the heights.
pub record Same (b h : List ℕ) : Type 0 where
  pub same : b ≡ h
