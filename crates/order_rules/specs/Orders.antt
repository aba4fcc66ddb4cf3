-- The 64-tiles of a solid in an order of the caller's own: orders, the walk in one, and the lines by which a list is
-- refused.
use Rattle.std.specs.Prelude.{◌≡◌, Bool, true, ◌&&◌, not, List, [], ◌∷◌, ℕ, zero, suc, ◌+◌, ◌-◌, ◌*◌, ◌/◌, ◌%◌, ◌<◌, ◌≤◌, eqb, ltb, length, get_or, replicate}
use Rattle.rules.specs.Values.{first_fault, when}
use Rattle.rules.specs.Tapes.{Tape, read_tape}
use Rattle.rules.specs.Drawings.{work_limit, Grid, grid_fault, Region, region, State, state, children, fold, visit, sides}
use Rattle.rules.specs.Drawings.{whole, part_of}
use Rattle.rules.specs.Pictures.{picture_size}

-- "each exactly one time": how often a number stands in a list.
unfoldable pub times_in : ℕ → List ℕ → ℕ
times_in m [] = 0
times_in m (k ∷ ks) = when (eqb m k) 1 + times_in m ks

unfoldable pub all_below : ℕ → List ℕ → Bool
all_below n [] = true
all_below n (k ∷ ks) = ltb k n && all_below n ks

unfoldable pub once_each : ℕ → List ℕ → Bool
once_each zero ks = true
once_each (suc n) ks = eqb (times_in n ks) 1 && once_each n ks

-- "The caller may list all 64-tiles of a solid, .. in an order of its own, each exactly one time": each number below n
-- stands in the list exactly once, and nothing else does.
unfoldable pub is_order : ℕ → List ℕ → Bool
is_order n ks = all_below n ks && once_each n ks

-- The same as facts, one for each number.
pub record EachOnce (n : ℕ) (ks : List ℕ) : Type 0 where
  pub each : (m : ℕ) → m < n → times_in m ks ≡ 1
  pub no_other : (m : ℕ) → n ≤ m → times_in m ks ≡ 0

-- "numbered from 0 as the walk meets them": the m-th 64-tile of the walk, and how many there are.
abbrev pub tiles : Grid → List Region
tiles g = children g whole 64

abbrev pub tile_count : Grid → ℕ
tile_count g = length (tiles g)

-- The tiles in the order of a list.
unfoldable pub in_order : List Region → List ℕ → List Region
in_order qs [] = []
in_order qs (k ∷ ks) = get_or qs k whole ∷ in_order qs ks

-- The tile with the number m in closed form: "greatest z first, then rows upward in number, then columns". An axis of n
-- samples has across n tiles.
abbrev pub across : ℕ → ℕ
across n = (n + 63) / 64

unfoldable pub tile_at : Grid → ℕ → Region
tile_at g m =
    let c = across g.width in
    let r = across g.height in
    let d = across g.depth in
    region (m % c * 64) (m / c % r * 64) ((d - 1 - m / c / r) * 64) 64

-- The walk over the 64-tiles in an order, from heights that are 0: "The count is the walk's sum with its 64-tiles in
-- that order."
abbrev pub cleared : Grid → State
cleared g = state (replicate (g.width * g.height) 0) 0

unfoldable pub walked_in : List ℕ → Tape → Grid → State
walked_in ks t g = fold (λ r s. visit (sides g) t g r s) (in_order (tiles g) ks) (cleared g)

-- "numbered from 0": the walk's own order, n numbers from i on.
unfoldable pub numbers_from : ℕ → ℕ → List ℕ
numbers_from i zero = []
numbers_from i (suc n) = i ∷ numbers_from (suc i) n

-- Each tile's "part of the sum is that of itself and all regions inside it", when its turn comes.
unfoldable pub parts_from : Tape → Grid → List Region → State → List ℕ
parts_from t g [] s = []
parts_from t g (q ∷ qs) s = part_of t g q s ∷ parts_from t g qs (visit (sides g) t g q s)

abbrev pub parts_in : List ℕ → Tape → Grid → List ℕ
parts_in ks t g = parts_from t g (in_order (tiles g) ks) (cleared g)

unfoldable pub total : List ℕ → ℕ
total [] = 0
total (n ∷ ns) = n + total ns

-- "Any other order list returns 12, after the picture's length": lines 1 to 9 of the tape, 10 and 11 of the grid, 12 of
-- the picture's length n, 12 of the list, 13 of the work buffer's length k.
abbrev pub list_fault : Grid → List ℕ → ℕ
list_fault g ks = when (not (is_order (tile_count g) ks)) 12

abbrev pub order_lines : List ℕ → Grid → List ℕ → ℕ → ℕ → List ℕ
order_lines s g ks n k =
    (read_tape s).number
    ∷ (grid_fault true g
    ∷ (when (not (eqb n (picture_size true g))) 12 ∷ (list_fault g ks ∷ (when (ltb k work_limit) 13 ∷ []))))

abbrev pub order_fault : List ℕ → Grid → List ℕ → ℕ → ℕ → ℕ
order_fault s g ks n k = first_fault (order_lines s g ks n k)
