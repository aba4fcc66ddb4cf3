-- Grids, full drawings, the walk by tiles with its count; demand 3.
use Rattle.std.specs.Prelude.{◌≡◌, Bool, true, false, ◌&&◌, ◌||◌, not, ◌⊎◌, List, [], ◌∷◌, ◌++◌, map, ℤ, pos, ◌+ℤ◌, ◌*ℤ◌, ℕ, zero, suc, ◌+◌, ◌-◌, ◌*◌, ◌/◌, ◌<◌, ◌≤◌, ltb, leb, length, get_or, set, replicate}
use Rattle.std.specs.Int.Signed.{shr_z}
use Rattle.rules.specs.Values.{pick, first_of, when, is_neg, below, reaches, Sample, Range, range, Box}
use Rattle.rules.specs.Tapes.{Tape, value_at, material, range_over, shortened, read_tape}

-- "Width, height and depth are 1 to 512"; "work buffer below 32,768 bytes".
abbrev pub size_limit : ℕ
size_limit = 512

abbrev pub work_limit : ℕ
work_limit = 32768

-- A grid. A flat one has depth 0, and its one z is the third origin.
pub record Grid : Type 0 where
  pub width : ℕ
  pub height : ℕ
  pub depth : ℕ
  pub origin_x : ℤ
  pub origin_y : ℤ
  pub origin_z : ℤ
  pub step_x : ℤ
  pub step_y : ℤ
  pub step_z : ℤ

-- "Sample i becomes origin + i·step + floor(step/2) on each axis drawn; the one z of a flat picture is taken as given."
abbrev pub at : ℤ → ℤ → ℕ → ℤ
at o s i = o +ℤ pos i *ℤ s +ℤ shr_z s 2

abbrev pub solid : Grid → Bool
solid g = leb 1 g.depth

unfoldable pub sample_at : Grid → ℕ → ℕ → ℕ → Sample
sample_at g i j k =
    record {
      x = at g.origin_x g.step_x i;
      y = at g.origin_y g.step_y j;
      z = pick (solid g) (at g.origin_z g.step_z k) g.origin_z;
    }

-- Lines 10 and 11: "a size not 1 to 512"; "a step below 1, or an origin, z or last sample outside −M to M"; of the
-- samples above, "line 11 tests the last of them".
abbrev pub size_ok : ℕ → Bool
size_ok n = leb 1 n && leb n size_limit

abbrev pub axis_ok : ℤ → ℤ → ℕ → Bool
axis_ok o s n = reaches o && (below (pos 0) s && (reaches s && reaches (at o s (n - 1))))

abbrev pub sizes_ok : Bool → Grid → Bool
sizes_ok isSolid g = size_ok g.width && (size_ok g.height && (not isSolid || size_ok g.depth))

abbrev pub axes_ok : Bool → Grid → Bool
axes_ok isSolid g =
    axis_ok g.origin_x g.step_x g.width
    && (axis_ok g.origin_y g.step_y g.height
    && pick isSolid (axis_ok g.origin_z g.step_z g.depth) (reaches g.origin_z))

unfoldable pub grid_fault : Bool → Grid → ℕ
grid_fault isSolid g = first_of (when (not (sizes_ok isSolid g)) 10) (when (not (axes_ok isSolid g)) 11)

-- The full drawing: "A height is 1 + the greatest z index with material, or 0 if there is none", by pixel in row order.
-- A flat picture has one layer, and so the heights 0 and 1.
abbrev pub layers : Grid → ℕ
layers g = pick (solid g) g.depth 1

unfoldable pub column_from : ℕ → Tape → Grid → ℕ → ℕ → ℕ
column_from zero t g i j = 0
column_from (suc k) t g i j =
    elim (material t (sample_at g i j k)) [ true ↦ suc k | false ↦ column_from k t g i j ]

unfoldable pub row_from : ℕ → ℕ → ℕ → Tape → Grid → List ℕ
row_from zero i j t g = []
row_from (suc n) i j t g = column_from (layers g) t g i j ∷ row_from n (suc i) j t g

unfoldable pub rows_from : ℕ → ℕ → Tape → Grid → List ℕ
rows_from zero j t g = []
rows_from (suc n) j t g = row_from g.width 0 j t g ++ rows_from n (suc j) t g

unfoldable pub drawn : Tape → Grid → List ℕ
drawn t g = rows_from g.height 0 t g

-- "its count is clauses times samples".
unfoldable pub full_count : Tape → Grid → ℕ
full_count t g = length t.clauses * (g.width * (g.height * layers g))

-- "Regions start at index 0 and are cut off at the grid's edge": a region by its first indices and its side.
pub record Region : Type 0 where
  pub i : ℕ
  pub j : ℕ
  pub k : ℕ
  pub long : ℕ

abbrev pub region : ℕ → ℕ → ℕ → ℕ → Region
region i j k n = record { i = i; j = j; k = k; long = n }

unfoldable pub lesser : ℕ → ℕ → ℕ
lesser a b = pick (leb a b) a b

-- Past a region's last index on each axis.
abbrev pub past_x : Grid → Region → ℕ
past_x g r = lesser g.width (r.i + r.long)

abbrev pub past_y : Grid → Region → ℕ
past_y g r = lesser g.height (r.j + r.long)

abbrev pub past_z : Grid → Region → ℕ
past_z g r = pick (solid g) (lesser g.depth (r.k + r.long)) 1

-- "An axis over a region runs from its first to its last sample there."
unfoldable pub box_of : Grid → Region → Box
box_of g r =
    record {
      xs = range (at g.origin_x g.step_x r.i) (at g.origin_x g.step_x (past_x g r - 1));
      ys = range (at g.origin_y g.step_y r.j) (at g.origin_y g.step_y (past_y g r - 1));
      zs = pick (solid g)
          (range (at g.origin_z g.step_z r.k) (at g.origin_z g.step_z (past_z g r - 1)))
          (range g.origin_z g.origin_z);
    }

-- The heights while walking, and the count so far.
pub record State : Type 0 where
  pub heights : List ℕ
  pub clauses : ℕ

abbrev pub state : List ℕ → ℕ → State
state h c = record { heights = h; clauses = c }

-- "raise each pixel's height to the region's greatest z index + 1, never lower it".
unfoldable pub raise_row : ℕ → ℕ → ℕ → List ℕ → List ℕ
raise_row zero p z h = h
raise_row (suc n) p z h = raise_row n (suc p) z (set h p (pick (ltb (get_or h p 0) z) z (get_or h p 0)))

unfoldable pub raise_rows : ℕ → ℕ → ℕ → ℕ → ℕ → List ℕ → List ℕ
raise_rows zero w p m z h = h
raise_rows (suc n) w p m z h = raise_rows n w (p + w) m z (raise_row m p z h)

unfoldable pub filled : Grid → Region → List ℕ → List ℕ
filled g r h =
    raise_rows (past_y g r - r.j) g.width (r.j * g.width + r.i) (past_x g r - r.i) (past_z g r) h

-- "a region, side 1 included, is passed over uncounted if, when its turn comes, every pixel of it already has at least
-- the height that filling the region would give"; only in a solid.
unfoldable pub row_high : ℕ → ℕ → ℕ → List ℕ → Bool
row_high zero p z h = true
row_high (suc n) p z h = leb z (get_or h p 0) && row_high n (suc p) z h

unfoldable pub rows_high : ℕ → ℕ → ℕ → ℕ → ℕ → List ℕ → Bool
rows_high zero w p m z h = true
rows_high (suc n) w p m z h = row_high m p z h && rows_high n w (p + w) m z h

unfoldable pub hidden : Grid → Region → List ℕ → Bool
hidden g r h =
    solid g
    && rows_high (past_y g r - r.j) g.width (r.j * g.width + r.i) (past_x g r - r.i) (past_z g r) h

-- "Order among siblings: greatest z first, then rows upward in number, then columns": the regions of side n inside a
-- region and the grid.
abbrev pub over : ℕ → ℕ → ℕ
over a zero = 0
over a (suc b) = a / suc b

unfoldable pub along_x : ℕ → ℕ → ℕ → ℕ → ℕ → ℕ → List Region
along_x zero i j k n past = []
along_x (suc l) i j k n past = pick (ltb i past) (region i j k n ∷ []) [] ++ along_x l (i + n) j k n past

unfoldable pub along_y : ℕ → ℕ → ℕ → ℕ → ℕ → ℕ → ℕ → ℕ → List Region
along_y zero l i j k n px py = []
along_y (suc m) l i j k n px py = pick (ltb j py) (along_x l i j k n px) [] ++ along_y m l i (j + n) k n px py

unfoldable pub along_z : ℕ → ℕ → ℕ → ℕ → ℕ → ℕ → ℕ → ℕ → ℕ → List Region
along_z zero l i j k n px py pz = []
along_z (suc m) l i j k n px py pz =
    along_z m l i j (k + n) n px py pz ++ pick (ltb k pz) (along_y l l i j k n px py) []

unfoldable pub children : Grid → Region → ℕ → List Region
children g r n =
    let l = over r.long n in
    along_z (pick (solid g) l 1) l r.i r.j r.k n (past_x g r) (past_y g r) (past_z g r)

-- "A region's children are finished before its next sibling."
unfoldable pub fold : (Region → State → State) → List Region → State → State
fold f [] s = s
fold f (r ∷ rs) s = fold f rs (f r s)

-- The count is "the sum, over all regions that this walk runs, over ranges or on values, of the number of clauses in
-- the tape that the region has".
abbrev pub counted : Tape → State → State
counted t s = state s.heights (s.clauses + length t.clauses)

abbrev pub fill_in : Grid → Region → State → State
fill_in g r s = state (filled g r s.heights) s.clauses

-- The region's short tape: "its children are run with that one and no other".
abbrev pub short_tape : Tape → Grid → Region → Tape
short_tape t g r = shortened t (box_of g r)

-- "Side 1 is run on values with its parent's short tape; a value below 0 fills, any other skips."
unfoldable pub on_sample : Tape → Grid → Region → State → State
on_sample t g r s =
    pick (material t (sample_at g r.i r.j r.k)) (fill_in g r (counted t s)) (counted t s)

-- "Run it over ranges. High end below 0: fill"; "Low end 0 or more: skip. Otherwise shorten and go down." The sides are
-- those below the region's own; none are left at side 1.
unfoldable pub visit : List ℕ → Tape → Grid → Region → State → State
visit [] t g r s = elim (hidden g r s.heights) [ true ↦ s | false ↦ on_sample t g r s ]
visit (n ∷ ns) t g r s =
    elim (hidden g r s.heights) [
      | true ↦ s
      | false ↦ (let x = range_over t (box_of g r) in
          let c = counted t s in
          elim (is_neg x.high) [
            | true ↦ fill_in g r c
            | false ↦ elim (is_neg x.low) [
              | true ↦ fold (λ q y. visit ns (short_tape t g r) g q y) (children g r n) c
              | false ↦ c
            ]
          ])
    ]

-- "Flat sides: 64, 8, 1. Solid sides: 64, 16, 4, 1." Those after 64.
unfoldable pub sides : Grid → List ℕ
sides g = pick (solid g) (16 ∷ (4 ∷ (1 ∷ []))) (8 ∷ (1 ∷ []))

-- The walk over the grid's regions of side 64. "In a solid every height is 0 before the first region, whatever the lent
-- buffer held".
abbrev pub whole : Region
whole = region 0 0 0 size_limit

unfoldable pub walked : Tape → Grid → State
walked t g =
    fold (λ r s. visit (sides g) t g r s) (children g whole 64) (state (replicate (g.width * g.height) 0) 0)

-- "A 64-tile is a region of side 64; its part of the sum is that of itself and all regions inside it, and is at most
-- 4,161 (1 + 64 + 4,096) flat or 266,305 (1 + 64 + 4,096 + 262,144) solid times the clauses of the whole tape."
abbrev pub flat_bound : ℕ
flat_bound = 4161

abbrev pub solid_bound : ℕ
solid_bound = 266305

unfoldable pub part_of : Tape → Grid → Region → State → ℕ
part_of t g r s = (visit (sides g) t g r s).clauses - s.clauses

-- A sample within a box, whose ends are values.
unfoldable pub within : ℤ → Range → Bool
within z r = not (below z r.low) && not (below r.high z)

unfoldable pub in_box : Sample → Box → Bool
in_box s b = within s.x b.xs && (within s.y b.ys && within s.z b.zs)

abbrev pub ends_ok : Range → Bool
ends_ok r = reaches r.low && reaches r.high

unfoldable pub box_ok : Box → Bool
box_ok b = ends_ok b.xs && (ends_ok b.ys && ends_ok b.zs)

-- The short tape after runs over boxes, one after another, and a sample in all of them.
unfoldable pub short_after : Tape → List Box → Tape
short_after t [] = t
short_after t (b ∷ bs) = short_after (shortened t b) bs

unfoldable pub in_all : Sample → List Box → Bool
in_all s [] = true
in_all s (b ∷ bs) = in_box s b && (box_ok b && in_all s bs)

-- "A region of side 64 has the whole tape, any other its parent's short tape." Regions that lie in one another as the
-- walk's do: the first is one of r's children of the first side, each next one is one of the children, of the next
-- side, of the one before. From the whole on, with the side 64 and those after it, the first is a 64-tile.
unfoldable pub OneOf : Region → List Region → Type 0
OneOf r [] = ⊥
OneOf r (q ∷ qs) = (r ≡ q) ⊎ OneOf r qs

unfoldable pub Nested : Grid → Region → List ℕ → List Region → Type 0
Nested g r ns [] = Unit {0}
Nested g r [] (q ∷ qs) = ⊥
Nested g r (n ∷ ns) (q ∷ qs) = OneOf q (children g r n) × Nested g q ns qs

abbrev pub InWalk : Grid → List Region → Type 0
InWalk g rs = Nested g whole (64 ∷ sides g) rs

-- The last of them; r, if there are none.
unfoldable pub last_in : Region → List Region → Region
last_in r [] = r
last_in r (q ∷ qs) = last_in q qs

-- The index triple (x, y, z) lies in the region, not cut at the grid's edge; and in the grid.
pub record Inside (r : Region) (x y z : ℕ) : Type 0 where
  pub x_from : r.i ≤ x
  pub x_to : x < r.i + r.long
  pub y_from : r.j ≤ y
  pub y_to : y < r.j + r.long
  pub z_from : r.k ≤ z
  pub z_to : z < r.k + r.long

pub record InGrid (g : Grid) (x y z : ℕ) : Type 0 where
  pub x_in : x < g.width
  pub y_in : y < g.height
  pub z_in : z < layers g

-- Filling the region q raises the pixel (i, j), one of q's, to the height k + 1: "the region's greatest z index + 1".
pub record RaisesTo (g : Grid) (q : Region) (i j k : ℕ) : Type 0 where
  pub x_from : q.i ≤ i
  pub x_to : i < past_x g q
  pub y_from : q.j ≤ j
  pub y_to : j < past_y g q
  pub height : past_z g q ≡ suc k

-- Demand 3, of one tape: the tile drawing is the full drawing; a shortened tape has the full tape's value at every
-- sample of its region, said of any boxes that hold the sample and of the walk's own regions; a range holds every value
-- over its box; and the bound of the count in each 64-tile.
pub record Tiles (t : Tape) : Type 0 where
  pub same_picture : (g : Grid) (isSolid : Bool) → isSolid ≡ solid g → grid_fault isSolid g ≡ 0
      → (walked t g).heights ≡ drawn t g
  pub same_value : (bs : List Box) (s : Sample) → in_all s bs ≡ true → value_at (short_after t bs) s ≡ value_at t s
  pub same_value_in_walk : (g : Grid) (isSolid : Bool) → isSolid ≡ solid g → grid_fault isSolid g ≡ 0
      → (rs : List Region) → InWalk g rs → (i j k : ℕ) → InGrid g i j k → Inside (last_in whole rs) i j k
      → value_at (short_after t (map (box_of g) rs)) (sample_at g i j k) ≡ value_at t (sample_at g i j k)
  pub in_range : (b : Box) (s : Sample) → in_box s b ≡ true → box_ok b ≡ true
      → within (value_at t s) (range_over t b) ≡ true
  pub part_flat : (g : Grid) (r : Region) (s : State) → solid g ≡ false → grid_fault false g ≡ 0 → r.long ≡ 64
      → part_of t g r s ≤ flat_bound * length t.clauses
  pub part_solid : (g : Grid) (r : Region) (s : State) → solid g ≡ true → grid_fault true g ≡ 0 → r.long ≡ 64
      → part_of t g r s ≤ solid_bound * length t.clauses

abbrev pub Demand3 : Type 0
Demand3 = (b : List ℕ) → (read_tape b).number ≡ 0 → Tiles (read_tape b).tape
