-- Drawings as the paper of formal statements has them, word for word, and each equal to the definition used here. Where
-- text and parts are the same nothing is repeated: the records, `solid`, `layers`, `past_x`, `filled`, `hidden`,
-- `along_x`, `fold`. Samples, and so grids, boxes and full drawings, are no longer the paper's own, nor are the ranges
-- that the walk's visits rest on: these are not here.
use mathlib.Core.Path.{◌≡◌, refl, sym, ap, ap₂, ◌∙◌}
use mathlib.Core.Bool.{Bool, true, false, ◌&&◌, not}
use mathlib.Core.List.{List, [], ◌∷◌, ◌++◌, append_assoc}
use lib.IntN.{ℤ}
use Prim.Native.Nat.{ℕ, zero, suc, ◌+◌, ◌*◌}
use lib.Dec.{ltb, leb}
use Rattle.rules.specs.Values
use Rattle.rules.specs.Drawings
use Rattle.rules.specs.Values.{pick, top, Sample, Range, Box}
use Rattle.rules.specs.Tapes.{Tape}
use Rattle.rules.specs.Drawings.{Grid, solid, layers, Region, region, past_x, past_y, past_z, State, state}
use Rattle.rules.specs.Drawings.{over, along_x}
use Rattle.rules.proofs.RestatedValues.{size, size_same, below, below_same}
use Rattle.rules.proofs.RestatedTapes.{count_cl, count_same}

-- The counts: of the full drawing, and of each run in the walk.
abbrev pub full_count : Tape → Grid → ℕ
full_count t g = count_cl t.clauses * (g.width * (g.height * layers g))

pub full_count_same : (t : Tape) (g : Grid) → full_count t g ≡ Drawings.full_count t g
unfolding Drawings.full_count
full_count_same t g = ap (λ (n : ℕ). n * (g.width * (g.height * layers g))) (count_same t.clauses)

abbrev pub counted : Tape → State → State
counted t s = state s.heights (s.clauses + count_cl t.clauses)

pub counted_same : (t : Tape) (s : State) → counted t s ≡ Drawings.counted t s
counted_same t s = ap (λ (n : ℕ). state s.heights (s.clauses + n)) (count_same t.clauses)

-- Children: greatest z first, then rows upward, then columns; within the region and the grid.
abbrev pub along_y : ℕ → ℕ → ℕ → ℕ → ℕ → ℕ → ℕ → List Region
along_y zero l i j k n px = []
along_y (suc m) l i j k n px = along_x l i j k n px ++ along_y m l i (j + n) k n px

abbrev pub only_before : ℕ → List Region → List Region
only_before py [] = []
only_before py (r ∷ rs) = pick (ltb r.j py) (r ∷ []) [] ++ only_before py rs

only_before_append : (py : ℕ) (a b : List Region) → only_before py (a ++ b) ≡ only_before py a ++ only_before py b
only_before_append py [] b = refl
only_before_append py (r ∷ a) b =
    ap (λ (l : List Region). pick (ltb r.j py) (r ∷ []) [] ++ l) (only_before_append py a b)
    ∙ sym (append_assoc (pick (ltb r.j py) (r ∷ []) []) (only_before py a) (only_before py b))

-- A row of regions is before an edge as a whole.
nothing : (b : Bool) → [] ≡ pick {A = List Region} b [] []
nothing true = refl
nothing false = refl

first_before : (a b : Bool) (py : ℕ) (q : Region) (rest : List Region) → ltb q.j py ≡ b
    → only_before py (pick a (q ∷ []) []) ++ pick b rest [] ≡ pick b (pick a (q ∷ []) [] ++ rest) []
first_before true true py q rest e = rw e
first_before true false py q rest e = rw e
first_before false true py q rest e = refl
first_before false false py q rest e = refl

row_before : (py l i j k n px : ℕ) → only_before py (along_x l i j k n px) ≡ pick (ltb j py) (along_x l i j k n px) []
unfolding along_x
row_before py zero i j k n px = nothing (ltb j py)
row_before py (suc l) i j k n px =
    let q = region i j k n in
    let first = pick (ltb i px) (q ∷ []) [] in
    only_before_append py first (along_x l (i + n) j k n px)
    ∙ ap (λ (r : List Region). only_before py first ++ r) (row_before py l (i + n) j k n px)
    ∙ first_before (ltb i px) (ltb j py) py q (along_x l (i + n) j k n px) refl

pub rows_before : (py m l i j k n px : ℕ)
    → only_before py (along_y m l i j k n px) ≡ Drawings.along_y m l i j k n px py
unfolding Drawings.along_y
rows_before py zero l i j k n px = refl
rows_before py (suc m) l i j k n px =
    only_before_append py (along_x l i j k n px) (along_y m l i (j + n) k n px)
    ∙ ap₂ (λ (a b : List Region). a ++ b) (row_before py l i j k n px) (rows_before py m l i (j + n) k n px)

abbrev pub along_z : ℕ → ℕ → ℕ → ℕ → ℕ → ℕ → ℕ → ℕ → ℕ → List Region
along_z zero l i j k n px py pz = []
along_z (suc m) l i j k n px py pz =
    along_z m l i j (k + n) n px py pz ++ pick (ltb k pz) (only_before py (along_y l l i j k n px)) []

pub along_z_same : (m l i j k n px py pz : ℕ) → along_z m l i j k n px py pz ≡ Drawings.along_z m l i j k n px py pz
unfolding Drawings.along_z
along_z_same zero l i j k n px py pz = refl
along_z_same (suc m) l i j k n px py pz =
    cc (along_z_same m l i j (k + n) n px py pz, rows_before py l l i j k n px)

abbrev pub children : Grid → Region → ℕ → List Region
children g r n =
    let l = over r.long n in
    along_z (pick (solid g) l 1) l r.i r.j r.k n (past_x g r) (past_y g r) (past_z g r)

pub children_same : (g : Grid) (r : Region) (n : ℕ) → children g r n ≡ Drawings.children g r n
unfolding Drawings.children
children_same g r n =
    let l = over r.long n in
    along_z_same (pick (solid g) l 1) l r.i r.j r.k n (past_x g r) (past_y g r) (past_z g r)

-- A sample within a box.
abbrev pub within : ℤ → Range → Bool
within z r = not (below z r.low) && not (below r.high z)

pub within_same : (z : ℤ) (r : Range) → within z r ≡ Drawings.within z r
unfolding Drawings.within
within_same z r = cc (below_same z r.low, below_same r.high z)

abbrev pub in_box : Sample → Box → Bool
in_box s b = within s.x b.xs && (within s.y b.ys && within s.z b.zs)

pub in_box_same : (s : Sample) (b : Box) → in_box s b ≡ Drawings.in_box s b
unfolding Drawings.in_box
in_box_same s b = cc (within_same s.x b.xs, within_same s.y b.ys, within_same s.z b.zs)

-- A number within −M to M.
abbrev pub reaches : ℤ → Bool
reaches z = leb (size z) top

pub reaches_same : (z : ℤ) → reaches z ≡ Values.reaches z
reaches_same z = ap (λ (n : ℕ). leb n top) (size_same z)

abbrev pub ends_ok : Range → Bool
ends_ok r = reaches r.low && reaches r.high

pub ends_same : (r : Range) → ends_ok r ≡ Drawings.ends_ok r
ends_same r = cc (reaches_same r.low, reaches_same r.high)

abbrev pub box_ok : Box → Bool
box_ok b = ends_ok b.xs && (ends_ok b.ys && ends_ok b.zs)

pub box_ok_same : (b : Box) → box_ok b ≡ Drawings.box_ok b
unfolding Drawings.box_ok
box_ok_same b = cc (ends_same b.xs, ends_same b.ys, ends_same b.zs)

-- A sample within boxes, one within another.
abbrev pub in_all : Sample → List Box → Bool
in_all s [] = true
in_all s (b ∷ bs) = in_box s b && (box_ok b && in_all s bs)

pub in_all_same : (s : Sample) (bs : List Box) → in_all s bs ≡ Drawings.in_all s bs
unfolding Drawings.in_all
in_all_same s [] = refl
in_all_same s (b ∷ bs) = cc (in_box_same s b, box_ok_same b, in_all_same s bs)
