-- The run that a child belongs to, and its lane there: of children by their numbers, and of a flat region's by eights,
-- made before the first of its eight and the same up to the last.
use mathlib.Core.Path.{◌≡◌, refl, sym, subst, ap, ◌∙◌}
use mathlib.Core.Bool.{Bool, true, false}
use mathlib.Core.List.{List, []}
use lib.Dec.{leb}
use lib.IntN.{ℤ, pos}
use Prim.Native.Nat.{ℕ, ◌+◌, ◌-◌, ◌%◌, ◌≤◌, ◌<◌}
use native.Mathlib.Omega.{arith}
use borrow.Author.Tests.{leb-true, leb-false}
use lib.ListN.{length, get_or, replicate, get_or-replicate, get_or-eq_default}
use Rattle.rules.specs.Values.{Range, Box}
use Rattle.rules.specs.Drawings.{region, box_of, grid_fault}
use Rattle.lanes.specs.Lanes.{lane_count, lane}
use Rattle.code.specs.Runs.{BoxOk, column, Bounded}
use Rattle.range_sweep.specs.Boxes.{end_rows, slot_range, Boxed, LentEnds}
use Rattle.picture.specs.Shapes.{grid_in}
use Rattle.picture.specs.declared.grid.Grid.{Grid}
use Rattle.walk.specs.Cells.{layers_in, region_in, ForBox, CellOk, CellBox}
use Rattle.walk.specs.Children.{children_in, ChildOf}
use Rattle.walk.specs.declared.cell.Cell.{Cell}
use Rattle.walk.proofs.Along.{lesser_first}
use Rattle.walk.proofs.CellLaws.{solid_box, flat_box}
use Rattle.lane_judge.specs.LaneJudges.{LaneAt, LaneOf}
use Rattle.lane_judge.specs.declared.Lane.{Lane}
use Rattle.child_lanes.proofs.BoxRows.{first_left, lane_within}
use Rattle.child_lanes.specs.ChildLanes.{box_numbered, ForChildren, ChildBox, ChildBoxes, RanBy, Following, Ran}

-- The box of a child's cell, by which of the two kinds the region is.
pub for_box : {isSolid t : Bool} {grid : Grid} {parent c : Cell} {side m : ℕ} → isSolid ≡ t
    → ForChildren isSolid grid parent side → ChildOf parent side m c → ForBox t grid c
for_box {grid = grid} {c = c} e p k =
    subst (λ s. ForBox s grid c) e (record { fault = p.fault; ok = k.cell _ _ p.cells })

pub child_boxed : {isSolid t : Bool} {grid : Grid} {parent c : Cell} {side m : ℕ} {b : Box} → isSolid ≡ t
    → ChildOf parent side m c → CellBox t grid c b → ChildBox isSolid grid parent side m b
unfolding box_numbered
child_boxed {t = t} {grid = grid} {parent = parent} {side = side} {m = m} e k v =
    rw e
    (record {
      same =
          v.same ∙ ap (box_of (grid_in grid t)) (sym (first_left (children_in parent side) m (region 0 0 0 0) k.next));
      ok = v.ok;
    })

cell_box : (isSolid : Bool) (grid : Grid) (c : Cell) → CellOk (layers_in isSolid grid) grid c
    → grid_fault isSolid (grid_in grid isSolid) ≡ 0 → BoxOk (box_of (grid_in grid isSolid) (region_in c))
cell_box true grid c o e = let b = solid_box grid c o e (record { xs = refl; ys = refl; zs = refl }) refl in subst BoxOk b.same b.ok
cell_box false grid c o e = let b = flat_box grid c o e (record { xs = refl; ys = refl; zs = refl }) refl in subst BoxOk b.same b.ok

-- The box of child m is that of its cell.
pub own_box : {isSolid : Bool} {grid : Grid} {parent c : Cell} (side m : ℕ) → ChildOf parent side m c
    → CellOk (layers_in isSolid grid) grid c → grid_fault isSolid (grid_in grid isSolid) ≡ 0
    → CellBox isSolid grid c (box_numbered isSolid grid parent side m)
unfolding box_numbered
own_box {isSolid} {grid} {parent} {c} side m k o e =
    let q = ap (box_of (grid_in grid isSolid)) (first_left (children_in parent side) m (region 0 0 0 0) k.next) in
    record { same = q; ok = subst BoxOk (sym q) (cell_box isSolid grid c o e) }

-- The choices that were there do not matter once they are a run's.
bounded_over : {ws hs hs' : List ℕ} {b c : Box} {x : Range} → b ≡ c → Bounded ws b hs hs' x → Bounded ws c hs' hs' x
bounded_over e v = rw (← e) (record { range = v.range; choices = v.choices; rest = refl })

-- A lane with the range and the choices over a child's box is one of its cell.
lane_of : {isSolid : Bool} {ws : List ℕ} {grid : Grid} {parent c : Cell} {side m k r : ℕ} {es : List (List ℤ)}
    {cs : List (List ℕ)} {l : Lane} → grid_fault isSolid (grid_in grid isSolid) ≡ 0
    → CellOk (layers_in isSolid grid) grid c → ChildOf parent side m c → length ws ≤ length cs → k < lane_count
    → LaneAt es r k l
    → Bounded ws (box_numbered isSolid grid parent side m) (column k cs) (column k cs) (slot_range es r k)
    → LaneOf isSolid ws grid c l cs
lane_of {isSolid = isSolid} {grid = grid} {parent = parent} {side = side} {m = m} {k = k} {cs = cs} e o j w h a v =
    record {
      lane = omega (arith, a.number);
      rows = w;
      box = box_numbered isSolid grid parent side m;
      of_cell = own_box side m j o e;
      before = column k cs;
      bounded = rw (a.number, a.range) v;
    }

module _ {isSolid : Bool} {ws : List ℕ} {grid : Grid} {parent : Cell} {side r : ℕ} {ns : List ℕ} {es : List (List ℤ)}
    {cs : List (List ℕ)}
  where
    pub ran_by : {bs : List (List ℤ)} {cs₀ : List (List ℕ)} → ChildBoxes isSolid grid parent side ns bs
        → Boxed ws bs es cs₀ cs r → RanBy isSolid ws grid parent side ns es cs r
    ran_by b v =
        record {
          lent = v.lent;
          within = v.within;
          lanes = λ k h l. bounded_over (b.at k h).same (v.lanes k h);
        }

    -- The lane that has a child's number is that child's.
    pub numbered_lane : {c : Cell} {m k : ℕ} {l : Lane} → grid_fault isSolid (grid_in grid isSolid) ≡ 0
        → CellOk (layers_in isSolid grid) grid c → ChildOf parent side m c → m < length (children_in parent side)
        → length ws ≤ length cs → RanBy isSolid ws grid parent side ns es cs r → k < lane_count → get_or ns k 0 ≡ m
        → LaneAt es r k l → LaneOf isSolid ws grid c l cs
    numbered_lane {k = k} e o j h w v i q a =
        lane_of e o j w i a
        (bounded_over (ap (box_numbered isSolid grid parent side) q) (v.lanes k i (omega (arith, q, h))))

-- Before any run no lane has the number of a child.
pub none_run : {isSolid : Bool} {ws : List ℕ} {grid : Grid} {parent : Cell} {side end : ℕ} {es : List (List ℤ)}
    {cs : List (List ℕ)} → end ≡ length (children_in parent side) → LentEnds es
    → RanBy isSolid ws grid parent side (replicate 8 end) es cs 0
none_run {end = end} e u =
    record {
      lent = u;
      within = omega arith;
      lanes = λ k h l. absurd (omega (arith, get_or-replicate 8 k end 0 h, e));
    }

module _ {ws : List ℕ} {grid : Grid} {parent : Cell} {side m : ℕ} {es : List (List ℤ)} {cs : List (List ℕ)} {r : ℕ}
  where
    pub just_run : {end : ℕ} {ns : List ℕ} → m % 8 ≡ 0 → end ≡ length (children_in parent side) → m < end
        → Following m end ns → RanBy false ws grid parent side ns es cs r → Ran ws grid parent side m es cs r
    just_run {end} z a s f v =
        record {
          lent = v.lent;
          within = v.within;
          lanes = λ k h l.
              (let n : m + k ≤ end - 1 = omega (arith, a, s, z) in
              let e : m + k ≡ m - m % 8 + k = omega arith in
              bounded_over
              (ap (box_numbered false grid parent side) (f.at k h ∙ lesser_first (m + k) (end - 1) n ∙ e))
              (v.lanes k h (lane_within (m + k) end m (f.at k h) s a)));
        }

    -- For the next child, unless it is the first of its eight.
    pub still_run : ((m + 1) % 8 ≡ 0 → ⊥) → Ran ws grid parent side m es cs r → Ran ws grid parent side (m + 1) es cs r
    still_run n v =
        let e : m - m % 8 ≡ m + 1 - (m + 1) % 8 = omega arith in
        record {
          lent = v.lent;
          within = v.within;
          lanes = λ k h l.
              bounded_over (ap (λ i. box_numbered false grid parent side (i + k)) e) (v.lanes k h (omega arith));
        }

    -- Child m is in its own lane.
    own_lane : m < length (children_in parent side) → Ran ws grid parent side m es cs r
        → Bounded ws (box_numbered false grid parent side m) (column (m % 8) cs) (column (m % 8) cs)
        (slot_range es r (m % 8))
    own_lane h v =
        let e : m - m % 8 + m % 8 ≡ m = omega arith in
        bounded_over (ap (box_numbered false grid parent side) e) (v.lanes (m % 8) (omega arith) (omega arith))

    pub child_lane : {c : Cell} {l : Lane} → grid_fault false (grid_in grid false) ≡ 0 → CellOk 1 grid c
        → ChildOf parent side m c → m < length (children_in parent side) → length ws ≤ length cs
        → Ran ws grid parent side m es cs r → LaneAt es r (m % 8) l → LaneOf false ws grid c l cs
    child_lane e o k h w v a = lane_of e o k w (omega arith) a (own_lane h v)

-- Ends that are made for the runs are values.
made_zero : (j k : ℕ) → k < lane_count → lane (get_or (replicate end_rows (replicate lane_count (pos 0))) j []) k ≡ pos 0
made_zero j k h = by (leb end_rows j) refl
  where
    row : List ℤ
    row = replicate lane_count (pos 0)

    by : (t : Bool) → leb end_rows j ≡ t → lane (get_or (replicate end_rows row) j []) k ≡ pos 0
    by true e = ap (λ (r : List ℤ). lane r k) (get_or-eq_default (replicate end_rows row) [] (leb-true end_rows j e))
    by false e =
        ap (λ (r : List ℤ). lane r k) (get_or-replicate end_rows j row [] (leb-false end_rows j e))
        ∙ get_or-replicate lane_count k (pos 0) (pos 0) h

pub made_ends : LentEnds (replicate end_rows (replicate lane_count (pos 0)))
made_ends = record { size = refl; values = λ j k h. rw (made_zero j k h) (record { bound = omega arith }) }
