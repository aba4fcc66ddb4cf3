-- The walk over the tiles in the order of a list: the cell that is all of the grid, and the loop, whose state is that of
-- the walk in the numbers so far.
use mathlib.Core.Path.{◌≡◌, refl, sym, ap, ◌∙◌}
use mathlib.Core.Bool.{true}
use mathlib.Core.List.{List, ◌∷◌}
use Prim.Native.Nat.{ℕ, suc, ◌+◌, ◌*◌, ◌≤◌, ◌<◌}
use native.Mathlib.Nat.{mul-le-mul_right}
use native.Mathlib.Numerals.{add-one}
use native.Mathlib.Omega.{arith}
use lib.ListN.{length, get_or, take, drop, replicate}
use lib.Seq.{drop-cons}
use Rattle.rules.specs.Tapes.{Tape}
use Rattle.rules.specs.Drawings.{Region, State, grid_fault, visit, sides, whole, solid_bound}
use Rattle.rules.specs.Pictures.{picture}
use Rattle.rules.specs.Accepted.{Accepted}
use Rattle.order_rules.specs.Orders.{is_order, tiles, tile_count, walked_in}
use Rattle.order_rules.proofs.OrderTests.{order, order_length}
use Rattle.order_rules.proofs.AnyOrder.{below_at}
use Rattle.order_rules.proofs.OrderLoops.{walk_starts, walk_goes_on, walk_ends}
use Rattle.code.specs.Words.{tape_in}
use Rattle.picture.specs.Shapes.{grid_in}
use Rattle.picture.specs.declared.grid.Grid.{Grid}
use Rattle.walk.specs.Cells.{CellOf, region_in}
use Rattle.walk.specs.Children.{Parent, children_in, ChildOf}
use Rattle.walk.specs.Walks.{Visits}
use Rattle.walk.specs.declared.cell.Cell.{Cell}
use Rattle.walk.proofs.CellLaws.{small, kind}
use Rattle.walk.proofs.ChildLaws.{parent_of, children_few}
use Rattle.solid_blocks.specs.Sides.{below64}
use Rattle.solid_tiles.proofs.WalkLaws.{tiles_in_lem}
use Rattle.order_drawing.specs.InOrder.{TileCount, WalkedInOrder}

-- The region that comes next is the one with that number.
pub number_is : (qs : List Region) (m : ℕ) {q : Region} → m < length qs → drop m qs ≡ q ∷ drop (suc m) qs
    → get_or qs m whole ≡ q
number_is qs m h e = ap (λ (rs : List Region). get_or rs 0 whole) (sym (drop-cons qs m whole h) ∙ e)

-- The cell that is all of the grid.
module _ {grid : Grid} {cell : Cell} (k : CellOf grid.depth grid whole cell)
    (e : grid_fault true (grid_in grid true) ≡ 0) where
  side : cell.side ≡ 8 * 64
  side = ap (λ (q : Region). q.long) k.same

  pub parent : Parent cell 64
  parent = parent_of 64 8 (small true grid e) k.ok (omega arith) (omega arith) side

  pub counted : {n : ℕ} → n ≡ length (children_in cell 64) → TileCount grid n
  counted h =
      let f = children_few true grid cell 64 8 (omega arith) (omega arith) side e k.ok in
      record { count = h ∙ ap length (sym (tiles_in_lem k e)); few = omega arith }

  -- An order's i-th number is that of a tile.
  pub numbered : (ks : List ℕ) → is_order (tile_count (grid_in grid true)) ks ≡ true → (i : ℕ) → i < length ks
      → get_or ks i 0 < length (children_in cell 64)
  numbered ks o i h =
      omega (
        arith,
        below_at (tile_count (grid_in grid true)) ks (order (tile_count (grid_in grid true)) ks o).below i h,
        ap length (tiles_in_lem k e),
      )

  pub orders_few : (ks : List ℕ) → is_order (tile_count (grid_in grid true)) ks ≡ true → length ks ≤ 512
  orders_few ks o =
      omega (arith, order_length (tile_count (grid_in grid true)) ks o, (counted refl).count, (counted refl).few)

  -- The child with a number is the tile with that number.
  pub tile_is : {m : ℕ} {c : Cell} → ChildOf cell 64 m c → m < length (children_in cell 64)
      → get_or (tiles (grid_in grid true)) m whole ≡ region_in c
  tile_is {m} u h = ap (λ qs. get_or qs m whole) (tiles_in_lem k e) ∙ number_is (children_in cell 64) m h u.next

-- Before the i-th number: the walk in those before it, each of which counts at most `solid_bound` runs of the words.
pub record AtNumber (ks ws : List ℕ) (grid : Grid) (b₀ b : List ℕ) (count i : ℕ) : Type 0 where
  pub heights : (m : ℕ) → Accepted (tape_in m ws)
      → b ≡ (walked_in (take i ks) (tape_in m ws) (grid_in grid true)).heights
  pub clauses : (m : ℕ) → Accepted (tape_in m ws)
      → (walked_in (take i ks) (tape_in m ws) (grid_in grid true)).clauses ≡ count
  pub bound : count ≤ i * (solid_bound * length ws)
  pub few : i ≤ length ks
  pub size : length b ≡ length b₀

-- The walk's visit is that of a solid's sides.
goes_on_lem : (ks : List ℕ) (grid : Grid) → grid_fault true (grid_in grid true) ≡ 0 → (t : Tape) (i : ℕ) {q : Region}
    → i < length ks → get_or (tiles (grid_in grid true)) (get_or ks i 0) whole ≡ q
    → walked_in (take (suc i) ks) t (grid_in grid true)
    ≡ visit below64 t (grid_in grid true) q (walked_in (take i ks) t (grid_in grid true))
unfolding sides
goes_on_lem ks grid e t i h k = walk_goes_on ks t (grid_in grid true) i h ∙ rw (kind true grid e, k)

module _ {ks ws : List ℕ} {grid : Grid} where
  pub begins : (b₀ b : List ℕ) → b ≡ replicate (grid.width * grid.height) 0 → length b ≡ length b₀
      → AtNumber ks ws grid b₀ b 0 0
  begins b₀ b h l =
      let g = grid_in grid true in
      record {
        heights = λ m a. h ∙ ap (λ (s : State). s.heights) (sym (walk_starts ks (tape_in m ws) g));
        clauses = λ m a. ap (λ (s : State). s.clauses) (walk_starts ks (tape_in m ws) g);
        bound = omega arith;
        few = omega arith;
        size = l;
      }

  module _ {b₀ b : List ℕ} {count i : ℕ} (u : AtNumber ks ws grid b₀ b count i) where
    pub sum_most : {d : ℕ} → length ks ≤ 512 → i < length ks → d ≤ solid_bound * length ws
        → count + d ≤ 512 * (solid_bound * length ws)
    sum_most f h k =
        let l : suc i ≤ 512 = omega arith in
        omega (arith, u.bound, mul-le-mul_right (solid_bound * length ws) l)

    pub again : {d : ℕ} {q : Region} {b' : List ℕ} → grid_fault true (grid_in grid true) ≡ 0 → i < length ks
        → get_or (tiles (grid_in grid true)) (get_or ks i 0) whole ≡ q → Visits true solid_bound ws grid below64 q b b' d
        → length b' ≡ length b → AtNumber ks ws grid b₀ b' (count + d) (i + 1)
    again {d} {q} {b'} e h k v l =
        let g = grid_in grid true in
        rw add-one
        (record {
          heights = λ m a.
              ((v.draws m a).shown (walked_in (take i ks) (tape_in m ws) g) (record { same = u.heights m a })).same
              ∙ ap (λ (s : State). s.heights) (sym (goes_on_lem ks grid e (tape_in m ws) i h k));
          clauses = λ m a.
              ap (λ (s : State). s.clauses) (goes_on_lem ks grid e (tape_in m ws) i h k)
              ∙ (v.draws m a).count (walked_in (take i ks) (tape_in m ws) g) (record { same = u.heights m a })
              ∙ ap (λ n. n + d) (u.clauses m a);
          bound = omega (arith, u.bound, v.bound);
          few = h;
          size = l ∙ u.size;
        })

    pub done : i ≡ length ks → WalkedInOrder ks ws grid b count
    unfolding picture
    done h =
        let g = grid_in grid true in
        record {
          pixels = λ m a.
              u.heights m a
              ∙ ap (λ n. (walked_in (take n ks) (tape_in m ws) g).heights) h
              ∙ ap (λ (s : State). s.heights) (walk_ends ks (tape_in m ws) g);
          count = λ m a.
              sym (u.clauses m a)
              ∙ ap (λ n. (walked_in (take n ks) (tape_in m ws) g).clauses) h
              ∙ ap (λ (s : State). s.clauses) (walk_ends ks (tape_in m ws) g);
        }
