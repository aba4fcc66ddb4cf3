-- What document 02 asks of tiles in any order, of what the call returns: a drawing in an order that is not turned down
-- leaves the full drawing's picture, whatever the lent buffers held, and counts the walk's sum in that order, each
-- 64-tile's part of which is bounded. So every order leaves the same height at every pixel, and the walk's own order
-- gives what the drawing by tiles gives. A list with each tile exactly once is drawn; any other returns 12.
use mathlib.Core.Path.{◌≡◌, sym, ap, ◌∙◌}
use mathlib.Core.Bool.{true}
use mathlib.Core.List.{List}
use Prim.Native.Nat.{ℕ, ◌*◌, ◌≤◌, ◌<◌}
use lib.ListN.{length, get_or, take}
use borrow.Author.Tests.{eq-eqb}
use Rattle.rules.specs.Tapes.{read_tape}
use Rattle.rules.specs.Drawings as D
use Rattle.rules.specs.Pictures.{picture, picture_size}
use Rattle.rules.proofs.Runs.{accepted_good}
use Rattle.rules.proofs.Grids.{accepted_sound}
use Rattle.rules.proofs.Bound.{part_solid}
use Rattle.order_rules.specs.Orders.{EachOnce, tiles, tile_count, walked_in, numbers_from, parts_in, total, order_fault}
use Rattle.order_rules.proofs.OrderTests.{order_once, once_order}
use Rattle.order_rules.proofs.OrderLoops.{not_order}
use Rattle.order_rules.proofs.AnyOrder.{any_order, walked_own, counted_in, part_in_lem, parts_most}
use Rattle.order_rules.proofs.OrderCalls.{line_order, order_clear}
use Rattle.picture.specs.Shapes.{grid_in}
use Rattle.picture.specs.declared.grid.Grid.{Grid}
use Rattle.picture.proofs.Grids.{accepted}
use Rattle.answers.specs.declared.Answer.{Answer}
use Rattle.promises.specs.Says.{TilesSay, OrderSays}
use Rattle.promises.proofs.DemandThree.{by_tiles}

-- A done drawing in the order ks, which has each tile exactly once: its count is the sum of the parts that the tiles
-- have when their turn comes, `turn` says which tile the i-th is of and from which state, and each is bounded, as is
-- every tile's part from any state.
pub record DrawnInOrder (s : List ℕ) (d : Grid) (ks o' : List ℕ) (count : ℕ) : Type 0 where
  pub list : EachOnce (tile_count (grid_in d true)) ks
  pub full : let g = grid_in d true in o' ≡ picture true g (D.drawn (read_tape s).tape g)
  pub sum : count ≡ (walked_in ks (read_tape s).tape (grid_in d true)).clauses
  pub parts_sum : count ≡ total (parts_in ks (read_tape s).tape (grid_in d true))
  pub turn : let t = (read_tape s).tape in
      let g = grid_in d true in
      (i : ℕ) → i < length ks
      → get_or (parts_in ks t g) i 0 ≡ D.part_of t g (get_or (tiles g) (get_or ks i 0) D.whole) (walked_in (take i ks) t g)
  pub part_bound : (i : ℕ) → i < length ks
      → get_or (parts_in ks (read_tape s).tape (grid_in d true)) i 0 ≤ D.solid_bound * length (read_tape s).tape.clauses
  pub part_solid : (r : D.Region) (u : D.State) → r.long ≡ 64
      → D.part_of (read_tape s).tape (grid_in d true) r u ≤ D.solid_bound * length (read_tape s).tape.clauses

module _ {s : List ℕ} {d : Grid} {ks o o' w w' : List ℕ} {r : Answer} (f : OrderSays s d ks o o' w w' r)
    (e : r.number ≡ 0) where
  pub order_shown : DrawnInOrder s d ks o' r.count
  order_shown =
      let g = grid_in d true in
      let t = (read_tape s).tape in
      let x = order_fault s g ks (length o) (length w) in
      let z : x ≡ 0 = sym f.answer.number ∙ e in
      let k = eq-eqb x 0 z in
      let c = order_clear s g ks (length o) (length w) z in
      let kind = (accepted d true c.grid).kind in
      let good = accepted_good s c.read in
      let count : r.count ≡ (walked_in ks t g).clauses = f.answer.count ∙ rw k in
      record {
        list = order_once (tile_count g) ks c.list;
        full = (f.pixels ∙ rw k)
            ∙ ap (picture true g) (any_order t good g (accepted_sound g true kind c.grid) ks c.list);
        sum = count;
        parts_sum = count ∙ counted_in ks t g;
        turn = λ i l. part_in_lem ks t g i l;
        part_bound = λ i l. parts_most t g (sym kind) ks c.list i l;
        part_solid = λ q u l. part_solid t g q u (sym kind) l;
      }

-- "The caller may list all 64-tiles of a solid, .. in an order of its own, each exactly one time", and "Any other order
-- list returns 12, after the picture's length": where tape, grid and picture pass, a list with each tile exactly once is
-- drawn if the work buffer is long enough, and any other returns 12 and leaves both buffers as they came.
module _ {s : List ℕ} {d : Grid} {ks o o' w w' : List ℕ} {r : Answer} (f : OrderSays s d ks o o' w w' r)
    (tape : (read_tape s).number ≡ 0) (grid : D.grid_fault true (grid_in d true) ≡ 0)
    (size : length o ≡ picture_size true (grid_in d true)) where
  pub order_taken : EachOnce (tile_count (grid_in d true)) ks → D.work_limit ≤ length w → r.number ≡ 0
  order_taken once long =
      let g = grid_in d true in
      let l = line_order s g ks (length o) (length w) in
      f.answer.number ∙ l.done tape grid size (once_order (tile_count g) ks once) long

  pub other_list : (EachOnce (tile_count (grid_in d true)) ks → ⊥) → (r.number ≡ 12) × ((o' ≡ o) × (w' ≡ w))
  other_list other =
      let g = grid_in d true in
      let n = tile_count g in
      let no = not_order n ks (λ e. other (order_once n ks e)) in
      let x = (line_order s g ks (length o) (length w)).list tape grid size no in
      (f.answer.number ∙ x, (f.pixels ∙ rw x, f.work ∙ rw x))

-- "Every such order must be shown to give the same height at every pixel": two calls in two orders, both done.
pub same_in_any_order : {s : List ℕ} {d : Grid} {ks js o p o' p' w v w' v' : List ℕ} {r q : Answer}
    → OrderSays s d ks o o' w w' r → r.number ≡ 0 → OrderSays s d js p p' v v' q → q.number ≡ 0 → o' ≡ p'
same_in_any_order a i b j = (order_shown a i).full ∙ sym (order_shown b j).full

-- The walk meets its tiles in the order 0, 1, 2 and so on: in this order the call leaves and counts what the drawing by
-- tiles does.
pub own_order_walked : {s : List ℕ} {d : Grid} {o o' w w' : List ℕ} (p p' v v' : List ℕ) {r : Answer} (q : Answer)
    → OrderSays s d (numbers_from 0 (tile_count (grid_in d true))) o o' w w' r → r.number ≡ 0
    → TilesSay true s d p p' v v' q → q.number ≡ 0 → (o' ≡ p') × (r.count ≡ q.count)
own_order_walked {s} {d} p p' v v' q a i b j =
    let u = order_shown a i in
    let t = by_tiles true s d p p' v v' q b j in
    let same = walked_own (read_tape s).tape (grid_in d true) in
    (u.full ∙ sym t.full, u.sum ∙ ap (λ (x : D.State). x.clauses) same ∙ sym t.sum)
