-- Demand 3 of the calls: a tile drawing that is not turned down leaves the full drawing's picture, whatever the lent
-- buffers held, and counts the walk's sum, each 64-tile's part of which is bounded; and every short tape of its regions
-- has the whole tape's value at every sample of the region.
use mathlib.Core.Path.{◌≡◌, sym, ap, ◌∙◌}
use mathlib.Core.Bool.{Bool, true, false}
use mathlib.Core.List.{List, map}
use Prim.Native.Nat.{ℕ, ◌*◌, ◌≤◌}
use lib.ListN.{length}
use borrow.Author.Tests.{eq-eqb}
use Rattle.rules.specs.Tapes.{value_at, read_tape}
use Rattle.rules.specs.Drawings as D
use Rattle.rules.specs.Pictures.{picture}
use Rattle.rules.proofs.Tiles.{demand_3}
use Rattle.picture.specs.Shapes.{grid_in}
use Rattle.picture.specs.declared.grid.Grid.{Grid}
use Rattle.picture.proofs.Grids.{accepted}
use Rattle.answers.specs.declared.Answer.{Answer}
use Rattle.answers.specs.Lines.{Draws, draw_fault, tile_fault}
use Rattle.promises.specs.Says.{FullSays, TilesSay}
use Rattle.answers.proofs.Clear.{tiles_clear}

-- A done drawing by tiles.
pub record DrawnByTiles (isSolid : Bool) (s : List ℕ) (d : Grid) (o' : List ℕ) (count : ℕ) : Type 0 where
  pub full : let g = grid_in d isSolid in o' ≡ picture isSolid g (D.drawn (read_tape s).tape g)
  pub sum : count ≡ (D.walked (read_tape s).tape (grid_in d isSolid)).clauses
  pub same_value : let t = (read_tape s).tape in
      let g = grid_in d isSolid in
      (rs : List D.Region) → D.InWalk g rs → (i j k : ℕ) → D.InGrid g i j k → D.Inside (D.last_in D.whole rs) i j k
      → value_at (D.short_after t (map (D.box_of g) rs)) (D.sample_at g i j k) ≡ value_at t (D.sample_at g i j k)
  pub part_flat : isSolid ≡ false → (r : D.Region) (u : D.State) → r.long ≡ 64
      → D.part_of (read_tape s).tape (grid_in d isSolid) r u ≤ D.flat_bound * length (read_tape s).tape.clauses
  pub part_solid : isSolid ≡ true → (r : D.Region) (u : D.State) → r.long ≡ 64
      → D.part_of (read_tape s).tape (grid_in d isSolid) r u ≤ D.solid_bound * length (read_tape s).tape.clauses

-- What a drawing that no line refuses leaves, by the walk's picture and count. A drawing with slopes has them too.
pub of_walk : (t : Bool) (s : List ℕ) (d : Grid) (n : ℕ) → Draws t s (grid_in d t) n
    → (o' : List ℕ) → o' ≡ picture t (grid_in d t) (D.walked (read_tape s).tape (grid_in d t)).heights
    → (count : ℕ) → count ≡ (D.walked (read_tape s).tape (grid_in d t)).clauses → DrawnByTiles t s d o' count
of_walk t s d n c o' left count sum =
    let g = grid_in d t in
    let tiles = demand_3 s c.read in
    let kind = (accepted d t c.grid).kind in
    record {
      full = left ∙ ap (picture t g) (tiles.same_picture g t kind c.grid);
      sum = sum;
      same_value = λ rs p i j m n h. tiles.same_value_in_walk g t kind c.grid rs p i j m n h;
      part_flat = λ h q u l. tiles.part_flat g q u (sym kind ∙ h) (ap (λ b. D.grid_fault b g) (sym h) ∙ c.grid) l;
      part_solid = λ h q u l. tiles.part_solid g q u (sym kind ∙ h) (ap (λ b. D.grid_fault b g) (sym h) ∙ c.grid) l;
    }

pub by_tiles : (t : Bool) (s : List ℕ) (d : Grid) (o o' w w' : List ℕ) (r : Answer) → TilesSay t s d o o' w w' r
    → r.number ≡ 0 → DrawnByTiles t s d o' r.count
by_tiles t s d o o' w w' r f e =
    let g = grid_in d t in
    let x = tile_fault t s g (length o) (length w) in
    let z : x ≡ 0 = sym f.answer.number ∙ e in
    let k = eq-eqb x 0 z in
    of_walk t s d (length o) (tiles_clear t s g (length o) (length w) z).drawing o' (f.pixels ∙ rw k) r.count
    (f.answer.count ∙ rw k)

-- The two drawings of one tape on one grid, both done: the same picture, whatever their buffers held.
pub same_picture : (t : Bool) (s : List ℕ) (d : Grid) (o p o' p' w w' : List ℕ) (q r : Answer) → FullSays t s d p p' q
    → q.number ≡ 0 → TilesSay t s d o o' w w' r → r.number ≡ 0 → o' ≡ p'
same_picture t s d o p o' p' w w' q r a i b j =
    let g = grid_in d t in
    let z : draw_fault t s g (length p) ≡ 0 = sym a.answer.number ∙ i in
    (by_tiles t s d o o' w w' r b j).full ∙ sym (a.pixels ∙ rw (eq-eqb (draw_fault t s g (length p)) 0 z))
