-- The tiles begun, and the other places joined: the picture drawn afresh where the part touches it.
use mathlib.Core.Path.{◌≡◌, refl, sym, ap, ap₂, ◌∙◌}
use mathlib.Core.Bool.{false}
use mathlib.Core.List.{List, ◌∷◌, ◌++◌}
use Prim.Native.Nat.{ℕ, suc, ◌+◌, ◌-◌, ◌*◌, ◌<◌, ◌≤◌}
use native.Mathlib.Nat.{mul-le-mul_right}
use native.Mathlib.Omega.{arith}
use lib.ListN.{length, get_or, take, drop, replicate}
use lib.Seq.{length-take-le, take_at, drop_at}
use Rattle.rules.specs.Values.{when}
use Rattle.rules.specs.Tapes.{Tape, read_tape}
use Rattle.rules.specs.Drawings as D
use Rattle.rules.specs.Pictures.{stride, bits_of}
use Rattle.picture.specs.Shapes.{grid_in}
use Rattle.picture.specs.declared.grid.Grid.{Grid}
use Rattle.picture.proofs.BitShows.{zeros_at}
use Rattle.code.proofs.RunLaws.{take_replicate}
use Rattle.walk.specs.Cells.{Ready}
use Rattle.walk.proofs.CellLaws.{small}
use Rattle.plate_rules.specs.Plate.{places, place_size, plate_size, places_from, places_of, parts_in, union_of, afresh}
use Rattle.plate_rules.specs.Plate.{greater, redrawn, stored, touched, tile_of}
use Rattle.plate_rules.proofs.JoinedBytes.{drawn_flat}
use Rattle.plate_rules.proofs.Parts.{greater_at, height_in, heights, union_first, union_append}
use Rattle.plate_rules.proofs.Places.{places_append, zeros_empty}
use Rattle.plate_rules.proofs.PlateBytes.{bytes_agree}
use Rattle.plate_rules.proofs.PlateChanges.{zeros_size}
use Rattle.plate_rules.proofs.Stored.{padded_size, reads_back, stored_taken}
use Rattle.plate_rules.proofs.WalkTiles.{redrawn_rows}
use Rattle.plate_tiles.specs.Tiles.{Sized, number_of}
use Rattle.plate_tiles.proofs.TileNumbers.{number_below, numbered_tile}
use Rattle.plate_drawing.specs.declared.Change.{Change}
use Rattle.plate_drawing.specs.declared.Change.TheVariants.{Added, Removed}
use Rattle.plate_drawing.specs.Afresh.{Joins, added_heights, Began, others_of, comes, picture_limit}

-- As much of the zeros as a flat picture is long.
pub picture_fits : {grid : Grid} {b : List ℕ} → Ready false grid b → length b ≤ picture_limit
unfolding picture_limit
picture_fits {grid} r =
    let s = small false grid r.fault in
    omega (arith, r.size, s.width, mul-le-mul_right (stride grid.width) s.height)

pub blank_front : (n : ℕ) {b : List ℕ} → b ≡ replicate picture_limit 0 → n ≤ picture_limit → take n b ≡ replicate n 0
blank_front n e l = ap (take n) e ∙ take_replicate n picture_limit 0 l

comes_size : (change : Change) (s : List ℕ) → (read_tape s).number ≡ 0 → length (comes change s) ≡ place_size
comes_size Added s e = padded_size s e
comes_size Removed s e = zeros_size

comes_height : (change : Change) (s : List ℕ) (grid : Grid) → (read_tape s).number ≡ 0 → (p : ℕ)
    → height_in (comes change s) (grid_in grid false) p ≡ get_or (added_heights change (read_tape s).tape grid) p 0
unfolding height_in
comes_height Added s grid e p =
    rw (stored_taken s e)
    (ap (λ t. get_or (D.drawn t.tape (grid_in grid false)) p 0) (reads_back s e))
comes_height Removed s grid e p = rw zeros_empty (sym (zeros_at (grid.width * grid.height) p))

-- The places after the call.
places_after : (p : ℕ) (b m : List ℕ) → p < places → length m ≡ plate_size → length b ≡ place_size
    → places_of (stored p b m)
    ≡ places_from p (take (p * place_size) m) ++ (b ∷ places_from (7 - p) (drop (suc p * place_size) m))
unfolding stored places_from
places_after p b m l e f =
    let u = take (p * place_size) m in
    let v = drop (suc p * place_size) m in
    places_append p (suc (7 - p)) places u (b ++ v) (omega arith)
    (length-take-le (p * place_size) m (omega (arith, e, mul-le-mul_right place_size l)))
    ∙ ap₂ (λ i j. places_from p u ++ (i ∷ places_from (7 - p) j)) (take_at b v place_size f) (drop_at b v place_size f)

module _ (p : ℕ) (s : List ℕ) (change : Change) (grid : Grid) (m : List ℕ) (l : p < places) (e : length m ≡ plate_size)
    (read : (read_tape s).number ≡ 0) where
  abbrev g : D.Grid
  g = grid_in grid false

  abbrev t : Tape
  t = (read_tape s).tape

  abbrev all : List ℕ
  all = union_of (parts_in (places_of (stored p (comes change s) m))) g

  abbrev others : List ℕ
  others = union_of (parts_in (others_of p m)) g

  -- The part that comes and the others, pixel by pixel.
  same : (i : ℕ) → get_or (greater (added_heights change t grid) others) i 0 ≡ get_or all i 0
  same i =
      let us = places_from p (take (p * place_size) m) in
      let vs = places_from (7 - p) (drop (suc p * place_size) m) in
      let b = comes change s in
      let after = ap (λ ps. heights ps g i) (places_after p b m l e (comes_size change s read)) in
      omega (
        arith,
        greater_at (added_heights change t grid) others i,
        comes_height change s grid read i,
        after,
        union_append us (b ∷ vs) g i,
        union_first b vs g i,
        union_append us vs g i,
      )

  added_most : (a : Change) (i : ℕ) → get_or (added_heights a t grid) i 0 ≤ 1
  added_most Added i = (drawn_flat t g refl).most i
  added_most Removed i = omega (arith, zeros_at (grid.width * grid.height) i)

  module _ {marks b c d : List ℕ} (r : Ready false grid b) (size : length d ≡ length b)
      (k : Began t change grid marks b c) (j : Joins grid marks others c d) where
    mark : (y x : ℕ) → y < grid.height → x < stride grid.width
        → get_or marks (number_of grid y x) 0 ≡ when (touched t g (tile_of y x)) 1
    mark y x h o =
        let s : Sized grid = record { fault = r.fault } in
        k.each (number_of grid y x) (number_below s y x h o)
        ∙ ap (λ q. when (touched t g q) 1) (numbered_tile s y x h o)

    pub redrawn_all : d ≡ redrawn t g (afresh (stored p (comes change s) m) g) b
    unfolding afresh
    redrawn_all =
        redrawn_rows t g (bits_of grid.width grid.height all) b d
        (record {
          full = r.size;
          size = size;
          kept = λ y x h o z.
              let off = mark y x h o ∙ ap (λ v. when v 1) z in
              j.kept.bytes y x h o off ∙ k.kept.bytes y x h o off;
          drawn = λ y x h o z.
              (j.shown (added_heights change t grid) (added_most change) k.shown).bytes y x h o
              (λ off. omega (arith, off, mark y x h o ∙ ap (λ v. when v 1) z))
              ∙ bytes_agree grid.width grid.height (greater (added_heights change t grid) others) all y x h o
              (λ n u v. same (y * grid.width + (8 * x + n)));
        })
