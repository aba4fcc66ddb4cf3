-- One tile of a part: what is drawn on a blank picture, and that it is blank again.
use mathlib.Core.Path.{◌≡◌, refl, sym, ap, subst, ◌∙◌}
use mathlib.Core.Bool.{Bool, true, false}
use mathlib.Core.List.{List}
use Prim.Native.Nat.{ℕ, ◌+◌, ◌*◌, ◌/◌, ◌%◌, ◌<◌}
use native.Mathlib.Omega.{arith}
use lib.Bits.{bit_or}
use lib.Dec.{eqb}
use lib.ListN.{length, get_or, replicate, length-replicate}
use lib.Seq.{ext_get_or}
use borrow.Author.Tests.{eqb-true, eqb-false}
use Rattle.rules.specs.Drawings.{State, Region, sides, state, visit}
use Rattle.rules.specs.Pictures.{stride, bits_of}
use Rattle.rules.specs.Accepted.{Accepted}
use Rattle.rules.proofs.Runs.{good_accepted}
use Rattle.rules.proofs.Grids.{accepted_sound}
use Rattle.code.specs.Words.{tape_in}
use Rattle.picture.specs.Bits.{Shows}
use Rattle.picture.specs.Parts.{Apart}
use Rattle.picture.specs.Shapes.{grid_in}
use Rattle.picture.specs.declared.grid.Grid.{Grid}
use Rattle.picture.proofs.BitShows.{zeros_at, blank_shows, shows_packed}
use Rattle.patches.specs.Patches.{nothing, joined, PartSet}
use Rattle.walk.specs.Cells.{size_in, region_in}
use Rattle.walk.specs.Walks.{Visits}
use Rattle.walk.specs.declared.cell.Cell.{Cell}
use Rattle.flat_eights.specs.Sides.{below64}
use Rattle.plate_rules.specs.Plate.{tile_of}
use Rattle.plate_rules.proofs.PlateBytes.{Byte, byte}
use Rattle.plate_rules.proofs.Material.{tile_bytes}
use Rattle.plate_tiles.specs.Tiles.{Sized, tile_numbered, number_of, IsTile, Turn, TilesSet}
use Rattle.plate_tiles.specs.Joins.{drawn_bits, with_part}
use Rattle.plate_tiles.proofs.TileNumbers.{numbered_tile, in_tile, of_tile}
use Rattle.plate_tiles.proofs.TileSets.{cell_turn}

module _ {grid : Grid} (s : Sized grid) {m : ℕ} {k : Cell} (t : IsTile grid m k) {b b₁ : List ℕ}
    (clean : b ≡ replicate (grid.height * stride grid.width) 0) where
  -- The bytes of the tile are those of the tape's drawing.
  module _ {code : List ℕ} {most count : ℕ}
      (v : Visits false most code grid below64 (region_in k) b b₁ count)
      (bytes : (j : ℕ) → get_or b₁ j 0 < 256) (n : ℕ) (a : Accepted (tape_in n code)) where
    abbrev from : State
    from = state (replicate (grid.width * grid.height) 0) 0

    shown : b₁ ≡ bits_of grid.width grid.height
        (visit below64 (tape_in n code) (grid_in grid false) (region_in k) from).heights
    shown =
        shows_packed grid.width grid.height b₁ _ bytes
        ((v.draws n a).shown from
        (subst (λ q. Shows grid.width grid.height q (replicate (grid.width * grid.height) 0)) (sym clean)
        (blank_shows grid.width grid.height)))

    drawn_there : (y c : ℕ) → y < grid.height → c < stride grid.width → number_of grid y c ≡ m
        → get_or b₁ (y * stride grid.width + c) 0 ≡ get_or (drawn_bits (tape_in n code) grid) (y * stride grid.width + c) 0
    unfolding sides
    drawn_there y c l o e =
        let g = grid_in grid false in
        let p = y * stride grid.width + c in
        let r : region_in k ≡ tile_of y c =
        t.cell.same ∙ ap (tile_numbered grid) (sym e) ∙ numbered_tile s y c l o in
        ap (λ i. get_or i p 0) shown
        ∙ ap (λ q. get_or (bits_of grid.width grid.height (visit below64 (tape_in n code) g q from).heights) p 0) r
        ∙ tile_bytes g (accepted_sound g false refl s.fault) refl (tape_in n code) (good_accepted (tape_in n code) a)
        from (length-replicate (grid.width * grid.height) 0)
        (λ i. omega (arith, zeros_at (grid.width * grid.height) i)) y c l o

    pub joined_turn : (mark : ℕ) → (mark ≡ 0 → ⊥) → (d : List ℕ) {d' : List ℕ}
        → PartSet grid.width k.x k.xend k.y k.yend (joined d b₁) d d'
        → TilesSet grid (Turn m mark) (with_part d (tape_in n code) grid) d d'
    joined_turn mark on d p =
        cell_turn s t mark on (joined d b₁) (with_part d (tape_in n code) grid) p (λ y c l o e.
        ap (λ i. bit_or (get_or d (y * stride grid.width + c) 0) i) (drawn_there y c l o e))

  -- The tile cleared, the picture is blank.
  pub blank_again : {b₂ : List ℕ} → length b₂ ≡ grid.height * stride grid.width
      → Apart grid.width k.x (k.x + 64) k.y (k.y + 64) b b₁
      → PartSet grid.width k.x k.xend k.y k.yend nothing b₁ b₂
      → b₂ ≡ replicate (grid.height * stride grid.width) 0
  blank_again {b₂} size a p =
      let z = grid.height * stride grid.width in
      ext_get_or 0 b₂ (replicate z 0) (size ∙ sym (length-replicate z 0))
      (λ i l. at i (byte grid.width grid.height i (omega (arith, l, size))) ∙ sym (zeros_at z i))
    where
      by : (y c : ℕ) → y < grid.height → c < stride grid.width → (u : Bool) → eqb (number_of grid y c) m ≡ u
          → get_or b₂ (y * stride grid.width + c) 0 ≡ 0
      by y c l o true e = p.inside y c o (in_tile s y c l o t (eqb-true (number_of grid y c) m e))
      by y c l o false e =
          let other = eqb-false (number_of grid y c) m e in
          p.outside.bytes y c o (λ i. other (of_tile s y c l o t
          (record {
            from_row = i.from_row;
            to_row = omega (arith, i.to_row, t.cell.ok.ys.in_side, ap (λ (q : Region). q.long) t.cell.same);
            from_pixel = i.from_pixel;
            to_pixel = omega (arith, i.to_pixel, t.cell.ok.xs.in_side, ap (λ (q : Region). q.long) t.cell.same);
          })))
          ∙ a.bytes y c o (λ i. other (of_tile s y c l o t i))
          ∙ ap (λ q. get_or q (y * stride grid.width + c) 0) clean
          ∙ zeros_at (grid.height * stride grid.width) (y * stride grid.width + c)

      at : (i : ℕ) → Byte grid.width grid.height i → get_or b₂ i 0 ≡ 0
      at i q =
          let w = stride grid.width in
          ap (λ j. get_or b₂ j 0) q.place ∙ by (i / w) (i % w) q.row q.column (eqb (number_of grid (i / w) (i % w)) m) refl

pub blank_size : (grid : Grid) {b : List ℕ} → b ≡ replicate (size_in false grid) 0 → length b ≡ size_in false grid
blank_size grid e = ap length e ∙ length-replicate (size_in false grid) 0
