-- A cleared picture, then all tiles.
use mathlib.Core.Path.{refl, ap, ◌∙◌}
use mathlib.Core.Bool.{false}
use Prim.Native.Nat.{◌*◌}
use native.Mathlib.Omega.{arith}
use lib.ListN.{replicate}
use Rattle.rules.specs.Drawings.{Region}
use Rattle.rules.specs.Pictures.{stride}
use Rattle.picture.proofs.PartLaws.{all_blank}
use Rattle.walk.proofs.CellLaws.{small, first_in_lem, ready_small}
use Rattle.walk.proofs.ChildLaws.{parent_of, cell_whole}
use Rattle.flat_tiles.proofs.WalkLaws.{lent_again, folds_walked}
use Rattle.flat_tiles.proofs.tiles.tile_flat.Goals as goal

pub cell_at-all-requires : goal.cell_at-all-requires
cell_at-all-requires c =
    let e = c.requires.ready.fault in
    record { small = small false _ e; place = first_in_lem false _ e; some = omega arith; few = omega arith }

pub tiles_in-requires : goal.tiles_in-requires
tiles_in-requires c =
    let k = c.cell_at-all.ensures in
    let p = c.requires in
    let g = c.args.grid in
    let e = c.clear.ensures ∙ ap (λ n. replicate n 0) p.ready.size in
    let side = ap (λ (q : Region). q.long) k.same in
    record {
      lent = lent_again p (omega arith) refl refl refl;
      tiled = record {
        start = omega (arith, ap (λ (q : Region). q.i) k.same);
        side = side;
        parent = parent_of 64 8 (ready_small p.ready) k.ok (omega arith) (omega arith) side;
        whole = cell_whole 8 side k.ok;
      };
      blank = all_blank _ _ _ _ _ (g.height * stride g.width) e;
    }

pub returns : goal.returns
returns c =
    let r = c.requires.ready in
    folds_walked c.cell_at-all.ensures r.fault c.tiles_in.ensures.folds
    (c.clear.ensures ∙ ap (λ n. replicate n 0) r.size)
    (λ j. (c.slice_known-6-1.given j).fits)
