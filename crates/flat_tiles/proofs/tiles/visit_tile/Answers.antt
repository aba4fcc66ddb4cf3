-- Looked at, and settled.
use mathlib.Core.Path.{refl}
use native.Mathlib.Omega.{arith}
use Rattle.picture.proofs.PartLaws.{apart_then}
use Rattle.flat_eights.proofs.CellParts.{looked_apart}
use Rattle.flat_tiles.proofs.WalkLaws.{lent_again}
use Rattle.flat_tiles.proofs.tiles.visit_tile.Goals as goal

pub look-seen-requires : goal.look-seen-requires
look-seen-requires c =
    let p = c.requires in
    let l = p.lent in
    record {
      look = record {
        level = l.level;
        ready = l.ready;
        cell = p.ok;
        marks = record { behind = omega arith; within = omega (arith, l.marks) };
        words = l.words_first;
      };
      even = p.start;
    }

pub settle_tile-requires : goal.settle_tile-requires
settle_tile-requires c =
    let p = c.requires in
    record {
      before = c.args.picture.now;
      tile = record {
        lent = lent_again p.lent refl (omega arith) (omega arith) refl;
        ok = p.ok;
        side = p.side;
        start = p.start;
        size = p.size;
        rows = p.rows;
        blank = p.blank;
      };
      looked = c.look-seen.ensures.looked;
    }

pub returns : goal.returns
returns c =
    let v = c.settle_tile.ensures in
    let l = c.look-seen.ensures in record {
      visits = v.tile_settled.over _ l.looked;
      slots_len = v.slots_len;
      apart = apart_then (looked_apart c.requires.side l.apart) v.apart;
    }
