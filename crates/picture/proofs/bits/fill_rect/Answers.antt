-- `bits::fill_rect` meets its contract. The loop's invariant: whatever heights the bytes showed, they now show those
-- with the rows passed raised, and every byte outside these is as it was.
use mathlib.Core.Path.{◌≡◌, ap}
use Prim.Native.Nat.{◌+◌, ◌-◌, ◌*◌, ◌/◌}
use native.Mathlib.Omega.{arith}
use Rattle.picture.proofs.BitShows.{rect_none, rect_shows}
use Rattle.picture.proofs.PartLaws.{row_apart, apart_none, rows_apart}
use Rattle.picture.proofs.bits.fill_rect.Goals as goal

pub loop-j-init : goal.loop-j-init
loop-j-init c =
    let a = c.args in
    record {
      by_index = λ n h s. rect_none a.width n a.x a.y (a.xend - a.x) a.picture.now h s;
      apart = apart_none a.width a.x a.xend a.y a.y a.picture.now;
    }

pub loop-j-preserved : goal.loop-j-preserved
loop-j-preserved c =
    let m = c.loop-j in
    let a = c.args in
    let p = c.requires.within in
    record {
      by_index = λ n h s.
          rect_shows a.width n a.x a.y m.j (a.xend - a.x) (a.x / 8) m.picture c.fill_row.new.picture h
          (omega (arith, p.start)) (omega (arith, p.columns, p.some)) (omega arith)
          (rw c.stride-row.ensures at c.fill_row.ensures.marked) (m.invariant.by_index n h s);
      apart = rows_apart (omega arith) (omega arith) m.invariant.apart
          (row_apart a.width a.x a.xend m.j _ _ p.start p.columns
          (ap (λ s. m.j * s + a.x / 8) c.stride-row.ensures)
          (omega (arith, ap (λ s. m.j * s) c.stride-row.ensures, p.start, p.some)) c.fill_row.ensures.kept_outside);
    }

pub returns : goal.returns
returns c =
    let m = c.loop-j in
    let e : m.j ≡ c.args.yend = omega arith in
    record {
      by_index = λ n h s. rw e at (m.invariant.by_index n h s);
      apart = rw e at m.invariant.apart;
    }
