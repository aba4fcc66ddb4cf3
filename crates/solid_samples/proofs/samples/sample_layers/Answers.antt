-- The samples of the axes, the chunks that are listed, their sweep, and what each chunk comes to.
use borrow.Author.Rules.{rules}
use mathlib.Core.Path.{refl}
use mathlib.Core.Bool.{true}
use native.Mathlib.Omega.{arith}
use mir.Facts.{to_z-of_z}
use Rattle.picture.proofs.GridWords.{InWords}
use Rattle.walk.proofs.CellLaws.{small, span_words, x_span, y_span, z_span}
use Rattle.walk.proofs.LookLaws.{sound_runs}
use Rattle.axis_lanes.specs.Axes.{LaneSamples}
use Rattle.solid_samples.proofs.ChunkLaws.{chunks_few}
use Rattle.solid_samples.proofs.RunLaws.{placed_run}
use Rattle.solid_samples.proofs.samples.sample_layers.Goals as goal
use Rattle.solid_samples.proofs.samples.sample_layers.Goals.{After-lane_samples, After-lane_samples-layers, After-lane_samples-rows, Start}

told : (c : Start) → InWords c.args.grid
told c = search rules

-- The samples of each axis, at the grid's own numbers.
xs-of : (c : After-lane_samples)
    → let a = c.args in
    LaneSamples a.grid.xorigin a.grid.xstep a.parent.x a.parent.xend c.lane_samples.result
xs-of c =
    let f = told (goal.at.After-lane_samples c).Start in
    rw (to_z-of_z f.xorigin, to_z-of_z f.xstep) at c.lane_samples.ensures

ys-of : (c : After-lane_samples-rows)
    → let a = c.args in
    LaneSamples a.grid.yorigin a.grid.ystep a.parent.y a.parent.yend c.lane_samples-rows.result
ys-of c =
    let f = told (goal.at.After-lane_samples-rows c).Start in
    rw (to_z-of_z f.yorigin, to_z-of_z f.ystep) at c.lane_samples-rows.ensures

zs-of : (c : After-lane_samples-layers)
    → let a = c.args in
    LaneSamples a.grid.zorigin a.grid.zstep a.parent.z a.parent.zend c.lane_samples-layers.result
zs-of c =
    let f = told (goal.at.After-lane_samples-layers c).Start in
    rw (to_z-of_z f.zorigin, to_z-of_z f.zstep) at c.lane_samples-layers.ensures

pub lane_samples-requires : goal.lane_samples-requires
lane_samples-requires c =
    let p = c.requires.for_samples in
    let f = told (goal.at.lane_samples-requires c).Start in
    let d = small true _ p.ready.fault in
    let x = x_span true _ _ p.cell p.ready.fault in
    record { span = span_words f.xorigin f.xstep x; small = omega (arith, d.width, p.cell.xs) }

pub lane_samples-rows-requires : goal.lane_samples-rows-requires
lane_samples-rows-requires c =
    let p = c.requires.for_samples in
    let f = told (goal.at.lane_samples-rows-requires c).Start in
    let d = small true _ p.ready.fault in
    let y = y_span true _ _ p.cell p.ready.fault in
    record { span = span_words f.yorigin f.ystep y; small = omega (arith, d.height, p.cell.ys) }

pub lane_samples-layers-requires : goal.lane_samples-layers-requires
lane_samples-layers-requires c =
    let p = c.requires.for_samples in
    let f = told (goal.at.lane_samples-layers-requires c).Start in
    let d = small true _ p.ready.fault in
    let z = z_span _ _ p.cell p.ready.fault in
    record { span = span_words f.zorigin f.zstep z; small = omega (arith, d.depth, p.cell.zs) }

pub list_chunks-n-requires : goal.list_chunks-n-requires
list_chunks-n-requires c =
    let p = c.requires.for_samples in record {
      for_list = record {
        ready = p.ready;
        cell = p.cell;
        side = p.side;
        rows = ys-of (goal.at.list_chunks-n-requires c).After-lane_samples-rows;
        layers = zs-of (goal.at.list_chunks-n-requires c).After-lane_samples-layers;
      };
      ys_len = (refl, refl, refl);
    }

pub run_chunks-result-requires : goal.run_chunks-result-requires
run_chunks-result-requires c =
    let p = c.requires in
    record {
      runs = sound_runs p.for_samples.sound;
      few = omega (arith, c.list_chunks-n.ensures.few, (chunks_few p.for_samples).count);
      size = p.slots_len;
    }

pub settle_chunks-requires : goal.settle_chunks-requires
settle_chunks-requires c =
    let p = c.requires.for_samples in
    let w = c.run_chunks-result.ensures in
    record {
      all = p;
      room = omega (arith, w.within);
      placed = placed_run p w _ c.columns-xs.ensures (xs-of (goal.at.settle_chunks-requires c).After-lane_samples)
          c.list_chunks-n.ensures;
    }
