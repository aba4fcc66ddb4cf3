-- What the lanes of a sweep hold: at each place the tape's values at the samples of the chunk that is listed there.
use mathlib.Core.Path.{◌≡◌, ap, ◌∙◌}
use mathlib.Core.List.{List, []}
use Prim.Native.Nat.{ℕ, ◌+◌, ◌-◌, ◌*◌, ◌≤◌, ◌<◌}
use native.Mathlib.Nat.{zero-add}
use native.Mathlib.Omega.{arith}
use lib.IntN.{ℤ}
use lib.ListN.{get_or}
use Rattle.rules.specs.Tapes.{value_at}
use Rattle.rules.specs.Drawings.{at}
use Rattle.lanes.specs.Lanes.{lane_count, lane}
use Rattle.code.specs.Words.{tape_in}
use Rattle.sweep.specs.Sweeps.{chunk_sample, Swept}
use Rattle.picture.specs.declared.grid.Grid.{Grid}
use Rattle.walk.specs.declared.cell.Cell.{Cell}
use Rattle.walk.proofs.CellLaws.{child_in}
use Rattle.axis_lanes.specs.Axes.{LaneSamples}
use Rattle.solid_samples.specs.Chunks.{chunk_count, chunk_y, chunk_z, columns_of, RowValues, Listed}
use Rattle.solid_samples.specs.Samples.{ForSamples, Placed}
use Rattle.solid_samples.proofs.SampleLaws.{sample_same, sample_ok_lem}
use Rattle.solid_samples.proofs.ChunkLaws.{chunk_z_in}
use Rattle.solid_samples.proofs.ListLaws.{column_lower, column_upper}

module _ {ws : List ℕ} {grid : Grid} {c : Cell} {b : List ℕ} (p : ForSamples ws grid c b) {xs : List ℤ}
    {ys zs : List (List ℤ)} {n : ℕ} {ss : List (List ℤ)} {r : ℕ} (w : Swept ws xs ys zs n ss r) where
  -- A row from the lane `first` on, by its lanes on each axis.
  row_values : (q y z first : ℕ) → q < n → z < c.zend → first ≤ 4
      → ((k : ℕ) → k < 4 → c.x + k < c.xend → lane xs (first + k) ≡ at grid.xorigin grid.xstep (c.x + k))
      → ((k : ℕ) → k < 4 → y < c.yend → lane (get_or ys q []) (first + k) ≡ at grid.yorigin grid.ystep y)
      → ((k : ℕ) → k < lane_count → lane (get_or zs q []) k ≡ at grid.zorigin grid.zstep z)
      → RowValues ws grid c y z first (get_or ss (8 * r + q) [])
  row_values q y z first hq l hf hx hy hz =
      record {
        here = λ x f t i.
            let k = x - c.x in
            let few : k < 4 = omega (arith, p.cell.xs, p.side) in
            let column : c.x + k ≡ x = omega arith in
            let g = child_in x y z p.cell t i l in
            let same = sample_same grid x y z g p.ready.fault (chunk_sample xs ys zs q (first + k))
            (hx k few (omega arith) ∙ ap (at grid.xorigin grid.xstep) column) (hy k few i)
            (hz (first + k) (omega arith)) in
            record {
              value = λ m a.
                  w.values m q (first + k) a hq (omega arith) (sample_ok_lem grid x y z g p.ready.fault _ same)
                  ∙ ap (value_at (tape_in m ws)) same;
            };
      }

  pub placed_run : {places : List ℕ} (xr : List ℤ) → xs ≡ columns_of xr
      → LaneSamples grid.xorigin grid.xstep c.x c.xend xr
      → Listed grid c b ys zs places (chunk_count c) n
      → (m : ℕ) → m < chunk_count c → Placed ws grid c (chunk_y c m) (chunk_z c m) (get_or places m 0) r ss b
  placed_run {places} xr ex ax l m h =
      let o = l.chunks m h in
      let q = get_or places m 0 in
      let y = chunk_y c m in
      let z = chunk_z c m in
      record {
        hidden = o.hidden;
        known = λ e.
            record {
              lower = row_values q y z 0 (o.within e) (chunk_z_in p m) (omega arith)
                  (λ k u i.
                  ap (lane xs) (zero-add k) ∙ ap (λ v. lane v k) ex ∙ column_lower xr k u ∙ ax.here k (omega arith) i)
                  (λ k u i. ap (lane (get_or ys q [])) (zero-add k) ∙ (o.lanes e).lower k u i)
                  (o.lanes e).layer;
              upper = row_values q (y + 1) z 4 (o.within e) (chunk_z_in p m) (omega arith)
                  (λ k u i. ap (λ v. lane v (4 + k)) ex ∙ column_upper xr k u ∙ ax.here k (omega arith) i)
                  (λ k u i. (o.lanes e).upper k u i)
                  (o.lanes e).layer;
            };
      }
