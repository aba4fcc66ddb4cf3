-- The chunks of a region listed for one sweep: a chunk that is hidden, one more at a place, and what its lanes hold.
use mathlib.Core.Path.{◌≡◌, refl, ap, ◌∙◌}
use mathlib.Core.Logic.{◌≢◌}
use mathlib.Core.Bool.{Bool, true, false}
use mathlib.Core.List.{List, [], ◌∷◌}
use Prim.Native.Nat.{ℕ, zero, suc, ◌+◌, ◌-◌, ◌*◌, ◌≤◌, ◌<◌}
use native.Mathlib.Nat.{add-mul, mul_comm, mul-le-mul_right}
use native.Mathlib.Omega.{arith}
use lib.Dec.{eqb}
use lib.IntN.{ℤ}
use lib.ListN.{length, get_or, set, length-set}
use lib.Seq.{get_or-set_same, get_or-set_other}
use borrow.Author.Tests.{eqb-true, eqb-false}
use Rattle.rules.specs.Drawings.{size_limit, at, lesser, rows_high}
use Rattle.rules.proofs.Regions.{lesser_both}
use Rattle.rules.proofs.Pixels.{rows_high_lem}
use Rattle.lanes.specs.Lanes.{lane_count, lane}
use Rattle.picture.specs.Heights.{RowsFit}
use Rattle.picture.specs.declared.grid.Grid.{Grid}
use Rattle.walk.specs.declared.cell.Cell.{Cell}
use Rattle.axis_lanes.specs.Axes.{LaneSamples}
use Rattle.solid_samples.specs.Chunks.{chunk_y, chunk_z, columns_of, pair_of, HighChunk, ChunkLanes, PlaceOf, Listed}

-- Eight lanes, each by another name.
pub eight : {a a' b b' c c' d d' e e' f f' g g' h h' : ℤ} → a ≡ a' → b ≡ b' → c ≡ c' → d ≡ d' → e ≡ e' → f ≡ f'
    → g ≡ g' → h ≡ h'
    → ◌≡◌ {A = List ℤ} (a ∷ (b ∷ (c ∷ (d ∷ (e ∷ (f ∷ (g ∷ (h ∷ []))))))))
    (a' ∷ (b' ∷ (c' ∷ (d' ∷ (e' ∷ (f' ∷ (g' ∷ (h' ∷ []))))))))
eight p q r s t u v w = cc

pub pair_lower : (r : List ℤ) (i k : ℕ) → k < 4 → lane (pair_of r i) k ≡ lane r i
pair_lower r i zero h = refl
pair_lower r i (suc zero) h = refl
pair_lower r i (suc (suc zero)) h = refl
pair_lower r i (suc (suc (suc zero))) h = refl
pair_lower r i (suc (suc (suc (suc k)))) h = absurd (omega arith)

pub pair_upper : (r : List ℤ) (i k : ℕ) → k < 4 → lane (pair_of r i) (4 + k) ≡ lane r (i + 1)
pair_upper r i zero h = refl
pair_upper r i (suc zero) h = refl
pair_upper r i (suc (suc zero)) h = refl
pair_upper r i (suc (suc (suc zero))) h = refl
pair_upper r i (suc (suc (suc (suc k)))) h = absurd (omega arith)

pub column_lower : (r : List ℤ) (k : ℕ) → k < 4 → lane (columns_of r) k ≡ lane r k
column_lower r zero h = refl
column_lower r (suc zero) h = refl
column_lower r (suc (suc zero)) h = refl
column_lower r (suc (suc (suc zero))) h = refl
column_lower r (suc (suc (suc (suc k)))) h = absurd (omega arith)

pub column_upper : (r : List ℤ) (k : ℕ) → k < 4 → lane (columns_of r) (4 + k) ≡ lane r k
column_upper r zero h = refl
column_upper r (suc zero) h = refl
column_upper r (suc (suc zero)) h = refl
column_upper r (suc (suc (suc zero))) h = refl
column_upper r (suc (suc (suc (suc k)))) h = absurd (omega arith)

-- An axis from an index on, at a later index.
axis_at : {o s : ℤ} {from end : ℕ} {vs : List ℤ} → LaneSamples o s from end vs → (i : ℕ) → from ≤ i → i < from + 8
    → i < end → lane vs (i - from) ≡ at o s i
axis_at {o} {s} {from} l i f t e =
    let same : from + (i - from) ≡ i = omega arith in
    l.here (i - from) (omega arith) (omega arith) ∙ ap (at o s) same

-- The lanes of a chunk's rows and layer.
pub chunk_lanes : (grid : Grid) (c : Cell) (rs ls row layer : List ℤ) (y z : ℕ)
    → LaneSamples grid.yorigin grid.ystep c.y c.yend rs
    → LaneSamples grid.zorigin grid.zstep c.z c.zend ls
    → c.y ≤ y → y ≤ c.y + 2 → c.z ≤ z → z < c.zend → z < c.z + 4 → row ≡ pair_of rs (y - c.y)
    → ((k : ℕ) → k < lane_count → lane layer k ≡ lane ls (z - c.z)) → ChunkLanes grid c y z row layer
chunk_lanes grid c rs ls row layer y z ay az fy ty fz tz uz er el =
    let next : y - c.y + 1 ≡ y + 1 - c.y = omega arith in
    record {
      lower = λ k h i.
          ap (λ v. lane v k) er ∙ pair_lower rs (y - c.y) k h ∙ axis_at ay y fy (omega arith) i;
      upper = λ k h i.
          ap (λ v. lane v (4 + k)) er
          ∙ pair_upper rs (y - c.y) k h
          ∙ ap (lane rs) next
          ∙ axis_at ay (y + 1) (omega arith) (omega arith) i;
      layer = λ k h. el k h ∙ axis_at az z fz (omega arith) tz;
    }

-- One pixel as a rectangle.
pub first_fits : (w h x y : ℕ) → w ≤ size_limit → x < w → y < h → RowsFit 1 w (y * w + x) 1 (w * h)
first_fits w h x y n i j =
    record { narrow = n; last = omega (arith, mul-le-mul_right w j, mul_comm w h) }

-- A chunk without rows; and the test of a chunk's rows.
pub no_rows : (grid : Grid) (c : Cell) (y z : ℕ) (b : List ℕ) → c.yend ≤ y → HighChunk grid c y z b
no_rows grid c y z b h =
    record {
      lower = record { here = λ x f t i. absurd (omega arith) };
      upper = record { here = λ x f t i. absurd (omega arith) };
    }

pub high_chunk : (grid : Grid) (c : Cell) (y z e : ℕ) (b : List ℕ) → y < c.yend → e ≡ lesser c.yend (y + 2)
    → rows_high (e - y) grid.width (y * grid.width + c.x) (c.xend - c.x) (z + 1) b ≡ true
    → HighChunk grid c y z b
high_chunk grid c y z e b l s h =
    record {
      lower = record {
        here = λ x f t i.
            rows_high_lem (e - y) grid.width (y * grid.width + c.x) (c.xend - c.x) (z + 1) b h (y * grid.width + x)
            (record {
              row = 0;
              row_in = omega (arith, s, lesser_both y c.yend (y + 2) i (omega arith));
              start = omega arith;
              end = omega arith;
            });
      };
      upper = record {
        here = λ x f t i.
            rows_high_lem (e - y) grid.width (y * grid.width + c.x) (c.xend - c.x) (z + 1) b h
            ((y + 1) * grid.width + x)
            (record {
              row = 1;
              row_in = omega (arith, s, lesser_both (y + 1) c.yend (y + 2) i (omega arith));
              start = omega (arith, add-mul y 1 grid.width);
              end = omega (arith, add-mul y 1 grid.width);
            });
      };
    }

module _ {grid : Grid} {c : Cell} {b : List ℕ} {ys zs : List (List ℤ)} {places : List ℕ} {m n : ℕ}
    (l : Listed grid c b ys zs places m n) (t : m < 8) where
  -- Chunk m, which is hidden.
  pub hidden_listed : {y z : ℕ} → y ≡ chunk_y c m → z ≡ chunk_z c m → HighChunk grid c y z b
      → Listed grid c b ys zs (set places m 8) (m + 1) n
  hidden_listed ey ez h =
      record {
        few = omega (arith, l.few);
        rows = l.rows;
        layers = l.layers;
        size = length-set places m 8 ∙ l.size;
        chunks = λ j k. by j k (eqb j m) refl;
      }
    where
      here : PlaceOf grid c b ys zs n m 8
      here = record { hidden = λ e. rw (ey, ez) at h; within = λ e. absurd (omega arith); lanes = λ e. absurd (omega arith) }

      by : (j : ℕ) → j < m + 1 → (v : Bool) → eqb j m ≡ v → PlaceOf grid c b ys zs n j (get_or (set places m 8) j 0)
      by j k true e =
          let q : m < length places = omega (arith, l.size) in
          rw (eqb-true j m e, get_or-set_same places m 8 0 q) here
      by j k false e =
          let d = eqb-false j m e in rw (get_or-set_other places m j 8 0 d) (l.chunks j (omega arith))

  -- Chunk m, at the next place.
  pub placed_listed : {y z : ℕ} (row layer : List ℤ) → y ≡ chunk_y c m → z ≡ chunk_z c m → ChunkLanes grid c y z row layer
      → Listed grid c b (set ys n row) (set zs n layer) (set places m n) (m + 1) (n + 1)
  placed_listed row layer ey ez h =
      record {
        few = omega (arith, l.few);
        rows = length-set ys n row ∙ l.rows;
        layers = length-set zs n layer ∙ l.layers;
        size = length-set places m n ∙ l.size;
        chunks = λ j k. by j k (eqb j m) refl;
      }
    where
      here : PlaceOf grid c b (set ys n row) (set zs n layer) (n + 1) m n
      here =
          let u : n < length ys = omega (arith, l.rows, l.few) in
          let v : n < length zs = omega (arith, l.layers, l.few) in
          record {
            hidden = λ e. absurd (omega (arith, l.few));
            within = λ e. omega arith;
            lanes = λ e. rw (get_or-set_same ys n row [] u, get_or-set_same zs n layer [] v) (rw (ey, ez) at h);
          }

      still : (j p : ℕ) → PlaceOf grid c b ys zs n j p → PlaceOf grid c b (set ys n row) (set zs n layer) (n + 1) j p
      still j p o =
          record {
            hidden = o.hidden;
            within = λ e. omega (arith, o.within e);
            lanes = λ e.
                let d : p ≢ n = λ q. absurd (omega (arith, o.within e)) in
                rw (get_or-set_other ys n p row [] d, get_or-set_other zs n p layer [] d) (o.lanes e);
          }

      by : (j : ℕ) → j < m + 1 → (v : Bool) → eqb j m ≡ v
          → PlaceOf grid c b (set ys n row) (set zs n layer) (n + 1) j (get_or (set places m n) j 0)
      by j k true e =
          let q : m < length places = omega (arith, l.size) in
          rw (eqb-true j m e, get_or-set_same places m n 0 q) here
      by j k false e =
          let d = eqb-false j m e in
          rw (get_or-set_other places m j n 0 d) (still j (get_or places j 0) (l.chunks j (omega arith)))

-- The start and the end of the list.
pub none_listed : {grid : Grid} {c : Cell} {b : List ℕ} {ys zs : List (List ℤ)} {places : List ℕ} → length ys ≡ 8
    → length zs ≡ 8 → length places ≡ 8 → Listed grid c b ys zs places 0 0
none_listed e f g =
    record { few = omega arith; rows = e; layers = f; size = g; chunks = λ j k. absurd (omega arith) }

pub all_listed : {grid : Grid} {c : Cell} {b : List ℕ} {ys zs : List (List ℤ)} {places : List ℕ} {m e n : ℕ} → m ≡ e
    → Listed grid c b ys zs places m n → Listed grid c b ys zs places e n
all_listed h l = rw h at l
