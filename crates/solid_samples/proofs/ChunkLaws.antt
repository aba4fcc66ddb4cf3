-- The samples of a region of side 4 by chunks: the walk's order, heights that only rise, and a chunk that is hidden.
use mathlib.Core.Path.{◌≡◌, refl, ap, ◌∙◌}
use mathlib.Core.Bool.{Bool, true, false}
use mathlib.Core.List.{List, [], ◌∷◌, ◌++◌, append-nil, append_assoc}
use Prim.Native.Nat.{ℕ, zero, suc, ◌+◌, ◌-◌, ◌*◌, ◌≤◌, ◌<◌}
use native.Mathlib.Omega.{arith}
use native.Mathlib.Nat.{add-mul, mod-lt, mul-le-mul_right}
use lib.Arith.{digits_div, digits_mod}
use lib.Dec.{ltb}
use lib.IntN.{ℤ}
use lib.ListN.{length, get_or}
use borrow.Author.Tests.{le-leb, lt-ltb, le-ltb, ltb-true}
use Rattle.rules.specs.Values.{pick}
use Rattle.rules.specs.Tapes.{Tape}
use Rattle.rules.specs.Drawings.{Grid, Region, region, State, state, hidden, fold, visit}
use Rattle.rules.specs.Drawings.{along_x, along_y, along_z}
use Rattle.rules.proofs.Visit.{visit_hidden, sample_by_case}
use Rattle.rules.proofs.Pixels.{fill_raised}
use Rattle.picture.specs.Shapes.{grid_in}
use Rattle.picture.specs.declared.grid.Grid as declared
use Rattle.walk.specs.Draws.{Same}
use Rattle.walk.specs.Cells.{Ready, CellOk}
use Rattle.walk.specs.Walks.{Sound, Folds}
use Rattle.walk.specs.declared.cell.Cell.{Cell}
use Rattle.walk.proofs.Along.{layers_step, layers_end}
use Rattle.walk.proofs.Draws.{fold_none, fold_list, draws_none, draws_same}
use Rattle.walk.proofs.Places.{Left, left_from, left_list, left_done}
use Rattle.walk.proofs.Filling.{hidden_sample}
use Rattle.walk.proofs.CellLaws.{kind, child_in}
use Rattle.solid_samples.proofs.SampleLaws.{pixel_in}
use Rattle.solid_samples.specs.Samples.{ForSamples, Placed}
use Rattle.solid_samples.specs.Chunks.{chunk_count, chunk_y, chunk_z, row_in, chunk_in, HighRow, HighChunk}

-- A row that the region has, and one that it has not.
pub row_there : (c : Cell) (y z : ℕ) → y < c.yend → row_in c y z ≡ along_x 4 c.x y z 1 c.xend
unfolding row_in
row_there c y z h = rw (lt-ltb y c.yend h)

pub row_gone : (c : Cell) (y z : ℕ) → c.yend ≤ y → row_in c y z ≡ []
unfolding row_in
row_gone c y z h = rw (le-ltb y c.yend h)

-- Lists of regions drawn: none, one after another, and one by another name.
module _ {isSolid : Bool} {ws : List ℕ} {grid : declared.Grid} {ns : List ℕ} where
  pub folds_none : {most : ℕ} {qs : List Region} (b : List ℕ) → qs ≡ [] → Folds isSolid most ws grid ns qs b b 0
  folds_none b e = rw e (record { draws = λ m a. fold_none _ b; bound = omega arith })

  pub folds_as : {most : ℕ} {qs rs : List Region} {b b' : List ℕ} {c : ℕ} → qs ≡ rs
      → Folds isSolid most ws grid ns rs b b' c → Folds isSolid most ws grid ns qs b b' c
  folds_as e f = rw e f

  pub folds_both : (k m : ℕ) {xs ys : List Region} {b b₁ b' : List ℕ} {c d : ℕ} → Folds isSolid k ws grid ns xs b b₁ c
      → Folds isSolid m ws grid ns ys b₁ b' d → Folds isSolid (k + m) ws grid ns (xs ++ ys) b b' (c + d)
  folds_both k m {xs} {ys} f g =
      record {
        draws = λ n a. fold_list _ xs ys (f.draws n a) (g.draws n a);
        bound = omega (arith, f.bound, g.bound, add-mul k m (length ws));
      }

-- Heights that only rise.
pub record Higher (b b' : List ℕ) : Type 0 where
  pub size : length b' ≡ length b
  pub from : (p : ℕ) → p < length b → get_or b p 0 ≤ get_or b' p 0

pub higher_same : (b : List ℕ) → Higher b b
higher_same b = record { size = refl; from = λ p h. omega arith }

pub higher_then : {a b c : List ℕ} → Higher a b → Higher b c → Higher a c
higher_then {a} {b} {c} u v =
    record {
      size = v.size ∙ u.size;
      from = λ p h. omega (arith, u.from p h, v.from p (omega (arith, u.size)));
    }

samples_rise : (t : Tape) (g : Grid) (qs : List Region) (s : State)
    → Higher s.heights (fold (λ q y. visit [] t g q y) qs s).heights
unfolding fold
samples_rise t g [] s = higher_same s.heights
samples_rise t g (q ∷ qs) s =
    higher_then
    (sample_by_case (λ y. Higher s.heights y.heights) t g q s
    (λ e. higher_same s.heights)
    (λ e. let r = fill_raised g q s.heights in record { size = r.size; from = r.from })
    (λ e. higher_same s.heights))
    (samples_rise t g qs (visit [] t g q s))

pub folds_rise : {k : ℕ} {ws : List ℕ} {grid : declared.Grid} {qs : List Region} {b b' : List ℕ} {c : ℕ} → Sound ws
    → Folds true k ws grid [] qs b b' c → Higher b b'
folds_rise {ws = ws} {grid = grid} {qs = qs} {b = b} s f =
    let e = ((f.draws s.slots s.accepted).shown (state b 0) (record { same = refl })).same in
    rw e (samples_rise _ (grid_in grid true) qs (state b 0))

-- Samples that are hidden leave everything as it is.
module _ (t : Tape) (g : Grid) (y z px : ℕ) where
  hidden_along : (l i : ℕ) (s : State)
      → ((x : ℕ) → i ≤ x → x < px → hidden g (region x y z 1) s.heights ≡ true)
      → fold (λ q v. visit [] t g q v) (along_x l i y z 1 px) s ≡ s
  unfolding fold along_x
  hidden_along zero i s h = refl
  hidden_along (suc l) i s h =
      go (ltb i px) refl (hidden_along l (i + 1) s (λ x f e. h x (omega arith) e))
    where
      go : (v : Bool) → ltb i px ≡ v → fold (λ q v. visit [] t g q v) (along_x l (i + 1) y z 1 px) s ≡ s
          → fold (λ q v. visit [] t g q v) (pick v (region i y z 1 ∷ []) [] ++ along_x l (i + 1) y z 1 px) s ≡ s
      go true e rest =
          ap (λ v. fold (λ q v. visit [] t g q v) (along_x l (i + 1) y z 1 px) v)
          (visit_hidden [] t g (region i y z 1) s (h i (omega arith) (ltb-true i px e)))
          ∙ rest
      go false e rest = rest

module _ {grid : declared.Grid} {c : Cell} {b₀ : List ℕ} (r : Ready true grid b₀) (k : CellOk grid.depth grid c) where
  -- What is hidden stays so while heights rise.
  later_row : {y z : ℕ} {b : List ℕ} → z < c.zend → Higher b₀ b → HighRow grid c y z b₀ → HighRow grid c y z b
  later_row {y} {z} l u h =
      record {
        here = λ x f e i. omega (
          arith,
          h.here x f e i,
          u.from (y * grid.width + x) (pixel_in grid x y z (child_in x y z k e i l) r.fault r),
        );
      }

  pub later_chunk : {y z : ℕ} {b : List ℕ} → z < c.zend → Higher b₀ b → HighChunk grid c y z b₀
      → HighChunk grid c y z b
  later_chunk l u h = record { lower = later_row l u h.lower; upper = later_row l u h.upper }

  -- A hidden chunk's samples change nothing and count nothing.
  hidden_row : {ws : List ℕ} {y z : ℕ} → z < c.zend → HighRow grid c y z b₀ → Folds true 4 ws grid [] (row_in c y z) b₀ b₀ 0
  unfolding row_in
  hidden_row {ws} {y} {z} l h =
      by (ltb y c.yend) refl
    where
      g : Grid
      g = grid_in grid true

      at : (x : ℕ) → c.x ≤ x → x < c.xend → y < c.yend → hidden g (region x y z 1) b₀ ≡ true
      at x f e i =
          let p = child_in x y z k e i l in
          hidden_sample g x y z b₀ (kind true grid r.fault) p.x_in p.y_in p.z_in
          ∙ le-leb _ _ (h.here x f e i)

      by : (v : Bool) → ltb y c.yend ≡ v
          → Folds true 4 ws grid [] (pick v (along_x 4 c.x y z 1 c.xend) []) b₀ b₀ 0
      by true e =
          record {
            draws = λ m a.
                draws_same
                (λ s q. hidden_along _ g y z c.xend 4 c.x s
                (λ x f i. rw (← q.same) (at x f i (ltb-true y c.yend e))))
                (draws_none Same b₀);
            bound = omega arith;
          }
      by false e = folds_none b₀ refl

  pub hidden_chunk : {ws : List ℕ} {y z : ℕ} → z < c.zend → HighChunk grid c y z b₀
      → Folds true 8 ws grid [] (chunk_in c y z) b₀ b₀ 0
  hidden_chunk l h = folds_both 4 4 (hidden_row l h.lower) (hidden_row l h.upper)

-- The n chunks from chunk m on.
unfoldable pub chunks_from : ℕ → Cell → ℕ → List Region
chunks_from zero c m = []
chunks_from (suc n) c m = chunk_in c (chunk_y c m) (chunk_z c m) ++ chunks_from n c (m + 1)

-- The rows of a layer are two chunks.
layer_chunks : (c : Cell) (z : ℕ)
    → along_y 4 4 c.x c.y z 1 c.xend c.yend ≡ chunk_in c c.y z ++ chunk_in c (c.y + 2) z
unfolding along_y row_in
layer_chunks c z =
    let two : c.y + 1 + 1 ≡ c.y + 2 = omega arith in
    rw (two, append-nil, append_assoc)

-- The layer of index a from the top has the chunks 2a and 2a + 1.
two_chunks : (c : Cell) (n a : ℕ) (rest : List Region) → rest ≡ chunks_from n c (suc a * 2)
    → along_y 4 4 c.x c.y (c.zend - 1 - a) 1 c.xend c.yend ++ rest ≡ chunks_from (suc (suc n)) c (a * 2)
unfolding chunks_from
two_chunks c n a rest e =
    let y₀ : chunk_y c (a * 2) ≡ c.y = omega (arith, digits_mod a {m = 2} {r = 0} (omega arith)) in
    let z₀ : chunk_z c (a * 2) ≡ c.zend - 1 - a = omega (arith, digits_div a {m = 2} {r = 0} (omega arith)) in
    let y₁ : chunk_y c (a * 2 + 1) ≡ c.y + 2 = omega (arith, digits_mod a {m = 2} {r = 1} (omega arith)) in
    let z₁ : chunk_z c (a * 2 + 1) ≡ c.zend - 1 - a = omega (arith, digits_div a {m = 2} {r = 1} (omega arith)) in
    let next : a * 2 + 1 + 1 ≡ suc a * 2 = omega arith in
    rw (y₀, z₀, y₁, z₁, next, layer_chunks c (c.zend - 1 - a), e, append_assoc)

-- All samples of the region below the layer z, d of its layers, are the chunks from the first of them on.
chunks_below : (c : Cell) (d a z : ℕ) → z ≡ c.z + d → z + a ≡ c.zend → c.zend ≤ c.z + 4
    → along_z 4 4 c.x c.y c.z 1 c.xend c.yend z ≡ chunks_from (2 * d) c (a * 2)
unfolding chunks_from
chunks_below c zero a z e u v = layers_end 4 4 c.x c.y c.z 1 c.xend c.yend (omega arith) z (omega arith)
chunks_below c (suc d) a z e u v =
    let n : suc (suc (2 * d)) ≡ 2 * suc d = omega arith in
    let k : z - 1 ≡ c.zend - 1 - a = omega arith in
    layers_step 4 4 c.x c.y c.z 1 c.xend c.yend (omega arith) z (omega arith) (omega arith) (omega arith)
    ∙ ap (λ w. along_y 4 4 c.x c.y w 1 c.xend c.yend
    ++ along_z 4 4 c.x c.y c.z 1 c.xend c.yend (z - 1)) k
    ∙ two_chunks c (2 * d) a _ (chunks_below c d (suc a) (z - 1) (omega arith) (omega arith) v)
    ∙ ap (λ i. chunks_from i c (a * 2)) n

pub chunks_all : (c : Cell) → c.z ≤ c.zend → c.zend ≤ c.z + 4
    → along_z 4 4 c.x c.y c.z 1 c.xend c.yend c.zend ≡ chunks_from (chunk_count c) c 0
chunks_all c l h = chunks_below c (c.zend - c.z) 0 c.zend (omega arith) (omega arith) h

-- A loop over the chunks, before chunk m. Whatever was hidden at its start is hidden still.
pub record AtChunk (ws : List ℕ) (grid : declared.Grid) (c : Cell) (b₀ b : List ℕ) (count m : ℕ) : Type 0 where
  pub rest : Left true ws grid []
      (along_z 4 4 c.x c.y c.z 1 c.xend c.yend c.zend) (chunks_from (chunk_count c - m) c m) b₀ b count
  pub within : m ≤ chunk_count c
  pub bound : count ≤ m * (8 * length ws)
  pub higher : Higher b₀ b

pub chunks_begin : {ws : List ℕ} {grid : declared.Grid} {c : Cell} (b : List ℕ) → c.z ≤ c.zend → c.zend ≤ c.z + 4
    → AtChunk ws grid c b b 0 0
chunks_begin {c = c} b l h =
    let e : chunk_count c ≡ chunk_count c - 0 = omega arith in
    record { rest = left_from b (chunks_all c l h ∙ ap (λ n. chunks_from n c 0) e); within = omega arith; bound = omega arith; higher = higher_same b }

chunks_step : (c : Cell) (n m : ℕ) → m < n
    → chunks_from (n - m) c m ≡ chunk_in c (chunk_y c m) (chunk_z c m) ++ chunks_from (n - (m + 1)) c (m + 1)
unfolding chunks_from
chunks_step c n m h =
    let e : n - m ≡ suc (n - (m + 1)) = omega arith in
    ap (λ i. chunks_from i c m) e

chunks_end : (c : Cell) (n m : ℕ) → n ≤ m → chunks_from (n - m) c m ≡ []
unfolding chunks_from
chunks_end c n m h =
    let e : n - m ≡ 0 = omega arith in
    ap (λ i. chunks_from i c m) e

module _ {ws : List ℕ} {grid : declared.Grid} {c : Cell} {b₀ b : List ℕ} {count m : ℕ}
    (u : AtChunk ws grid c b₀ b count m) where
  pub chunks_again : {d y z : ℕ} {b' : List ℕ} → Sound ws → m < chunk_count c → y ≡ chunk_y c m → z ≡ chunk_z c m
      → Folds true 8 ws grid [] (chunk_in c y z) b b' d → AtChunk ws grid c b₀ b' (count + d) (m + 1)
  chunks_again s h ey ez f =
      record {
        rest = left_list (chunks_step c (chunk_count c) m h) u.rest (rw (ey, ez) at f);
        within = omega arith;
        bound = omega (arith, u.bound, f.bound, add-mul m 1 (8 * length ws));
        higher = higher_then u.higher (folds_rise s f);
      }

  -- What the count stays below.
  pub chunks_sum : {d : ℕ} → m < chunk_count c → chunk_count c ≤ 8 → d ≤ 8 * length ws → count + d ≤ 8 * (8 * length ws)
  chunks_sum h k e =
      let n : suc m ≤ 8 = omega arith in
      omega (arith, u.bound, mul-le-mul_right (8 * length ws) n)

  pub chunks_done : chunk_count c ≤ m → chunk_count c ≤ 8
      → Folds true 64 ws grid [] (along_z 4 4 c.x c.y c.z 1 c.xend c.yend c.zend) b₀ b count
  chunks_done h k =
      let n : m ≤ 8 = omega (arith, u.within) in
      left_done (chunks_end c (chunk_count c) m h)
      (omega (arith, u.bound, mul-le-mul_right (8 * length ws) n)) u.rest

-- The region's chunks: at most eight, and each in it.
pub record Few (c : Cell) : Type 0 where
  pub from : c.z ≤ c.zend
  pub to : c.zend ≤ c.z + 4
  pub count : chunk_count c ≤ 8

pub cell_few : {layers : ℕ} {grid : declared.Grid} {c : Cell} → CellOk layers grid c → c.side ≡ 4 → Few c
cell_few k e =
    let z = k.zs in
    record { from = omega arith; to = omega arith; count = omega arith }

module _ {ws : List ℕ} {grid : declared.Grid} {c : Cell} {b : List ℕ} (p : ForSamples ws grid c b) where
  pub chunks_few : Few c
  chunks_few = cell_few p.cell p.side

  pub chunk_y_in : (m : ℕ) → chunk_y c m ≤ c.y + 2
  chunk_y_in m = let two : 0 < 2 = omega arith in omega (arith, mod-lt m two)

  pub chunk_z_in : (m : ℕ) → chunk_z c m < c.zend
  chunk_z_in m = omega (arith, p.cell.zs)

  -- A chunk's place says the same of it later.
  pub placed_later : {y z place r : ℕ} {ss : List (List ℤ)} {b' : List ℕ} → z < c.zend → Higher b b'
      → Placed ws grid c y z place r ss b → Placed ws grid c y z place r ss b'
  placed_later l u h =
      record { hidden = λ e. later_chunk p.ready p.cell l u (h.hidden e); known = h.known }
