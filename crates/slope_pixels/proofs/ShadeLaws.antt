-- Shading, pixel by pixel and part by part.
use mathlib.Core.Path.{◌≡◌, refl, sym, ap, subst, ◌∙◌}
use mathlib.Core.Bool.{Bool, true, false}
use mathlib.Core.List.{List}
use mathlib.Core.Logic.{◌⊎◌, inl, inr}
use Prim.Native.Nat.{ℕ, suc, ◌+◌, ◌*◌, ◌≤◌, ◌<◌}
use native.Mathlib.Nat.{mul_comm, mul-le-mul, mul-le-mul_right}
use native.Mathlib.Omega.{arith}
use lib.Dec.{eqb, leb}
use lib.IntN.{ℤ}
use lib.ListN.{length, get_or}
use borrow.Author.Tests.{eqb-true, eqb-false, leb-true, leb-false}
use mir.Syntax.{w32}
use mir.Val.{SFits}
use mir.Facts.{to_z-of_z}
use Rattle.rules.specs.Tapes.{Tape}
use Rattle.rules.specs.Values.{Sample}
use Rattle.rules.specs.Drawings.{at, sample_at, grid_fault}
use Rattle.rules.specs.Slopes.{Slopes, listed, three_at, pixel_slopes}
use Rattle.rules.proofs.Heights.{same_pixel}
use Rattle.rules.proofs.Words.{read}
use Rattle.rules.proofs.SlopePixels.{three_same, three_other}
use Rattle.code.specs.Runs.{SampleOk}
use Rattle.picture.specs.Shapes.{grid_in}
use Rattle.picture.specs.declared.grid.Grid.{Grid}
use Rattle.slope_values.specs.declared.sloped.Sloped.{Sloped}
use Rattle.slope_runs.specs.Shapes.{slopes_in, Sloping}
use Rattle.picture.proofs.Grids.{accepted}
use Rattle.picture.proofs.GridWords.{at_read}
use Rattle.walk.proofs.CellLaws.{small, kind}
use Rattle.slope_pixels.specs.declared.block.Block.{Block}
use Rattle.slope_pixels.specs.declared.block.Layers.{Layers}
use Rattle.slope_pixels.specs.Shades.{put_at, Heights, Fits, pixel_at, block_at, Within, Right, Seen, Shades, Alike}
use Rattle.slope_pixels.specs.Shades.{row_of, BlockIn, Shading}

-- Three numbers, handed over as words and stored.
pub put_words : (b : List ℤ) (p : ℕ) {x y z : ℤ} → SFits w32 x → SFits w32 y → SFits w32 z
    → put_at b p (read w32 x) (read w32 y) (read w32 z) ≡ put_at b p x y z
put_words b p {x} {y} {z} hx hy hz =
    rw (to_z-of_z {w = w32} {z = x} hx, to_z-of_z {w = w32} {z = y} hy, to_z-of_z {w = w32} {z = z} hz)

-- The places of a pixel.
module _ (grid : Grid) (x y : ℕ) (hx : x < grid.width) (hy : y < grid.height) where
  most : suc y * grid.width ≤ grid.height * grid.width
  most = mul-le-mul_right grid.width hy

  pub pixel_in : {h : List ℕ} → Heights grid h → y * grid.width + x < length h
  pixel_in f = omega (arith, most, f.size, mul_comm grid.width grid.height)

  pub three_in : {h : List ℕ} {b : List ℤ} → Fits grid h b → 3 * (y * grid.width + x) + 2 < length b
  three_in f = omega (arith, most, f.slopes, mul_comm grid.width grid.height)

  pub pixel_most : {h : List ℕ} → Heights grid h → y * grid.width + x < 262144
  pixel_most f =
      let s = small true grid f.fault in
      let m : y ≤ 511 = omega (arith, s.height) in
      let k : y * grid.width ≤ 511 * 512 = mul-le-mul m s.width in
      omega (arith, k, s.width)

-- The sample that the code makes: its coordinates are handed over as words and taken back.
pub at_words : {o s : ℤ} (i : ℕ) → SFits w32 o → SFits w32 s → at (read w32 o) (read w32 s) i ≡ at o s i
at_words {o} {s} i ho hs = at_read o s i ho hs

module _ (grid : Grid) (e : grid_fault true (grid_in grid true) ≡ 0) (x y z : ℕ) where
  pub sample_same : (s : Sample) → s.x ≡ at grid.xorigin grid.xstep x
      → s.y ≡ at grid.yorigin grid.ystep y → s.z ≡ at grid.zorigin grid.zstep z
      → s ≡ sample_at (grid_in grid true) x y z
  unfolding sample_at
  sample_same s hx hy hz = rw (kind true grid e) (samples hx hy hz)
    where
      samples : {a b c d f g : ℤ} → a ≡ b → c ≡ d → f ≡ g
          → ◌≡◌ {A = Sample} (record { x = a; y = c; z = f }) (record { x = b; y = d; z = g })
      samples p q r = cc

  pub sample_ok_lem : x < grid.width → y < grid.height → z < grid.depth → (s : Sample)
      → s ≡ sample_at (grid_in grid true) x y z → SampleOk s
  unfolding sample_at
  sample_ok_lem hx hy hz s h =
      let a = accepted grid true e in
      rw h (rw (kind true grid e) (record { x = a.x_value x hx; y = a.y_value y hy; z = a.z_value refl z hz }))

pub row_in : {grid : Grid} {c : Block} (y : ℕ) → BlockIn grid c → c.y ≤ y → y < c.yend → BlockIn grid (row_of c y)
row_in y k l m =
    record { x_some = k.x_some; x_in = k.x_in; y_some = omega arith; y_in = omega (arith, m, k.y_in) }

-- Some columns of a block, and some rows.
pub columns_in : {grid : Grid} {c : Block} (x x' : ℕ) → BlockIn grid c → x < x' → x' ≤ c.xend
    → BlockIn grid (block_at x x' c.y c.yend)
columns_in x x' k l m =
    record { x_some = l; x_in = omega (arith, m, k.x_in); y_some = k.y_some; y_in = k.y_in }

pub rows_in : {grid : Grid} {c : Block} (y y' : ℕ) → BlockIn grid c → y < y' → y' ≤ c.yend
    → BlockIn grid (block_at c.x c.xend y y')
rows_in y y' k l m =
    record { x_some = k.x_some; x_in = k.x_in; y_some = l; y_in = omega (arith, m, k.y_in) }

pub fits_again : {grid : Grid} {h : List ℕ} {b b' : List ℤ} → Fits grid h b → length b' ≡ length b → Fits grid h b'
fits_again f e = record { heights = f.heights; slopes = e ∙ f.slopes }

-- One pixel: the slopes of its visible sample.
module _ {grid : Grid} {h : List ℕ} {win : Layers} {b : List ℤ} (f : Fits grid h b) (x y : ℕ) (hx : x < grid.width)
    (hy : y < grid.height) where
  put_right : (t : Tape) (n : Slopes)
      → three_at (put_at b (y * grid.width + x) n.x n.y n.z) (y * grid.width + x)
      ≡ pixel_slopes t (grid_in grid true) x y (get_or h (y * grid.width + x) 0)
      → Shades t grid h win (pixel_at x y) b (put_at b (y * grid.width + x) n.x n.y n.z)
  put_right t n e =
      record {
        kept = λ i j k l r. by i j k l (eqb (y * grid.width + x) (j * grid.width + i)) refl r;
        done = λ i j w s. here i j (omega arith) (omega arith);
      }
    where
      b' : List ℤ
      b' = put_at b (y * grid.width + x) n.x n.y n.z

      here : (i j : ℕ) → i ≡ x → j ≡ y → Right t grid h b' i j
      here i j u v = rw (u, v) (record { three = e })

      by : (i j : ℕ) → i < grid.width → j < grid.height → (u : Bool)
          → eqb (y * grid.width + x) (j * grid.width + i) ≡ u → Right t grid h b i j → Right t grid h b' i j
      by i j k l true q r =
          let m = same_pixel grid.width x y i j hx k (eqb-true (y * grid.width + x) (j * grid.width + i) q) in
          here i j (sym m.0) (sym m.1)
      by i j k l false q r =
          let d = eqb-false (y * grid.width + x) (j * grid.width + i) q in
          record { three = three_other b (y * grid.width + x) (j * grid.width + i) n d ∙ r.three }

  pub sample_shaded : (ws : List ℕ) (k : ℕ) → Seen grid h win x y → get_or h (y * grid.width + x) 0 ≡ suc k
      → (r : Sloped) {b' : List ℤ}
      → Sloping ws (sample_at (grid_in grid true) x y k) r
      → b' ≡ put_at b (y * grid.width + x) r.x r.y r.z
      → Shading ws grid h win (pixel_at x y) (pixel_at x y) b b'
  sample_shaded ws k s e r v u =
      record {
        shades = λ t a. rw u
            (put_right t (slopes_in r)
            (three_same b (y * grid.width + x) (slopes_in r) (three_in grid x y hx hy f)
            ∙ ap listed (v.slopes a.slots a.accepted ∙ a.same x y k (omega arith) s e)
            ∙ ap (λ (m : ℕ). pixel_slopes t (grid_in grid true) x y m) (sym e)));
      }

-- The words stand for the tape in every part of a block.
pub record Part (d c : Block) : Type 0 where
  pub x_from : c.x ≤ d.x
  pub x_to : d.xend ≤ c.xend
  pub y_from : c.y ≤ d.y
  pub y_to : d.yend ≤ c.yend

within_part : {d c : Block} → Part d c → (i j : ℕ) → Within d i j → Within c i j
within_part p i j w = omega arith

pub alike_part : {t : Tape} {ws : List ℕ} {grid : Grid} {h : List ℕ} {win : Layers} {d c : Block}
    → Part d c → Alike t ws grid h win c
    → Alike t ws grid h win d
alike_part p a =
    record {
      slots = a.slots;
      accepted = a.accepted;
      same = λ i j k w s e. a.same i j k (within_part p i j w) s e;
    }

module _ {ws : List ℕ} {grid : Grid} {h : List ℕ} {win : Layers} {c : Block} where
  -- Nothing is shaded yet; one part is, and then another, and together they have every pixel of a third.
  pub shading_none : (d : Block) (b : List ℤ) → ((i j : ℕ) → Within d i j → Seen grid h win i j → ⊥)
      → Shading ws grid h win c d b b
  shading_none d b n =
      record { shades = λ t a. record { kept = λ i j k l r. r; done = λ i j w s. absurd (n i j w s) } }

  pub shading_part : {d : Block} {b b' : List ℤ} → Part d c → Shading ws grid h win d d b b'
      → Shading ws grid h win c d b b'
  shading_part p s = record { shades = λ t a. s.shades t (alike_part p a) }

  shading_both : {d e q : Block} {b b₁ b₂ : List ℤ} → ((i j : ℕ) → Within q i j → Within d i j ⊎ Within e i j)
      → ((i j : ℕ) → Within d i j → (i < grid.width) × (j < grid.height))
      → Shading ws grid h win c d b b₁ → Shading ws grid h win c e b₁ b₂ → Shading ws grid h win c q b b₂
  shading_both {d} {e} {q} {b} {b₁} {b₂} u v s₁ s₂ =
      record {
        shades = λ t a. record {
          kept = λ i j k l r. (s₂.shades t a).kept i j k l ((s₁.shades t a).kept i j k l r);
          done = λ i j w s. by t a i j s (u i j w);
        };
      }
    where
      by : (t : Tape) → Alike t ws grid h win c → (i j : ℕ) → Seen grid h win i j → Within d i j ⊎ Within e i j
          → Right t grid h b₂ i j
      by t a i j s (inl w) =
          let m = v i j w in (s₂.shades t a).kept i j m.0 m.1 ((s₁.shades t a).done i j w s)
      by t a i j s (inr w) = (s₂.shades t a).done i j w s

-- A pixel with its height outside the window is left as it is.
module _ {ws : List ℕ} {grid : Grid} {h : List ℕ} {win : Layers} (x y : ℕ) (b : List ℤ) where
  outside : (Seen grid h win x y → ⊥) → Shading ws grid h win (pixel_at x y) (pixel_at x y) b b
  outside n = shading_none (pixel_at x y) b (λ i j w s. here i j (omega (arith, w)) (omega (arith, w)) s)
    where
      here : (i j : ℕ) → i ≡ x → j ≡ y → Seen grid h win i j → ⊥
      here i j u v s = n (rw (u, v) at s)

  pub pixel_low : get_or h (y * grid.width + x) 0 ≤ win.from → Shading ws grid h win (pixel_at x y) (pixel_at x y) b b
  pixel_low l = outside (λ s. omega (arith, s.above, l))

  pub pixel_high : win.end < get_or h (y * grid.width + x) 0 → Shading ws grid h win (pixel_at x y) (pixel_at x y) b b
  pixel_high l = outside (λ s. omega (arith, s.most, l))

-- A pixel as the part of a row that it is.
pub pixel_of_row : {ws : List ℕ} {grid : Grid} {h : List ℕ} {win : Layers} {b b' : List ℤ} (row : Block) (x : ℕ)
    → row.yend ≡ row.y + 1
    → Shading ws grid h win (pixel_at x row.y) (pixel_at x row.y) b b'
    → Shading ws grid h win (block_at x (x + 1) row.y row.yend) (block_at x (x + 1) row.y row.yend) b b'
pixel_of_row row x e s = rw e s

-- Along a row of parts: the columns before x are shaded, and then those to x'; the same over rows.
pub columns_split : (a x x' y y' i j : ℕ) → Within (block_at a x' y y') i j
    → Within (block_at a x y y') i j ⊎ Within (block_at x x' y y') i j
columns_split a x x' y y' i j w = by (leb x i) refl
  where
    by : (t : Bool) → leb x i ≡ t → Within (block_at a x y y') i j ⊎ Within (block_at x x' y y') i j
    by true e = let m = leb-true x i e in inr (omega (arith, w, m))
    by false e = let m = leb-false x i e in inl (omega (arith, w, m))

pub rows_split : (a a' y z z' i j : ℕ) → Within (block_at a a' y z') i j
    → Within (block_at a a' y z) i j ⊎ Within (block_at a a' z z') i j
rows_split a a' y z z' i j w = by (leb z j) refl
  where
    by : (t : Bool) → leb z j ≡ t → Within (block_at a a' y z) i j ⊎ Within (block_at a a' z z') i j
    by true e = let m = leb-true z j e in inr (omega (arith, w, m))
    by false e = let m = leb-false z j e in inl (omega (arith, w, m))

module _ {ws : List ℕ} {grid : Grid} {h : List ℕ} {win : Layers} {c : Block} where
  pub shading_columns : {b b₁ b₂ : List ℤ} (a x x' y y' : ℕ) → x ≤ grid.width → y' ≤ grid.height
      → Shading ws grid h win c (block_at a x y y') b b₁ → Shading ws grid h win c (block_at x x' y y') b₁ b₂
      → Shading ws grid h win c (block_at a x' y y') b b₂
  shading_columns a x x' y y' k l =
      shading_both (columns_split a x x' y y') (λ i j w. (omega (arith, w, k), omega (arith, w, l)))

  pub shading_rows : {b b₁ b₂ : List ℤ} (a a' y z z' : ℕ) → a' ≤ grid.width → z ≤ grid.height
      → Shading ws grid h win c (block_at a a' y z) b b₁ → Shading ws grid h win c (block_at a a' z z') b₁ b₂
      → Shading ws grid h win c (block_at a a' y z') b b₂
  shading_rows a a' y z z' k l =
      shading_both (rows_split a a' y z z') (λ i j w. (omega (arith, w, k), omega (arith, w, l)))

-- A loop along the columns of a block c, at x, and over its rows, at y: what is behind is shaded.
pub record AtColumn (ws : List ℕ) (grid : Grid) (h : List ℕ) (win : Layers) (c : Block) (b b' : List ℤ) (x : ℕ)
    : Type 0 where
  pub from : c.x ≤ x
  pub to : x ≤ c.xend
  pub shaded : Shading ws grid h win c (block_at c.x x c.y c.yend) b b'
  pub size : length b' ≡ length b

pub record AtRow (ws : List ℕ) (grid : Grid) (h : List ℕ) (win : Layers) (c : Block) (b b' : List ℤ) (y : ℕ)
    : Type 0 where
  pub from : c.y ≤ y
  pub to : y ≤ c.yend
  pub shaded : Shading ws grid h win c (block_at c.x c.xend c.y y) b b'
  pub size : length b' ≡ length b

module _ {ws : List ℕ} {grid : Grid} {h : List ℕ} {win : Layers} {c : Block} (k : BlockIn grid c) where
  pub columns_begin : (b : List ℤ) → AtColumn ws grid h win c b b c.x
  columns_begin b =
      record {
        from = omega arith;
        to = omega (arith, k.x_some);
        shaded = shading_none (block_at c.x c.x c.y c.yend) b (λ i j w s. omega (arith, w));
        size = refl;
      }

  pub rows_begin : (b : List ℤ) → AtRow ws grid h win c b b c.y
  rows_begin b =
      record {
        from = omega arith;
        to = omega (arith, k.y_some);
        shaded = shading_none (block_at c.x c.xend c.y c.y) b (λ i j w s. omega (arith, w));
        size = refl;
      }

  module _ {b b₁ b₂ : List ℤ} where
    pub columns_next : {x : ℕ} (x' : ℕ) → AtColumn ws grid h win c b b₁ x → x ≤ x' → x' ≤ c.xend
        → Shading ws grid h win (block_at x x' c.y c.yend) (block_at x x' c.y c.yend) b₁ b₂
        → length b₂ ≡ length b₁ → AtColumn ws grid h win c b b₂ x'
    columns_next {x} x' a l m s e =
        record {
          from = omega (arith, a.from, l);
          to = m;
          shaded = shading_columns c.x x x' c.y c.yend (omega (arith, l, m, k.x_in)) k.y_in a.shaded
              (shading_part (part a.from m) s);
          size = e ∙ a.size;
        }
      where
        part : c.x ≤ x → x' ≤ c.xend → Part (block_at x x' c.y c.yend) c
        part p q = record { x_from = p; x_to = q; y_from = omega arith; y_to = omega arith }

    pub rows_next : {y : ℕ} (y' : ℕ) → AtRow ws grid h win c b b₁ y → y ≤ y' → y' ≤ c.yend
        → Shading ws grid h win (block_at c.x c.xend y y') (block_at c.x c.xend y y') b₁ b₂
        → length b₂ ≡ length b₁ → AtRow ws grid h win c b b₂ y'
    rows_next {y} y' a l m s e =
        record {
          from = omega (arith, a.from, l);
          to = m;
          shaded = shading_rows c.x c.xend c.y y y' k.x_in (omega (arith, l, m, k.y_in)) a.shaded
              (shading_part (part a.from m) s);
          size = e ∙ a.size;
        }
      where
        part : c.y ≤ y → y' ≤ c.yend → Part (block_at c.x c.xend y y') c
        part p q = record { x_from = omega arith; x_to = omega arith; y_from = p; y_to = q }

pub columns_done : {ws : List ℕ} {grid : Grid} {h : List ℕ} {win : Layers} {c : Block} {b b' : List ℤ} {x : ℕ}
    → AtColumn ws grid h win c b b' x → c.xend ≤ x → Shading ws grid h win c c b b'
columns_done {ws} {grid} {h} {win} {c} {b} {b'} {x} a l =
    subst (λ (e : ℕ). Shading ws grid h win c (block_at c.x e c.y c.yend) b b') (ends x c.xend a.to l)
    a.shaded
  where
    ends : (p q : ℕ) → p ≤ q → q ≤ p → p ≡ q
    ends p q i j = omega arith

pub rows_done : {ws : List ℕ} {grid : Grid} {h : List ℕ} {win : Layers} {c : Block} {b b' : List ℤ} {y : ℕ}
    → AtRow ws grid h win c b b' y → c.yend ≤ y → Shading ws grid h win c c b b'
rows_done {ws} {grid} {h} {win} {c} {b} {b'} {y} a l =
    subst (λ (e : ℕ). Shading ws grid h win c (block_at c.x c.xend c.y e) b b') (ends y c.yend a.to l)
    a.shaded
  where
    ends : (p q : ℕ) → p ≤ q → q ≤ p → p ≡ q
    ends p q i j = omega arith
