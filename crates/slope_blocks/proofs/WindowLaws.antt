-- Windows of layers, from the greatest height of a block down; and all pixels of the picture.
use mathlib.Core.Path.{◌≡◌, refl, sym, ap, ◌∙◌}
use mathlib.Core.Bool.{Bool, true, false}
use mathlib.Core.List.{List, [], ◌∷◌}
use Prim.Native.Nat.{ℕ, zero, suc, ◌+◌, ◌*◌, ◌≤◌, ◌<◌}
use native.Mathlib.Nat.{mul_comm}
use native.Mathlib.Omega.{arith}
use lib.Dec.{leb}
use lib.IntN.{ℤ, pos}
use lib.ListN.{length, get_or, replicate}
use borrow.Author.Tests.{leb-true, leb-false}
use Rattle.rules.specs.Tapes.{Tape}
use Rattle.rules.specs.Slopes.{three_at, pixel_slopes}
use Rattle.rules.proofs.Algebra.{of_replicate}
use Rattle.rules.proofs.SlopePixels.{slopes_shown}
use Rattle.code.specs.Words.{tape_in}
use Rattle.picture.specs.Shapes.{grid_in}
use Rattle.picture.specs.declared.grid.Grid.{Grid}
use Rattle.slope_pixels.specs.declared.block.Block.{Block}
use Rattle.slope_pixels.specs.declared.block.Layers.{Layers}
use Rattle.slope_pixels.specs.Shades.{Fits, block_at, BlockIn, Within, Right, Seen, layers_at, all_of}
use Rattle.slope_pixels.specs.Shades.{Shades, Alike, Shading, Tight}
use Rattle.slope_blocks.specs.Narrow.{Shaded}
use Rattle.slope_blocks.specs.Blocks.{Lent}
use Rattle.slope_pixels.proofs.ShadeLaws.{shading_none, fits_again}

-- What is lent, from one call to the next.
pub lent_again : {whole : List ℕ} {grid : Grid} {h : List ℕ} {b b' : List ℤ}
    {work work' first first' second second' : List ℕ}
    → Lent whole grid h b work first second → length b' ≡ length b → length work' ≡ length work
    → length first' ≡ length first → length second' ≡ length second → Lent whole grid h b' work' first' second'
lent_again l b w f s =
    record {
      level = l.level;
      fits = fits_again l.fits b;
      marks = omega (arith, l.marks);
      words_first = omega (arith, l.words_first);
      words_second = omega (arith, l.words_second);
    }

-- The words stand for the tape in every part of a window.
alike_less : {t : Tape} {ws : List ℕ} {grid : Grid} {h : List ℕ} {c : Block} (l m : Layers) → l.from ≤ m.from
    → m.end ≤ l.end → Alike t ws grid h l c → Alike t ws grid h m c
alike_less l m p q a =
    record {
      slots = a.slots;
      accepted = a.accepted;
      same = λ i j k w s e.
          a.same i j k w (record { above = omega (arith, s.above, p); most = omega (arith, s.most, q) }) e;
    }

-- A window r that has every height of the block that win has: shaded in the one, it is so in the other.
module _ {ws : List ℕ} {grid : Grid} {h : List ℕ} {win r : Layers} {c : Block} (b : List ℤ)
    (v : Tight grid h c win r) where
  pub shading_tight : {b' : List ℤ} → Shading ws grid h r c c b b' → Shading ws grid h win c c b b'
  shading_tight {b'} s =
      record {
        shades = λ t o.
            let p = s.shades t (alike_less win r v.from v.end o) in
            record { kept = p.kept; done = λ i j w u. p.done i j w (v.has i j w u) };
      }

  pub shading_nothing : r.end ≤ r.from → Shading ws grid h win c c b b
  shading_nothing l =
      shading_none c b (λ i j w s. let u = v.has i j w s in omega (arith, u.above, u.most, l))

-- The loop has the layers left: every height of the block but 0 is above their first, and shaded if it is above their
-- last.
pub record AtLeft (ws : List ℕ) (grid : Grid) (h : List ℕ) (c : Block) (b b' : List ℤ) (left : Layers) : Type 0 where
  pub in_grid : left.end ≤ grid.depth
  pub above : (i j : ℕ) → Within c i j → Seen grid h (all_of grid) i j → left.from < get_or h (j * grid.width + i) 0
  pub shaded : Shading ws grid h (layers_at left.end grid.depth) c c b b'
  pub size : length b' ≡ length b

module _ {ws : List ℕ} {grid : Grid} {h : List ℕ} {c : Block} (k : BlockIn grid c) where
  pub left_begins : {r : Layers} (b : List ℤ) → Tight grid h c (all_of grid) r → AtLeft ws grid h c b b r
  left_begins {r} b v =
      record {
        in_grid = v.end;
        above = λ i j w s. (v.has i j w s).above;
        shaded = shading_none c b (λ i j w s. none i j w s);
        size = refl;
      }
    where
      none : (i j : ℕ) → Within c i j → Seen grid h (layers_at r.end grid.depth) i j → ⊥
      none i j w s =
          let u = v.has i j w (record { above = omega (arith, s.above); most = s.most }) in
          omega (arith, s.above, u.most)

  -- The window from the layer from on is shaded, and of the layers below it those are left that have heights.
  module _ {b b₁ b₂ : List ℤ} {left r : Layers} (from : ℕ) (a : AtLeft ws grid h c b b₁ left) (l : from < left.end)
      (s : Shading ws grid h (layers_at from left.end) c c b₁ b₂)
      (v : Tight grid h c (layers_at left.from from) r) where
    -- A height is above the window, in it, or below it and left.
    by_height : (t : Tape) → Shades t grid h (layers_at left.end grid.depth) c b b₁
        → Shades t grid h (layers_at from left.end) c b₁ b₂ → (i j : ℕ) → Within c i j
        → Seen grid h (layers_at r.end grid.depth) i j → (d e : Bool)
        → leb (get_or h (j * grid.width + i) 0) left.end ≡ d → leb (get_or h (j * grid.width + i) 0) from ≡ e
        → Right t grid h b₂ i j
    by_height t p q i j w u false e x y =
        let z = leb-false (get_or h (j * grid.width + i) 0) left.end x in
        q.kept i j (omega (arith, w.x_to, k.x_in)) (omega (arith, w.y_to, k.y_in))
        (p.done i j w (record { above = z; most = u.most }))
    by_height t p q i j w u true false x y =
        let z = leb-true (get_or h (j * grid.width + i) 0) left.end x in
        let o = leb-false (get_or h (j * grid.width + i) 0) from y in
        q.done i j w (record { above = o; most = z })
    by_height t p q i j w u true true x y =
        let o = leb-true (get_or h (j * grid.width + i) 0) from y in
        let n = a.above i j w (record { above = omega (arith, u.above); most = u.most }) in
        let m = v.has i j w (record { above = n; most = o }) in
        absurd (omega (arith, m.most, u.above))

    pub left_next : length b₂ ≡ length b₁ → AtLeft ws grid h c b b₂ r
    left_next e =
        record {
          in_grid = omega (arith, v.end, l, a.in_grid);
          above = λ i j w u. above_next i j w u (leb (get_or h (j * grid.width + i) 0) from) refl;
          shaded = record {
            shades = λ t o.
                let p = a.shaded.shades t
                (alike_less (layers_at r.end grid.depth) (layers_at left.end grid.depth)
                (omega (arith, v.end, l)) (omega arith) o) in
                let q = s.shades t
                (alike_less (layers_at r.end grid.depth) (layers_at from left.end) v.end
                a.in_grid o) in
                record {
                  kept = λ i j m n u. q.kept i j m n (p.kept i j m n u);
                  done = λ i j w u.
                      by_height t p q i j w u (leb (get_or h (j * grid.width + i) 0) left.end)
                      (leb (get_or h (j * grid.width + i) 0) from) refl refl;
                };
          };
          size = e ∙ a.size;
        }
      where
        above_next : (i j : ℕ) → Within c i j → Seen grid h (all_of grid) i j → (d : Bool)
            → leb (get_or h (j * grid.width + i) 0) from ≡ d → r.from < get_or h (j * grid.width + i) 0
        above_next i j w u false x =
            let o = leb-false (get_or h (j * grid.width + i) 0) from x in
            omega (arith, o, v.most)
        above_next i j w u true x =
            let o = leb-true (get_or h (j * grid.width + i) 0) from x in
            (v.has i j w (record { above = a.above i j w u; most = o })).above

  pub left_done : {b b' : List ℤ} {left : Layers} → AtLeft ws grid h c b b' left → left.end ≤ left.from
      → Shading ws grid h (all_of grid) c c b b'
  left_done {b} {b'} {left} a l =
      record {
        shades = λ t o.
            let p = a.shaded.shades t
            (alike_less (all_of grid) (layers_at left.end grid.depth) (omega arith) (omega arith) o) in
            record {
              kept = p.kept;
              done = λ i j w u.
                  p.done i j w (record { above = omega (arith, a.above i j w u, l); most = u.most });
            };
      }

-- Without material every pixel has three zeros.
three_none : (n p : ℕ) → three_at (replicate n (pos 0)) p ≡ pos 0 ∷ (pos 0 ∷ (pos 0 ∷ []))
three_none n p = rw (zero_at_lem (3 * p), zero_at_lem (3 * p + 1), zero_at_lem (3 * p + 2))
  where
    zero_at_lem : (i : ℕ) → get_or (replicate n (pos 0)) i (pos 0) ≡ pos 0
    zero_at_lem i = of_replicate (λ (v : ℤ). v ≡ pos 0) (pos 0) n refl i

-- All pixels of the grid: the list is the picture's slopes.
pub all_shaded : {ws : List ℕ} {grid : Grid} {h : List ℕ} {b₀ b b' : List ℤ} → Fits grid h b₀
    → b ≡ replicate (length b₀) (pos 0) → length b' ≡ length b₀
    → Shading ws grid h (all_of grid) (block_at 0 grid.width 0 grid.height)
    (block_at 0 grid.width 0 grid.height) b b'
    → Shaded ws grid h b'
all_shaded {ws} {grid} {h} {b₀} {b} {b'} f z e s =
    record {
      slopes = λ n a. slopes_shown (tape_in n ws) (grid_in grid true) h b'
          (record {
            size = e ∙ f.slopes ∙ ap (λ (m : ℕ). 3 * m) (mul_comm grid.width grid.height);
            pixel = λ i j k l.
                (right (tape_in n ws)
                (s.shades (tape_in n ws) (record { slots = n; accepted = a; same = λ p q m w u x. refl })) i j k l
                (get_or h (j * grid.width + i) 0) refl
                ).three;
          });
    }
  where
    right : (t : Tape) → Shades t grid h (all_of grid) (block_at 0 grid.width 0 grid.height) b b' → (i j : ℕ)
        → i < grid.width → j < grid.height → (v : ℕ) → get_or h (j * grid.width + i) 0 ≡ v → Right t grid h b' i j
    right t p i j k l zero u =
        p.kept i j k l
        (record {
          three = ap (λ (x : List ℤ). three_at x (j * grid.width + i)) z
              ∙ three_none (length b₀) (j * grid.width + i)
              ∙ ap (λ (m : ℕ). pixel_slopes t (grid_in grid true) i j m) (sym u);
        })
    right t p i j k l (suc v) u =
        p.done i j (record { x_from = omega arith; x_to = k; y_from = omega arith; y_to = l })
        (record { above = omega (arith, u); most = f.heights.most (j * grid.width + i) })
