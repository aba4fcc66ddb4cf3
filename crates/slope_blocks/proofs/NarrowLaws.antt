-- The short tape of a block: it stands for the tape at every sample of the block in the layers that were given.
use mathlib.Core.Path.{◌≡◌, refl, sym, ap, ◌∙◌}
use mathlib.Core.Bool.{true}
use mathlib.Core.List.{List}
use Prim.Native.Nat.{ℕ, ◌-◌, ◌≤◌, ◌<◌}
use native.Mathlib.Omega.{arith}
use lib.IntN.{ℤ}
use lib.ListN.{length, take, drop}
use Rattle.rules.specs.Values.{Range, Box}
use Rattle.rules.specs.Tapes.{Tape, shortened}
use Rattle.rules.specs.Drawings.{at, sample_at, grid_fault}
use Rattle.rules.specs.Accepted.{Accepted}
use Rattle.rules.specs.Slopes.{slopes_at}
use Rattle.rules.proofs.Order.{Holds, HoldsBox, at_rises}
use Rattle.rules.proofs.Runs.{good_accepted}
use Rattle.rules.proofs.Grids.{Axis, axis_value, accepted_sound}
use Rattle.rules.proofs.Slopes.{short_slopes}
use Rattle.code.specs.Words.{tape_in}
use Rattle.code.specs.Runs.{EndsOk}
use Rattle.picture.specs.Shapes.{grid_in}
use Rattle.picture.specs.declared.grid.Grid.{Grid}
use Rattle.picture.proofs.Grids.{accepted}
use Rattle.walk.specs.Cells.{SpanIn, span_of}
use Rattle.walk.specs.Verdicts.{CutOver}
use Rattle.walk.specs.Walks.{Level}
use Rattle.walk.proofs.CellLaws.{kind}
use Rattle.walk.proofs.LookLaws.{fit_of, short_again, short_kept, lent_words}
use Rattle.slope_pixels.specs.declared.block.Block.{Block}
use Rattle.slope_pixels.specs.declared.block.Layers.{Layers}
use Rattle.slope_pixels.specs.Shades.{BlockIn, Within, Shading}
use Rattle.slope_blocks.specs.Narrow.{LayersIn, box_at}
use Rattle.slope_blocks.specs.Narrow.{BlockBox, Narrowed}

-- A sample lies between the first and the last one of a span of its axis.
span_holds : {o s : ℤ} {n : ℕ} → Axis o s n → (i e x : ℕ) → i ≤ x → x < e → e ≤ n → Holds (span_of o s i e) (at o s x)
span_holds {o} {s} {n} a i e x h k m =
    record {
      low_value = axis_value a i (omega arith);
      high_value = axis_value a (e - 1) (omega arith);
      above = at_rises o s a.rises i x h;
      under = at_rises o s a.rises x (e - 1) (omega arith);
    }

span_ok_lem : {f s : ℤ} {a e : ℕ} {r : Range} → SpanIn f s a e → r ≡ span_of f s a e → EndsOk r
span_ok_lem {f} {s} {a} {e} k h =
    rw h (record { low = k.values a k.some; high = k.values (e - 1) (omega (arith, k.some)) })

boxes : {a b c d f g : Range} → a ≡ b → c ≡ d → f ≡ g
    → ◌≡◌ {A = Box} (record { xs = a; ys = c; zs = f }) (record { xs = b; ys = d; zs = g })
boxes p q r = cc

module _ (grid : Grid) (c : Block) (l : Layers) (e : grid_fault true (grid_in grid true) ≡ 0) (k : BlockIn grid c)
    (m : LayersIn grid l) where
  pub block_x : SpanIn grid.xorigin grid.xstep c.x c.xend
  block_x = record { some = k.x_some; values = λ i h. (accepted grid true e).x_value i (omega (arith, h, k.x_in)) }

  pub block_y : SpanIn grid.yorigin grid.ystep c.y c.yend
  block_y = record { some = k.y_some; values = λ i h. (accepted grid true e).y_value i (omega (arith, h, k.y_in)) }

  pub block_z : SpanIn grid.zorigin grid.zstep l.from l.end
  block_z =
      record { some = m.some; values = λ i h. (accepted grid true e).z_value refl i (omega (arith, h, m.in_grid)) }

  pub block_box : {xs ys zs : Range} → xs ≡ span_of grid.xorigin grid.xstep c.x c.xend
      → ys ≡ span_of grid.yorigin grid.ystep c.y c.yend
      → zs ≡ span_of grid.zorigin grid.zstep l.from l.end
      → BlockBox grid c l (record { xs = xs; ys = ys; zs = zs })
  block_box hx hy hz =
      record {
        same = boxes hx hy hz;
        ok = record { xs = span_ok_lem block_x hx; ys = span_ok_lem block_y hy; zs = span_ok_lem block_z hz };
      }

  block_holds : (i j z : ℕ) → Within c i j → l.from ≤ z → z < l.end
      → HoldsBox (box_at grid c l) (sample_at (grid_in grid true) i j z)
  unfolding sample_at
  block_holds i j z w p q =
      let s = accepted_sound (grid_in grid true) true (sym (kind true grid e)) e in
      rw (kind true grid e)
      (record {
        xs = span_holds s.xs c.x c.xend i w.x_from w.x_to k.x_in;
        ys = span_holds s.ys c.y c.yend j w.y_from w.y_to k.y_in;
        zs = span_holds (s.zs (kind true grid e)) l.from l.end z p q m.in_grid;
      })

  module _ {whole ws work next : List ℕ} {base start : ℕ} {box : Box} (v : Level whole ws)
      (b : BlockBox grid c l box) (s : CutOver whole ws box base work next start) where
    short : (n : ℕ) → Accepted (tape_in n ws) → tape_in n (drop start next) ≡ shortened (tape_in n ws) (box_at grid c l)
    short n a = s.short n (fit_of a) ∙ ap (λ (q : Box). shortened (tape_in n ws) q) b.same

    pub narrowed : Narrowed whole ws grid c l next start
    narrowed =
        record {
          within = s.start;
          accepted = short_again s;
          same = λ n a i j z w p q.
              ap (λ (t : Tape). slopes_at t (sample_at (grid_in grid true) i j z)) (short n a)
              ∙ short_slopes (tape_in n ws) (good_accepted (tape_in n ws) a) (box_at grid c l)
              (sample_at (grid_in grid true) i j z) (block_holds i j z w p q);
          kept = short_kept s v;
        }

-- The words of a block, as the code lends them: of its level, and shading with them is shading with the words before.
module _ {whole ws : List ℕ} {grid : Grid} {c : Block} {l : Layers} {next : List ℕ} {start : ℕ}
    (n : Narrowed whole ws grid c l next start) where
  pub narrow_level : Level whole ws → Level whole (take (length next - start) (drop start next))
  narrow_level v =
      rw (lent_words start next)
      (record {
        sound = record {
          slots = v.sound.slots;
          accepted = n.accepted v.sound.slots v.sound.accepted;
        };
        kept = n.kept;
      })

  shading_short : {h : List ℕ} {b b' : List ℤ} → Shading (drop start next) grid h l c c b b'
      → Shading ws grid h l c c b b'
  shading_short s =
      record {
        shades = λ t a. s.shades t
            (record {
              slots = a.slots;
              accepted = n.accepted a.slots a.accepted;
              same = λ i j k w v e.
                  n.same a.slots a.accepted i j k w (omega (arith, v.above, e)) (omega (arith, v.most, e))
                  ∙ a.same i j k w v e;
            });
      }

  pub shading_narrowed : {h : List ℕ} {b b' : List ℤ}
      → Shading (take (length next - start) (drop start next)) grid h l c c b b' → Shading ws grid h l c c b b'
  shading_narrowed s = shading_short (rw (lent_words start next) at s)
