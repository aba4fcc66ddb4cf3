-- A whole chunk in lanes comes to what its samples come to one after the other: the heights of a row are raised by the
-- heights that were there before, and the pixels before one have changed none behind them.
use mathlib.Core.Path.{◌≡◌, refl, sym, ap, subst, ◌∙◌}
use mathlib.Core.Bool.{Bool, true, false}
use mathlib.Core.List.{List, []}
use Prim.Native.Nat.{ℕ, zero, suc, ◌+◌, ◌-◌, ◌*◌, ◌≤◌, ◌<◌}
use native.Mathlib.Nat.{add-mul, mul-le-mul}
use native.Mathlib.Omega.{arith}
use lib.Dec.{ltb}
use lib.IntN.{ℤ}
use lib.ListN.{length, get_or, set, length-set}
use lib.Seq.{get_or-set_other}
use borrow.Author.Tests.{ltb-true, ltb-false}
use Rattle.rules.specs.Values.{pick}
use Rattle.rules.specs.Drawings.{region, sample_at}
use Rattle.code.specs.Runs.{Evaluated}
use Rattle.lanes.specs.Lanes.{lane}
use Rattle.picture.specs.Shapes.{grid_in}
use Rattle.picture.specs.declared.grid.Grid.{Grid}
use Rattle.walk.specs.Cells.{Ready, InGrid}
use Rattle.walk.specs.Walks.{Sound, Visits, Folds}
use Rattle.walk.specs.declared.cell.Cell.{Cell}
use Rattle.walk.proofs.CellLaws.{child_in}
use Rattle.walk.proofs.Loops.{AtColumn, row_begins, row_again, row_done}
use Rattle.walk.proofs.Places.{ready_again}
use Rattle.solid_samples.specs.Chunks.{row_in, chunk_in, RowValues}
use Rattle.solid_samples.specs.Samples.{ForSamples, with_sample}
use Rattle.solid_samples.specs.Whole.{FourFrom, four_before, heights_of, one_below, four_below, all_below, put_row, Raised, ForWhole}
use Rattle.solid_samples.proofs.SampleLaws.{hidden_stored, seen_stored, samples_again}
use Rattle.solid_samples.proofs.SampleLaws.{pixel_most, pixel_in}
use Rattle.solid_samples.proofs.ChunkLaws.{row_there, folds_as, folds_both}

plus_none : (x : ℕ) → x ≡ x + 0
plus_none x = omega arith

-- Pixels that took the heights of lanes.
module _ (b : List ℕ) (at : ℕ) (rs : List ℕ) (f : ℕ) where
  pub put_none : b ≡ put_row 0 b at rs f
  unfolding put_row
  put_none = refl

  pub put_more : (n : ℕ) (b' : List ℕ) → b' ≡ put_row n b at rs f
      → set b' (at + n) (get_or rs (f + n) 0) ≡ put_row (n + 1) b at rs f
  unfolding put_row
  put_more n b' e =
      subst (λ (k : ℕ). set b' (at + n) (get_or rs (f + n) 0) ≡ put_row k b at rs f) (sucs n)
      (ap (λ (x : List ℕ). set x (at + n) (get_or rs (f + n) 0)) e)
    where
      sucs : (n : ℕ) → suc n ≡ n + 1
      sucs n = omega arith

  pub put_length : (n : ℕ) → length (put_row n b at rs f) ≡ length b
  unfolding put_row
  put_length zero = refl
  put_length (suc n) = length-set (put_row n b at rs f) (at + n) (get_or rs (f + n) 0) ∙ put_length n

  pub put_behind : (n p : ℕ) → at + n ≤ p → get_or (put_row n b at rs f) p 0 ≡ get_or b p 0
  unfolding put_row
  put_behind zero p h = refl
  put_behind (suc n) p h =
      get_or-set_other (put_row n b at rs f) (at + n) p (get_or rs (f + n) 0) 0 (λ e. absurd (omega arith))
      ∙ put_behind n p (omega arith)

-- One sample, seen or hidden, with the height stored that it leaves.
one_visit : (grid : Grid) (x y z : ℕ) {ws b : List ℕ} → InGrid grid.depth grid x y z → Ready true grid b → Sound ws
    → (v : ℤ) → Evaluated ws (sample_at (grid_in grid true) x y z) v
    → (h : ℕ) → h ≡ with_sample (get_or b (y * grid.width + x) 0) (z + 1) v
    → Visits true 1 ws grid [] (region x y z 1) b (set b (y * grid.width + x) h)
    (one_below (get_or b (y * grid.width + x) 0) (z + 1) * length ws)
one_visit grid x y z {ws} {b} i r s v run h e = go (ltb a (z + 1)) refl
  where
    a : ℕ
    a = get_or b (y * grid.width + x) 0

    go : (t : Bool) → ltb a (z + 1) ≡ t
        → Visits true 1 ws grid [] (region x y z 1) b (set b (y * grid.width + x) h)
        (pick t 1 0 * length ws)
    go true t = rw (one (length ws)) (seen_stored grid x y z i r s (ltb-true _ _ t) v run h e)
      where
        one : (n : ℕ) → 1 * n ≡ n
        one n = omega arith
    go false t = rw (none (length ws)) (hidden_stored grid x y z i r s (ltb-false _ _ t) v h e)
      where
        none : (n : ℕ) → 0 * n ≡ 0
        none n = omega arith

-- A row of four pixels whose lanes, from lane f on, have the heights to store.
module _ {ws : List ℕ} {grid : Grid} {c : Cell} {y z : ℕ} {b : List ℕ} (p : ForSamples ws grid c b)
    (wide : c.xend ≡ c.x + 4) (hy : y < c.yend) (hz : z < c.zend) (f : ℕ) {vs : List ℤ}
    (values : RowValues ws grid c y z f vs) (at : ℕ) (place : at ≡ y * grid.width + c.x) (rs : List ℕ)
    (raised : (k : ℕ) → k < 4
    → get_or rs (f + k) 0 ≡ with_sample (get_or b (at + k) 0) (z + 1) (lane vs (f + k))) where
  -- How many of the first n are seen.
  abbrev seen : ℕ → ℕ
  seen zero = 0
  seen (suc n) = seen n + one_below (get_or b (at + n) 0) (z + 1)

  pixel : (n : ℕ) → y * grid.width + (c.x + n) ≡ at + n
  pixel n = omega (arith, place)

  visited : (n : ℕ) → n < 4
      → Visits true 1 ws grid [] (region (c.x + n) y z 1) (put_row n b at rs f)
      (set (put_row n b at rs f) (at + n) (get_or rs (f + n) 0))
      (one_below (get_or b (at + n) 0) (z + 1) * length ws)
  visited n h =
      let b₁ = put_row n b at rs f in
      let same : get_or b₁ (at + n) 0 ≡ get_or b (at + n) 0 = put_behind b at rs f n (at + n) (omega arith) in
      let e : get_or rs (f + n) 0 ≡ with_sample (get_or b₁ (at + n) 0) (z + 1) (lane vs (f + n)) =
      raised n h ∙ ap (λ (a : ℕ). with_sample a (z + 1) (lane vs (f + n))) (sym same) in
      subst
      (λ (a : ℕ). Visits true 1 ws grid [] (region (c.x + n) y z 1) b₁ (set b₁ (at + n) (get_or rs (f + n) 0))
      (one_below a (z + 1) * length ws)) same
      (subst
      (λ (q : ℕ). Visits true 1 ws grid [] (region (c.x + n) y z 1) b₁ (set b₁ q (get_or rs (f + n) 0))
      (one_below (get_or b₁ q 0) (z + 1) * length ws)) (pixel n)
      (one_visit grid (c.x + n) y z (child_in _ _ _ p.cell (omega (arith, wide)) hy hz)
      (ready_again p.ready (put_length b at rs f n)) p.sound (lane vs (f + n)) run (get_or rs (f + n) 0)
      (subst (λ (q : ℕ). get_or rs (f + n) 0 ≡ with_sample (get_or b₁ q 0) (z + 1) (lane vs (f + n))) (sym (pixel n)) e)))
    where
      off : (x : ℕ) → c.x + n - c.x ≡ n
      off x = omega arith

      run : Evaluated ws (sample_at (grid_in grid true) (c.x + n) y z) (lane vs (f + n))
      run =
          subst (λ (k : ℕ). Evaluated ws (sample_at (grid_in grid true) (c.x + n) y z) (lane vs (f + k))) (off 0)
          (values.here (c.x + n) (omega arith) (omega (arith, wide)) hy)

  at_column : (n : ℕ) → n ≤ 4
      → AtColumn true 1 4 1 ws grid [] c.x c.xend y z b (put_row n b at rs f) (seen n * length ws) (c.x + n)
  unfolding put_row
  at_column zero h =
      subst (λ (x : ℕ). AtColumn true 1 4 1 ws grid [] c.x c.xend y z b b (0 * length ws) x) (plus_none c.x)
      (subst (λ (k : ℕ). AtColumn true 1 4 1 ws grid [] c.x c.xend y z b b k c.x) (nought (length ws))
      (row_begins b (omega arith) (omega (arith, wide))))
    where
      nought : (n : ℕ) → 0 ≡ 0 * n
      nought n = omega arith
  at_column (suc n) h =
      subst
      (λ (x : ℕ). AtColumn true 1 4 1 ws grid [] c.x c.xend y z b
      (set (put_row n b at rs f) (at + n) (get_or rs (f + n) 0)) (seen (suc n) * length ws) x) (more c.x)
      (subst
      (λ (k : ℕ). AtColumn true 1 4 1 ws grid [] c.x c.xend y z b
      (set (put_row n b at rs f) (at + n) (get_or rs (f + n) 0)) k (c.x + n + 1))
      (sym (add-mul (seen n) (one_below (get_or b (at + n) 0) (z + 1)) (length ws)))
      (row_again (at_column n (omega arith)) (omega (arith, wide)) (visited n (omega arith))
      (length-set (put_row n b at rs f) (at + n) (get_or rs (f + n) 0))))
    where
      more : (x : ℕ) → x + n + 1 ≡ x + suc n
      more x = omega arith

  pub row_settled : (hs : List ℕ) (g : ℕ) → ((k : ℕ) → k < 4 → get_or hs (g + k) 0 ≡ get_or b (at + k) 0)
      → Folds true 4 ws grid [] (row_in c y z) b (put_row 4 b at rs f) (four_below hs g (z + 1) * length ws)
  row_settled hs g e =
      subst (λ (n : ℕ). Folds true 4 ws grid [] (row_in c y z) b (put_row 4 b at rs f) (n * length ws)) four
      (folds_as (row_there c y z hy) (row_done (at_column 4 (omega arith)) (omega (arith, wide)) (omega arith)))
    where
      same : (k : ℕ) → k < 4 → one_below (get_or hs (g + k) 0) (z + 1) ≡ one_below (get_or b (at + k) 0) (z + 1)
      same k h = ap (λ (a : ℕ). one_below a (z + 1)) (e k h)

      four : seen 4 ≡ four_below hs g (z + 1)
      four = omega (arith, same 0 (omega arith), same 1 (omega arith), same 2 (omega arith), same 3 (omega arith))

-- A lane of four heights that stand first; and of both rows.
four_lane : (b : List ℕ) (at : ℕ) (hs : List ℕ) (k : ℕ) → k < 4
    → get_or (four_before b at hs) k 0 ≡ get_or b (at + k) 0
four_lane b at hs zero h = ap (λ (q : ℕ). get_or b q 0) (plus_none at)
four_lane b at hs (suc zero) h = refl
four_lane b at hs (suc (suc zero)) h = refl
four_lane b at hs (suc (suc (suc zero))) h = refl
four_lane b at hs (suc (suc (suc (suc k)))) h = absurd (omega arith)

module _ (b : List ℕ) (l u : ℕ) (k : ℕ) (h : k < 4) where
  lower_lane : get_or (heights_of b l u) (0 + k) 0 ≡ get_or b (l + k) 0
  lower_lane = ap (λ (q : ℕ). get_or (heights_of b l u) q 0) (none k) ∙ four_lane b l (four_before b u []) k h
    where
      none : (n : ℕ) → 0 + n ≡ n
      none n = omega arith

  upper_lane : get_or (heights_of b l u) (4 + k) 0 ≡ get_or b (u + k) 0
  upper_lane = ap (λ (q : ℕ). get_or (heights_of b l u) q 0) (four k) ∙ four_lane b u [] k h
    where
      four : (n : ℕ) → 4 + n ≡ suc (suc (suc (suc n)))
      four n = omega arith

whole_settled : {ws : List ℕ} {grid : Grid} {c : Cell} {y z : ℕ} {vs : List ℤ} {b : List ℕ}
    → ForWhole ws grid c y z vs b → (l u : ℕ) → l ≡ y * grid.width + c.x → u ≡ l + grid.width → (rs : List ℕ)
    → Raised (heights_of b l u) (z + 1) vs rs → (n : ℕ) → n ≡ all_below (heights_of b l u) (z + 1)
    → Folds true 8 ws grid [] (chunk_in c y z) b (put_row 4 (put_row 4 b l rs 0) u rs 4) (n * length ws)
whole_settled {ws} {grid} {c} {y} {z} {vs} {b} p l u el eu rs r n en =
    subst (λ (k : ℕ). Folds true 8 ws grid [] (chunk_in c y z) b (put_row 4 b₁ u rs 4) k) total
    (folds_both 4 4 (row_settled q p.wide hy hz 0 p.chunk.values.lower l el rs lower (heights_of b l u) 0
    (lower_lane b l u))
    (row_settled q₁ p.wide hy₁ hz 4 p.chunk.values.upper u eu₁ rs upper (heights_of b l u) 4
    there))
  where
    b₁ : List ℕ
    b₁ = put_row 4 b l rs 0

    q : ForSamples ws grid c b
    q = p.chunk.all

    q₁ : ForSamples ws grid c b₁
    q₁ = samples_again q (put_length b l rs 0 4)

    hy : y < c.yend
    hy = omega (arith, p.rows)

    hy₁ : y + 1 < c.yend
    hy₁ = omega (arith, p.rows)

    hz : z < c.zend
    hz = p.chunk.z_in

    eu₁ : u ≡ (y + 1) * grid.width + c.x
    eu₁ = omega (arith, el, eu, add-mul y 1 grid.width)

    lower : (k : ℕ) → k < 4 → get_or rs (0 + k) 0 ≡ with_sample (get_or b (l + k) 0) (z + 1) (lane vs (0 + k))
    lower k h =
        r.at (0 + k) (omega arith)
        ∙ ap (λ (a : ℕ). with_sample a (z + 1) (lane vs (0 + k))) (lower_lane b l u k h)

    there : (k : ℕ) → k < 4 → get_or (heights_of b l u) (4 + k) 0 ≡ get_or b₁ (u + k) 0
    there k h =
        upper_lane b l u k h
        ∙ sym (put_behind b l rs 0 4 (u + k) (omega (arith, eu, p.wide, q.cell.xs.in_grid)))

    upper : (k : ℕ) → k < 4 → get_or rs (4 + k) 0 ≡ with_sample (get_or b₁ (u + k) 0) (z + 1) (lane vs (4 + k))
    upper k h =
        r.at (4 + k) (omega arith) ∙ ap (λ (a : ℕ). with_sample a (z + 1) (lane vs (4 + k))) (there k h)

    total : four_below (heights_of b l u) 0 (z + 1) * length ws + four_below (heights_of b l u) 4 (z + 1) * length ws
        ≡ n * length ws
    total =
        sym (add-mul (four_below (heights_of b l u) 0 (z + 1)) (four_below (heights_of b l u) 4 (z + 1)) (length ws))
        ∙ ap (λ (k : ℕ). k * length ws) (sym en)

-- The same of the steps of the code: the heights hs that were read, those that are stored, rs, and the picture with the
-- lower row, and with both.
pub whole_done : {ws : List ℕ} {grid : Grid} {c : Cell} {y z : ℕ} {vs : List ℤ} {b : List ℕ}
    → ForWhole ws grid c y z vs b → {l u n : ℕ} {hs rs b₁ b₂ : List ℕ} → l ≡ y * grid.width + c.x
    → u ≡ l + grid.width → hs ≡ heights_of b l u → Raised hs (z + 1) vs rs → b₁ ≡ put_row 4 b l rs 0
    → b₂ ≡ put_row 4 b₁ u rs 4 → n ≡ all_below hs (z + 1)
    → Folds true 8 ws grid [] (chunk_in c y z) b b₂ (n * length ws)
whole_done {ws} {grid} {c} {y} {z} {vs} {b} p {l} {u} {n} {hs} {rs} {b₁} {b₂} el eu eh r e₁ e₂ en =
    subst (λ (b' : List ℕ). Folds true 8 ws grid [] (chunk_in c y z) b b' (n * length ws))
    (sym (e₂ ∙ ap (λ (b' : List ℕ). put_row 4 b' u rs 4) e₁))
    (whole_settled p l u el eu rs (subst (λ (as' : List ℕ). Raised as' (z + 1) vs rs) eh r) n
    (en ∙ ap (λ (as' : List ℕ). all_below as' (z + 1)) eh))

-- Both rows are in the picture.
module _ {ws : List ℕ} {grid : Grid} {c : Cell} {y z : ℕ} {vs : List ℤ} {b : List ℕ} (p : ForWhole ws grid c y z vs b)
  where
    in_row : (j : ℕ) → y + j < c.yend → FourFrom ((y + j) * grid.width + c.x) b
    in_row j h =
        let q = p.chunk.all in
        let i : InGrid grid.depth grid (c.x + 3) (y + j) z =
        child_in (c.x + 3) (y + j) z q.cell (omega (arith, p.wide)) h p.chunk.z_in in
        record {
          small = omega (arith, pixel_most grid (c.x + 3) (y + j) z i q.ready.fault);
          within = omega (arith, pixel_in grid (c.x + 3) (y + j) z i q.ready.fault q.ready);
        }

    pub lower_four : FourFrom (y * grid.width + c.x) b
    lower_four =
        subst (λ (k : ℕ). FourFrom (k * grid.width + c.x) b) (sym (plus_none y)) (in_row 0 (omega (arith, p.rows)))

    pub upper_four : FourFrom (y * grid.width + c.x + grid.width) b
    upper_four =
        subst (λ (k : ℕ). FourFrom k b) (omega (arith, add-mul y 1 grid.width)) (in_row 1 (omega (arith, p.rows)))

pub four_again : {at : ℕ} {b b' : List ℕ} → FourFrom at b → length b' ≡ length b → FourFrom at b'
four_again f e = record { small = f.small; within = omega (arith, f.within, e) }

-- A count of eight runs at most.
pub eight_runs : (n l : ℕ) → n ≤ 8 → l ≤ 6144 → n * l ≤ 49152
eight_runs n l h k = let a : n * l ≤ 8 * 6144 = mul-le-mul h k in omega (arith, a)
