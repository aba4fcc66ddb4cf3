-- A sample of side 1: hidden, without material, or filled.
use mathlib.Core.Path.{◌≡◌, refl, sym, ap, ◌∙◌}
use mathlib.Core.Bool.{Bool, true, false}
use mathlib.Core.List.{List, []}
use Prim.Native.Nat.{ℕ, suc, ◌+◌, ◌*◌, ◌≤◌, ◌<◌}
use native.Mathlib.Nat.{mul_comm, mul-le-mul_right}
use native.Mathlib.Omega.{arith}
use lib.Dec.{leb, ltb}
use lib.IntN.{ℤ, pos, negsuc}
use lib.ListN.{length, get_or, set}
use lib.Seq.{set-get_or}
use borrow.Author.Tests.{le-leb, lt-leb, lt-ltb, le-ltb}
use mir.Syntax.{w32}
use mir.Val.{SFits}
use mir.Facts.{to_z-of_z}
use Rattle.rules.specs.Values.{pick, is_neg, IsValue, Sample}
use Rattle.rules.specs.Tapes.{material}
use Rattle.rules.specs.Drawings.{at, region, sample_at, past_z, raise_row, grid_fault}
use Rattle.rules.proofs.Words.{read}
use Rattle.code.specs.Words.{tape_in}
use Rattle.code.specs.Runs.{SampleOk, Evaluated}
use Rattle.code.proofs.WordTapes.{length_clauses}
use Rattle.picture.specs.Shapes.{grid_in}
use Rattle.picture.specs.declared.grid.Grid.{Grid}
use Rattle.picture.proofs.Grids.{accepted}
use Rattle.walk.specs.Draws.{Hidden, Same}
use Rattle.walk.specs.Cells.{Ready, InGrid}
use Rattle.walk.specs.Walks.{Sound, Visits}
use Rattle.walk.proofs.Draws.{hidden_same, draws_count, draws_hidden, draws_sample_full, draws_sample_empty}
use Rattle.walk.proofs.Filling.{hidden_sample, fill_sample, raises_same}
use Rattle.walk.proofs.Along.{part_one}
use Rattle.walk.proofs.CellLaws.{small, kind}
use Rattle.walk.proofs.Places.{ready_again}
use Rattle.walk.specs.declared.cell.Cell.{Cell}
use Rattle.solid_samples.specs.Samples.{ForSamples, with_sample}
use Rattle.solid_samples.proofs.CellRows.{index_most}

-- What a call in a loop over samples asks again.
pub samples_again : {ws : List ℕ} {grid : Grid} {c : Cell} {b₀ b : List ℕ} → ForSamples ws grid c b₀
    → length b ≡ length b₀ → ForSamples ws grid c b
samples_again p e = record { sound = p.sound; ready = ready_again p.ready e; cell = p.cell; side = p.side }

-- A lane's value, handed over as a word.
pub value_word : {ws : List ℕ} {s : Sample} {v : ℤ} → SFits w32 v → Evaluated ws s v → Evaluated ws s (read w32 v)
value_word {v = v} f e = rw (to_z-of_z {w = w32} {z = v} f) e

-- The height with a sample that is hidden, which stays; and the greater height, of one that is seen.
hidden_stays : (a h : ℕ) (v : ℤ) → h ≤ a → with_sample a h v ≡ a
hidden_stays a h (pos n) l = refl
hidden_stays a h (negsuc n) l = rw (le-ltb a h l) refl

greater_new : (a h : ℕ) → a < h → pick (ltb a h) h a ≡ h
greater_new a h l = rw (lt-ltb a h l) refl

module _ (grid : Grid) (x y z : ℕ) (i : InGrid grid.depth grid x y z) where
  module _ (e : grid_fault true (grid_in grid true) ≡ 0) where
    pub pixel_most : y * grid.width + x < 262144
    pixel_most =
        let s = small true grid e in
        index_most y grid.width x grid.height i.y_in i.x_in s.width s.height

    pub pixel_in : {b : List ℕ} → Ready true grid b → y * grid.width + x < length b
    pixel_in r =
        let k : suc y * grid.width ≤ grid.height * grid.width = mul-le-mul_right grid.width i.y_in in
        omega (arith, r.size, i.x_in, mul_comm grid.width grid.height)

    pub x_value : IsValue (at grid.xorigin grid.xstep x)
    x_value = (accepted grid true e).x_value x i.x_in

    pub y_value : IsValue (at grid.yorigin grid.ystep y)
    y_value = (accepted grid true e).y_value y i.y_in

    pub z_value : IsValue (at grid.zorigin grid.zstep z)
    z_value = (accepted grid true e).z_value refl z i.z_in

    -- The sample that the code makes.
    pub sample_same : (s : Sample) → s.x ≡ at grid.xorigin grid.xstep x
        → s.y ≡ at grid.yorigin grid.ystep y
        → s.z ≡ at grid.zorigin grid.zstep z → s ≡ sample_at (grid_in grid true) x y z
    unfolding sample_at
    sample_same s hx hy hz = rw (kind true grid e) (samples hx hy hz)
      where
        samples : {a b c d f g : ℤ} → a ≡ b → c ≡ d → f ≡ g
            → ◌≡◌ {A = Sample} (record { x = a; y = c; z = f }) (record { x = b; y = d; z = g })
        samples p q r = cc

    pub sample_ok_lem : (s : Sample) → s ≡ sample_at (grid_in grid true) x y z → SampleOk s
    unfolding sample_at
    sample_ok_lem s h =
        rw h (rw (kind true grid e) (record { x = x_value; y = y_value; z = z_value }))

    past_z_lem : past_z (grid_in grid true) (region x y z 1) ≡ z + 1
    past_z_lem = rw (kind true grid e) (part_one grid.depth z i.z_in)

  module _ {ws b : List ℕ} (r : Ready true grid b) (s : Sound ws) where
    hidden_by : (v : Bool) → leb (z + 1) (get_or b (y * grid.width + x) 0) ≡ v
        → Hidden Same (grid_in grid true) (region x y z 1) b v
    hidden_by v h =
        hidden_same (grid_in grid true) (region x y z 1) b v
        (hidden_sample (grid_in grid true) x y z b (kind true grid r.fault) i.x_in i.y_in i.z_in ∙ h)

    sample_hidden : z + 1 ≤ get_or b (y * grid.width + x) 0 → Visits true 1 ws grid [] (region x y z 1) b b 0
    sample_hidden h =
        record {
          draws = λ m a. draws_hidden (hidden_by true (le-leb _ _ h)) [] (tape_in m ws);
          bound = omega arith;
        }

    -- With the height h stored that the sample leaves. Hidden: it is the one that was there.
    pub hidden_stored : z + 1 ≤ get_or b (y * grid.width + x) 0 → (v : ℤ) (h : ℕ)
        → h ≡ with_sample (get_or b (y * grid.width + x) 0) (z + 1) v
        → Visits true 1 ws grid [] (region x y z 1) b (set b (y * grid.width + x) h) 0
    hidden_stored l v h e =
        let same = ap (set b (y * grid.width + x)) (e ∙ hidden_stays _ _ v l) ∙ set-get_or b (y * grid.width + x) 0 in
        rw same (sample_hidden l)

    -- Seen, with the value v.
    module _ (low : get_or b (y * grid.width + x) 0 < z + 1) (v : ℤ)
        (run : Evaluated ws (sample_at (grid_in grid true) x y z) v) where
      sample_skips : is_neg v ≡ false → Visits true 1 ws grid [] (region x y z 1) b b (length ws)
      unfolding material
      sample_skips n =
          record {
            draws = λ m a.
                draws_count (length_clauses ws)
                (draws_sample_empty (hidden_by false (lt-leb _ _ low)) (tape_in m ws)
                (ap is_neg (sym (run.value m a)) ∙ n));
            bound = omega arith;
          }

      raised : (b' : List ℕ) → b' ≡ set b (y * grid.width + x) (z + 1)
          → b' ≡ raise_row 1 (y * grid.width + x) (z + 1) b
      unfolding raise_row
      raised b' h = rw (lt-ltb _ _ low) h

      sample_fills : is_neg v ≡ true → (b' : List ℕ) → b' ≡ set b (y * grid.width + x) (z + 1)
          → Visits true 1 ws grid [] (region x y z 1) b b' (length ws)
      unfolding material
      sample_fills n b' h =
          record {
            draws = λ m a.
                draws_count (length_clauses ws)
                (draws_sample_full (hidden_by false (lt-leb _ _ low)) (tape_in m ws)
                (ap is_neg (sym (run.value m a)) ∙ n)
                (fill_sample {g = grid_in grid true} {z = z} i.x_in i.y_in
                (rw (past_z_lem r.fault) (raises_same (y * grid.width + x) 1 (z + 1) b (raised b' h)))));
            bound = omega arith;
          }

      stored_by : (t : Bool) → is_neg v ≡ t → (h : ℕ)
          → h ≡ pick t (pick (ltb (get_or b (y * grid.width + x) 0) (z + 1)) (z + 1) (get_or b (y * grid.width + x) 0))
          (get_or b (y * grid.width + x) 0)
          → Visits true 1 ws grid [] (region x y z 1) b (set b (y * grid.width + x) h) (length ws)
      stored_by true n h e =
          sample_fills n _ (ap (set b (y * grid.width + x)) (e ∙ greater_new _ _ low))
      stored_by false n h e =
          let same = ap (set b (y * grid.width + x)) e ∙ set-get_or b (y * grid.width + x) 0 in
          rw same (sample_skips n)

      pub seen_stored : (h : ℕ) → h ≡ with_sample (get_or b (y * grid.width + x) 0) (z + 1) v
          → Visits true 1 ws grid [] (region x y z 1) b (set b (y * grid.width + x) h) (length ws)
      seen_stored = stored_by (is_neg v) refl
