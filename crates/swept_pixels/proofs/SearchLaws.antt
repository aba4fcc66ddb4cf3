-- The search over positions, turn by turn, and the sample of a pixel.
use mathlib.Core.Path.{◌≡◌, refl, sym, ap, ◌∙◌}
use mathlib.Core.Bool.{Bool, true, false}
use mathlib.Core.List.{List}
use lib.IntN.{ℤ}
use Prim.Native.Nat.{ℕ, ◌+◌, ◌≤◌, ◌<◌}
use native.Mathlib.Omega.{arith}
use native.Mathlib.Numerals.{add-one}
use lib.ListN.{length, get_or, drop, drop_of_length-le}
use Rattle.rules.specs.Values.{is_neg, Sample}
use Rattle.rules.specs.Tapes.{material}
use Rattle.rules.specs.Drawings.{at, sample_at, Inside, grid_fault}
use Rattle.rules.specs.Accepted.{Accepted}
use Rattle.code.specs.Words.{tape_in}
use Rattle.code.specs.Runs.{Evaluated}
use Rattle.picture.specs.Shapes.{grid_in}
use Rattle.picture.specs.declared.grid.Grid.{Grid}
use Rattle.picture.proofs.Grids.{accepted}
use Rattle.walk.specs.Cells.{CellOk, region_in}
use Rattle.walk.specs.Children.{ChildOf}
use Rattle.walk.specs.declared.cell.Cell.{Cell}
use Rattle.swept_rules.specs.Swept.{Offset, offsets_of, moved_sample}
use Rattle.swept_rules.specs.Keeping.{position_at, first_in}
use Rattle.swept_rules.proofs.Positions.{search_found, search_on}
use Rattle.swept_rules.proofs.Regions.{part_keeps}
use Rattle.swept_path.specs.Asked.{ForSample}
use Rattle.swept_pixels.specs.Puts.{Constantly}
use Rattle.swept_pixels.specs.Searches.{OnPath, Found, Agrees}
use Rattle.swept_pixels.proofs.PutLaws.{child_inside}

-- The first cover of all positions is that of those from number m on.
pub record Searching (ws : List ℕ) (s : Sample) (os : List Offset) (ks : List ℕ) (m : ℕ) : Type 0 where
  pub rest : (n : ℕ) → Accepted (tape_in n ws)
      → first_in (tape_in n ws) os s ks ≡ first_in (tape_in n ws) os s (drop m ks)

module _ {ws : List ℕ} {s : Sample} {os : List Offset} {ks : List ℕ} where
  pub search_begins : Searching ws s os ks 0
  search_begins = record { rest = λ n a. refl }

  module _ (m : ℕ) (u : Searching ws s os ks m) where
    module _ (l : m < length ks) {v : ℤ} (e : Evaluated ws (moved_sample (position_at os (get_or ks m 0)) s) v) where
      covered : {t : Bool} → is_neg v ≡ t → (n : ℕ) → Accepted (tape_in n ws)
          → material (tape_in n ws) (moved_sample (position_at os (get_or ks m 0)) s) ≡ t
      unfolding material
      covered h n a = ap is_neg (sym (e.value n a)) ∙ h

      pub search_goes_on : is_neg v ≡ false → Searching ws s os ks (m + 1)
      search_goes_on h =
          record {
            rest = λ n a.
                u.rest n a ∙ search_on (tape_in n ws) os s ks m l (covered h n a)
                ∙ ap (λ (i : ℕ). first_in (tape_in n ws) os s (drop i ks)) (sym (add-one m));
          }

      pub search_stops : is_neg v ≡ true → Found ws s os ks (get_or ks m 0 + 1)
      search_stops h =
          record {
            first = λ n a.
                sym (u.rest n a ∙ search_found (tape_in n ws) os s ks m l (covered h n a) ∙ sym (add-one (get_or ks m 0)));
          }

    pub search_ends : length ks ≤ m → Found ws s os ks 0
    unfolding first_in
    search_ends l =
        record {
          first = λ n a. sym (u.rest n a ∙ ap (first_in (tape_in n ws) os s) (drop_of_length-le ks l));
        }

-- The sample of a pixel, by its axes; every position moves it to values.
samples : {a b c d f g : ℤ} → a ≡ b → c ≡ d → f ≡ g
    → ◌≡◌ {A = Sample} (record { x = a; y = c; z = f }) (record { x = b; y = d; z = g })
samples p q r = cc

module _ (grid : Grid) (x y : ℕ) where
  pub sample_same : (s : Sample) → s.x ≡ at grid.xorigin grid.xstep x
      → s.y ≡ at grid.yorigin grid.ystep y → s.z ≡ grid.zorigin → s ≡ sample_at (grid_in grid false) x y 0
  unfolding sample_at
  sample_same s hx hy hz = samples hx hy hz

  pub sample_moves : {zs : List ℤ} {ks : List ℕ} → grid_fault false (grid_in grid false) ≡ 0 → OnPath grid zs ks
      → x < grid.width → y < grid.height → (i : ℕ) → i < length ks
      → ForSample (sample_at (grid_in grid false) x y 0) (position_at (offsets_of zs) (get_or ks i 0))
  unfolding sample_at
  sample_moves {zs} {ks} e p hx hy i l =
      let t = p.stays.each (get_or ks i 0) (p.in_path.each i l) in
      record { x = t.xs x hx; y = t.ys y hy; z = (accepted grid false e).flat_z }

-- What the search found at a pixel of side 1 is right there.
pub found_constant : {ws : List ℕ} {zs : List ℤ} {grid : Grid} {ks : List ℕ} {c : Cell} {v : ℕ} → CellOk 1 grid c
    → c.side ≡ 1 → Found ws (sample_at (grid_in grid false) c.x c.y 0) (offsets_of zs) ks v
    → (f : ℕ → ℕ → ℕ) → Agrees ws zs grid ks (region_in c) f → Constantly v grid (region_in c) f
found_constant {ws} {zs} {grid} {ks} {c} {v} k s u f a =
    record { same = λ i j w hi hj. at_pixel i j hi hj w (omega (arith, w, s)) (omega (arith, w, s)) }
  where
    at_pixel : (i j : ℕ) → i < grid.width → j < grid.height → Inside (region_in c) i j 0 → i ≡ c.x → j ≡ c.y
        → f i j ≡ v
    at_pixel i j hi hj w p q =
        sym (a.keeps.same i j w (record { x_in = hi; y_in = hj; z_in = omega arith }))
        ∙ rw (p, q) (sym (u.first a.slots a.accepted))

-- What a region has, its parts have.
pub agrees_part : {ws : List ℕ} {zs : List ℤ} {grid : Grid} {ks : List ℕ} {p d : Cell} {n m : ℕ} → CellOk 1 grid p
    → CellOk 1 grid d → ChildOf p n m d → (f : ℕ → ℕ → ℕ) → Agrees ws zs grid ks (region_in p) f
    → Agrees ws zs grid ks (region_in d) f
agrees_part k l h f a =
    record { slots = a.slots; accepted = a.accepted; keeps = part_keeps (child_inside k l h) a.keeps }
