-- The grid record: its mark, its fields as a grid, and a solid that is too large.
use mathlib.Core.Path.{◌≡◌, ◌∙◌}
use mathlib.Core.Bool.{Bool, true, false}
use mathlib.Core.List.{List, [], ◌∷◌}
use Prim.Native.Nat.{ℕ, ◌≤◌, ◌<◌}
use lib.Dec.{ltb}
use lib.IntN.{ℤ}
use lib.ListN.{length}
use borrow.Author.Tests.{lt-ltb, le-ltb, le-leb, lt-leb}
use Rattle.rules.specs.Tapes.{word, signed4}
use Rattle.rules.specs.Drawings as D
use Rattle.program_rules.specs.Program.{record_length, record_ok, grid_record, solid_limit, too_large}
use Rattle.tape.specs.Clauses.{marked}
use Rattle.tape.proofs.FieldValues.{kept, small, kept_is}
use Rattle.picture.specs.Shapes.{grid_in}
use Rattle.picture.specs.declared.grid.Grid.{Grid}

-- 15: too short, or long enough with the mark as it is.
pub too_short : (s : List ℕ) → length s < record_length → false ≡ record_ok s
unfolding record_ok
too_short s h = rw (lt-leb record_length (length s) h)

pub mark_tested : (s : List ℕ) {r : Bool} → record_length ≤ length s → r ≡ marked 0 s (71 ∷ (82 ∷ [])) → r ≡ record_ok s
unfolding record_ok
mark_tested s h e = rw (le-leb record_length (length s) h) e

-- The fields. A signed one is an origin or a step as the code holds it.
pub record Read (s : List ℕ) (i : ℕ) (z : ℤ) : Type 0 where
  pub fits : small z
  pub value : z ≡ signed4 i s

abbrev grid : ℕ → ℕ → ℕ → ℤ → ℤ → ℤ → ℤ → ℤ → ℤ → D.Grid
grid w h d x y z u v t =
    record { width = w; height = h; depth = d; origin_x = x; origin_y = y; origin_z = z; step_x = u; step_y = v; step_z = t }

held : {s : List ℕ} {i : ℕ} {z : ℤ} → Read s i z → kept z ≡ signed4 i s
held {z = z} p = kept_is z p.fits ∙ p.value

pub fields_read : (s : List ℕ) {w h d : ℕ} {x y z u v t : ℤ} → w ≡ word 2 s → h ≡ word 4 s → d ≡ word 6 s → Read s 8 x
    → Read s 12 y → Read s 16 z → Read s 20 u → Read s 24 v → Read s 28 t
    → grid w h d (kept x) (kept y) (kept z) (kept u) (kept v) (kept t) ≡ grid_record s
unfolding grid_record
fields_read s {w} {h} {d} {x} {y} {z} {u} {v} {t} ew eh ed ex ey ez eu ev et =
    let a = held ex in
    let b = held ey in
    let c = held ez in
    let e = held eu in
    let f = held ev in
    let g = held et in
    cc

-- 16, of a solid alone.
pub flat_any : (d : Grid) → d.depth < 1 → false ≡ too_large (grid_in d true)
unfolding too_large
flat_any d h = rw (lt-leb 1 d.depth h)

module _ (d : Grid) (k : 1 ≤ d.depth) where
  pub too_wide : solid_limit < d.width → true ≡ too_large (grid_in d true)
  unfolding too_large
  too_wide h = rw (le-leb 1 d.depth k, lt-ltb solid_limit d.width h)

  pub height_decides : d.width ≤ solid_limit → ltb solid_limit d.height ≡ too_large (grid_in d true)
  unfolding too_large
  height_decides h = rw (le-leb 1 d.depth k, le-ltb solid_limit d.width h)
