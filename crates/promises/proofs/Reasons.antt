-- What document 02 asks to be shown of the reason for a pixel, of what the call returns.
use mathlib.Core.Path.{◌≡◌, refl, sym, subst, ◌∙◌}
use mathlib.Core.Bool.{false, ◌&&◌, not}
use mathlib.Core.List.{List}
use Prim.Native.Nat.{ℕ}
use lib.Dec.{ltb}
use lib.ListN.{length}
use borrow.Author.Tests.{eq-eqb, ne_eqb, not-false, ltb-true, ltb-false}
use Rattle.rules.specs.Tapes.{read_tape}
use Rattle.rules.specs.Drawings as D
use Rattle.rules.proofs.Tests.{and_left, and_right, last_off}
use Rattle.rules.proofs.Lines.{each_line}
use Rattle.rules.proofs.Runs.{accepted_good}
use Rattle.reason_rules.specs.Reasons.{reason_of, Decides}
use Rattle.reason_rules.proofs.Reasons.{reason_decides}
use Rattle.picture.specs.Shapes.{grid_in}
use Rattle.picture.specs.declared.grid.Grid.{Grid}
use Rattle.promises.specs.declared.Reason.{Reason}
use Rattle.promises.specs.Faults.{reason_lines, reason_fault, Explains}
use Rattle.promises.specs.Figures.{reason_in, no_reason}
use Rattle.promises.specs.Says.{ReasonSays}

-- A call that no line refuses has what it asks.
pub explains : (s : List ℕ) (g : D.Grid) (i j m : ℕ) → reason_fault s g i j m ≡ 0 → Explains s g i j m
explains s g i j m e =
    let z = each_line (reason_lines s g i j m) e in
    let x = ltb i g.width in
    let y = ltb j g.height in
    let t = not-false (x && y) (last_off (not (x && y)) 22 (z 2)) in
    record {
      read = z 0;
      grid = z 1;
      column = ltb-true i g.width (and_left x y t);
      row = ltb-true j g.height (and_right x y t);
      work = ltb-false m D.work_limit (last_off (ltb m D.work_limit) 12 (z 3));
    }

module _ {s : List ℕ} {d : Grid} {i j : ℕ} {w w' : List ℕ} {r : Reason} (f : ReasonSays s d i j w w' r) where
  -- "It must be shown that this region decided the pixel and that these ends have the sign that decided": the figures of
  -- a done call are those of the region that decided the pixel, by tiles and in the full drawing.
  pub reason_shown : r.answer.number ≡ 0 → Decides (read_tape s).tape (grid_in d false) i j (reason_in r)
  reason_shown e =
      let g = grid_in d false in
      let x = reason_fault s g i j (length w) in
      let z : x ≡ 0 = sym f.answer.number ∙ e in
      let c = explains s g i j (length w) z in
      let k : reason_in r ≡ reason_of (read_tape s).tape g i j = f.figures ∙ rw (eq-eqb x 0 z) in
      subst (λ a. Decides (read_tape s).tape g i j a) (sym k)
      (reason_decides (read_tape s).tape (accepted_good s c.read) g refl c.grid i j c.column c.row)

  -- And a refused call gives no figure and leaves the work buffer as it came.
  pub reason_refused : (r.answer.number ≡ 0 → ⊥) → (reason_in r ≡ no_reason) × (w' ≡ w)
  reason_refused h =
      let x = reason_fault s (grid_in d false) i j (length w) in
      let z = ne_eqb x 0 (λ y. h (f.answer.number ∙ y)) in (f.figures ∙ rw z, f.work ∙ rw z)
