-- The lines of the call in two stages, what none of them refuses has, and the two ends of the call.
use mathlib.Core.Path.{◌≡◌, refl, ap, ◌∙◌}
use mathlib.Core.Bool.{true, false, not}
use mathlib.Core.List.{List}
use lib.IntN.{ℤ}
use Prim.Native.Nat.{ℕ, ◌*◌}
use lib.ListN.{length, take, replicate}
use lib.Dec.{eqb}
use Rattle.rules.specs.Values.{when}
use Rattle.rules.specs.Tapes.{Tape, read_tape, clause_limit}
use Rattle.rules.specs.Drawings as D
use Rattle.rules.specs.Pictures.{picture_size}
use Rattle.rules.proofs.Lines.{each_line}
use Rattle.swept_rules.specs.Swept.{offsets_of, swept_lines, swept}
use Rattle.swept_rules.proofs.Calls as Rules
use Rattle.code.specs.Unpacking.{Unpacked}
use Rattle.picture.specs.Shapes.{grid_in}
use Rattle.picture.specs.declared.grid.Grid.{Grid}
use Rattle.answers.specs.declared.Answer.{Answer}
use Rattle.answers.specs.Lines.{length_fault, grid_lines, Draws}
use Rattle.answers.specs.Says.{Checked, checked_by}
use Rattle.answers.proofs.Ends.{answer, as_it_came, overwritten, no_line, some_line, refused_by, done_by_lem}
use Rattle.answers.proofs.Chains.{none_holds}
use Rattle.std.specs.Prelude.{Ok}
use Rattle.promises.specs.Says.{SweptSays}
use Rattle.swept_tiles.specs.Looks.{SweptBy}
use Rattle.drawings.proofs.TapeWords.{words_accepted, words_tape}
use Rattle.swept_drawing.specs.Swept.{Sweeps, SweptOf}

-- The grid that passes lines 1 to 11.
pub grid_passed : {A : Type 0} (s : List ℕ) (d : Grid) {a : A}
    → Checked (grid_lines false s (grid_in d false)) s (Ok a) → D.grid_fault false (grid_in d false) ≡ 0
grid_passed s d e =
    each_line (grid_lines false s (grid_in d false)) (none_holds (grid_lines false s (grid_in d false)) s e) 1

-- Line 12 is that of a solid's heights.
pub pixels_line : (d : Grid) (n : ℕ) {a : ℕ} → a ≡ length_fault true (grid_in d true) n
    → a ≡ when (not (eqb n (d.width * d.height))) 12
unfolding picture_size
pixels_line d n e = e

-- What no line refuses.
module _ {s : List ℕ} {d : Grid} {zs : List ℤ} {o w : List ℕ} (p : Sweeps s d zs o w) where
  abbrev g : D.Grid
  g = grid_in d false

  pub ready : Rules.Ready s g zs (length o) (length w)
  ready = Rules.ready s g zs (length o) (length w) refl p.clear

  -- The tape and the grid are those of a flat drawing.
  pub reads : Draws false s g (picture_size false g)
  reads =
      let l = each_line (swept_lines s g zs (length o) (length w)) p.clear in
      record { read = l 0; grid = l 1; size = refl }

  pub swept_of : {ws ws' : List ℕ} {k : ℕ} → Unpacked s ws ws' k → length ws' ≡ clause_limit → {o' : List ℕ}
      → SweptBy (take k ws') zs d o' → SweptOf s d zs o'
  swept_of u l v =
      record {
        pixels = v.pixels (read_tape s).tape.slots (words_accepted reads u l)
            ∙ ap (λ (t : Tape). swept t (offsets_of zs) g) (words_tape reads u l);
      }

module _ (s : List ℕ) (d : Grid) (zs : List ℤ) (o w : List ℕ) {r : Answer}
    (e : r ≡ checked_by (swept_lines s (grid_in d false) zs (length o) (length w)) s) where
  abbrev all : List ℕ
  all = swept_lines s (grid_in d false) zs (length o) (length w)

  pub swept_refused : (r.number ≡ 0 → ⊥) → SweptSays s d zs o o w w r
  swept_refused h =
      let k = some_line all s e h in
      record {
        answer = refused_by s all refl e h;
        pixels = as_it_came all (swept (read_tape s).tape (offsets_of zs) (grid_in d false)) o k;
        work = as_it_came all (replicate (length w) 0) w k;
      }

  pub swept_asked : r.number ≡ 0 → Sweeps s d zs o w
  swept_asked z = record { clear = no_line all s e z }

  pub swept_done : r.number ≡ 0 → {o' w' : List ℕ} {a : Answer} → a ≡ answer 0 0 0 → SweptOf s d zs o'
      → w' ≡ replicate (length w) 0 → SweptSays s d zs o o' w w' a
  swept_done z i v u =
      let y = no_line all s e z in
      record {
        answer = done_by_lem all i y refl;
        pixels = overwritten all o y v.pixels;
        work = overwritten all w y u;
      }
