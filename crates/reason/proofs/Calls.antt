-- The call: what its words come to, and its two ends.
use mathlib.Core.Path.{◌≡◌, refl, ap, ap₂, ◌∙◌}
use mathlib.Core.Bool.{false}
use mathlib.Core.List.{List, [], ◌∷◌}
use lib.IntN.{ℤ}
use lib.Signed.{mag}
use Prim.Native.Nat.{ℕ, ◌≤◌, ◌<◌, ◌^◌}
use lib.ListN.{length, take, replicate}
use mir.Syntax.{w32}
use borrow.Author.Tests.{lt-ltb, le-ltb, eq-eqb, ne_eqb}
use Rattle.rules.specs.Values.{range}
use Rattle.rules.specs.Tapes.{Tape, read_tape, clause_limit}
use Rattle.rules.specs.Drawings as D
use Rattle.rules.specs.Pictures.{picture_size}
use Rattle.rules.proofs.Words.{read, back}
use Rattle.reason_rules.specs.Reasons as R
use Rattle.code.specs.Unpacking.{Unpacked}
use Rattle.picture.specs.Shapes.{grid_in}
use Rattle.picture.specs.declared.grid.Grid.{Grid}
use Rattle.answers.specs.declared.Answer.{Answer}
use Rattle.answers.specs.Lines.{Draws}
use Rattle.answers.specs.Says.{Answered, checked_by}
use Rattle.answers.proofs.Ends.{as_it_came, overwritten, no_line, some_line, uncounted, tape_place}
use Rattle.promises.specs.declared.Reason.{Reason}
use Rattle.promises.specs.Faults.{pixel_fault, reason_lines, reason_fault, Explains}
use Rattle.promises.specs.Figures.{reason_in, no_reason}
use Rattle.promises.specs.Says.{ReasonSays}
use Rattle.promises.proofs.Reasons.{explains}
use Rattle.drawings.proofs.TapeWords.{words_accepted, words_tape}
use Rattle.reason.specs.declared.stop.Stop.{Stop}
use Rattle.reason.specs.Stops.{stop_in, stop_of, Pixel, StopsAs}

-- Line 23.
module _ (g : D.Grid) (i j : ℕ) where
  pub past_column : g.width ≤ i → 23 ≡ pixel_fault g i j
  past_column h = rw (le-ltb i g.width h)

  pub past_row : i < g.width → g.height ≤ j → 23 ≡ pixel_fault g i j
  past_row h k = rw (lt-ltb i g.width h, le-ltb j g.height k)

  pub in_grid : i < g.width → j < g.height → 0 ≡ pixel_fault g i j
  in_grid h k = rw (lt-ltb i g.width h, lt-ltb j g.height k)

-- What is lent to a call that no line refuses: as to a drawing, whose picture would have just the right length.
module _ {s : List ℕ} (grid : Grid) {i j m : ℕ} (e : Explains s (grid_in grid false) i j m) where
  pub as_drawing : Draws false s (grid_in grid false) (picture_size false (grid_in grid false))
  as_drawing = record { read = e.read; grid = e.grid; size = refl }

  pub pixel_of : Pixel grid i j
  pixel_of = record { fault = e.grid; column = e.column; row = e.row }

  -- Where the walk of the unpacked words stops, the tape's stops.
  pub tape_stops : {ws ws' : List ℕ} {k : ℕ} {r : Stop} → Unpacked s ws ws' k → length ws' ≡ clause_limit
      → StopsAs (8 ∷ (1 ∷ [])) 64 (take k ws') grid i j r
      → stop_in r ≡ R.reason_of (read_tape s).tape (grid_in grid false) i j
  unfolding R.reason_of D.sides
  tape_stops o l v =
      v.figures (read_tape s).tape.slots (words_accepted as_drawing o l)
      ∙ ap (λ (t : Tape). R.reason_from (8 ∷ (1 ∷ [])) 64 t (grid_in grid false) i j) (words_tape as_drawing o l)

-- The ends of a stop lie in words, and are handed over as they are.
pub same_figures : (r : Stop) → mag r.low < 2 ^ 31 → mag r.high < 2 ^ 31
    → ◌≡◌ {A = R.Reason}
    (record { side = r.side; low = read w32 r.low; high = read w32 r.high; clauses = r.clauses }) (stop_in r)
same_figures r h k =
    ap₂ (λ (a b : ℤ). stop_of r.side (range a b) r.clauses) (back w32 r.low h refl) (back w32 r.high k refl)

-- The two ends.
module _ (s : List ℕ) (d : Grid) (i j : ℕ) (w : List ℕ) {a : Answer}
    (e : a ≡ checked_by (reason_lines s (grid_in d false) i j (length w)) s) where
  abbrev lines : List ℕ
  lines = reason_lines s (grid_in d false) i j (length w)

  -- A call that counts nothing answers what its checks come to, refused or done.
  answered : Answered (reason_fault s (grid_in d false) i j (length w)) (read_tape s).place 0 a
  answered = uncounted e refl (tape_place s lines refl)

  pub asked : a.number ≡ 0 → Explains s (grid_in d false) i j (length w)
  asked z = explains s (grid_in d false) i j (length w) (no_line lines s e z)

  pub says_refused : (a.number ≡ 0 → ⊥) → {r : Reason} → r.answer ≡ a → reason_in r ≡ no_reason
      → ReasonSays s d i j w w r
  says_refused h f k =
      let y = some_line lines s e h in
      record {
        answer = rw f answered;
        figures = k ∙ rw (ne_eqb (reason_fault s (grid_in d false) i j (length w)) 0 y);
        work = as_it_came lines (replicate (length w) 0) w y;
      }

  pub says_done : a.number ≡ 0 → {r : Reason} {w' : List ℕ} → r.answer ≡ a
      → reason_in r ≡ R.reason_of (read_tape s).tape (grid_in d false) i j → w' ≡ replicate (length w) 0
      → ReasonSays s d i j w w' r
  says_done h f k u =
      let y = no_line lines s e h in
      record {
        answer = rw f answered;
        figures = k ∙ rw (eq-eqb (reason_fault s (grid_in d false) i j (length w)) 0 y);
        work = overwritten lines w y u;
      }
