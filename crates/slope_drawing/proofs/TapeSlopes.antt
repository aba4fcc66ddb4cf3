-- The walk's heights, and the slopes of an unpacked tape's words.
use mathlib.Core.Path.{◌≡◌, sym, ap, ap₂, subst, ◌∙◌}
use mathlib.Core.Bool.{Bool, true}
use mathlib.Core.List.{List}
use Prim.Native.Nat.{ℕ, ◌≤◌}
use lib.IntN.{ℤ}
use lib.ListN.{length, get_or, take}
use Rattle.rules.specs.Values.{pick}
use Rattle.rules.specs.Tapes.{Tape, read_tape, clause_limit}
use Rattle.rules.specs.Drawings as D
use Rattle.rules.specs.Pictures.{picture}
use Rattle.rules.specs.Slopes.{slopes_of}
use Rattle.rules.proofs.Runs.{accepted_good}
use Rattle.rules.proofs.Columns.{drawn_most}
use Rattle.rules.proofs.Walk.{same_picture}
use Rattle.code.specs.Unpacking.{Unpacked}
use Rattle.picture.specs.Shapes.{grid_in}
use Rattle.picture.specs.declared.grid.Grid.{Grid}
use Rattle.picture.proofs.Grids.{accepted}
use Rattle.slope_blocks.specs.Narrow.{Shaded}
use Rattle.answers.specs.Lines.{Draws}
use Rattle.drawings.specs.Drawn.{TilesOf}
use Rattle.drawings.proofs.TapeWords.{words_accepted, words_tape}
use Rattle.slope_drawing.specs.Sloped.{SlopesOf}

-- The heights that the walk leaves are at most the grid's depth.
pub walked_heights : {s : List ℕ} {r : Grid} {n : ℕ} → Draws true s (grid_in r true) n → {o' : List ℕ} {c : ℕ}
    → TilesOf true s (grid_in r true) o' c → (p : ℕ) → get_or o' p 0 ≤ r.depth
unfolding picture
walked_heights {s} {r} d {o'} v p =
    let g = grid_in r true in
    let t = (read_tape s).tape in
    let kind = (accepted r true d.grid).kind in
    let e : o' ≡ D.drawn t g = v.pixels ∙ same_picture t (accepted_good s d.read) g true kind d.grid in
    let l : D.layers g ≡ r.depth = ap (λ (b : Bool). pick b r.depth 1) (sym kind) in
    subst (λ (k : ℕ). get_or o' p 0 ≤ k) l (subst (λ (h : List ℕ). get_or h p 0 ≤ D.layers g) (sym e) (drawn_most t g p))

-- The slopes of the unpacked words are the tape's.
pub slopes_of_lem : {s : List ℕ} {r : Grid} {n : ℕ} → Draws true s (grid_in r true) n → {ws ws' : List ℕ} {k : ℕ}
    → Unpacked s ws ws' k → length ws' ≡ clause_limit → {o' : List ℕ} {p' : List ℤ} {c : ℕ} → TilesOf true s (grid_in r true) o' c
    → Shaded (take k ws') r o' p' → SlopesOf s (grid_in r true) o' p' c
unfolding picture
slopes_of_lem {s} {r} d o l v u =
    record {
      tiles = v;
      slopes = u.slopes (read_tape s).tape.slots (words_accepted d o l)
          ∙ ap₂ (λ (t : Tape) (h : List ℕ). slopes_of t (grid_in r true) h) (words_tape d o l) v.pixels;
    }
