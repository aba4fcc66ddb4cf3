-- The words of an unpacked tape: how many, that they run, and that what they draw is what the tape draws.
use mathlib.Core.Path.{◌≡◌, sym, ap, ◌∙◌}
use mathlib.Core.Bool.{Bool}
use mathlib.Core.List.{List}
use Prim.Native.Nat.{ℕ, ◌≤◌}
use native.Mathlib.Omega.{arith}
use lib.ListN.{length, take, replicate}
use lib.Seq.{length-take-le}
use Rattle.rules.specs.Tapes.{read_tape, clause_limit}
use Rattle.rules.specs.Drawings as D
use Rattle.rules.specs.Pictures.{picture}
use Rattle.rules.specs.Accepted.{Accepted}
use Rattle.rules.proofs.Accepted.{accepted_tape}
use Rattle.code.specs.Words.{tape_in, places_from}
use Rattle.code.specs.Unpacking.{Unpackable, Unpacked}
use Rattle.code.proofs.WordTapes.{words_runnable, unpacked_tape, unpacked_accepted}
use Rattle.picture.specs.Shapes.{grid_in}
use Rattle.picture.specs.declared.grid.Grid.{Grid}
use Rattle.full_drawing.specs.Full.{Drawable, FullDrawn}
use Rattle.shortening.proofs.KeptLaws.{whole_is_kept}
use Rattle.walk.specs.Walks.{Sound, Level, Walked}
use Rattle.answers.specs.Lines.{Draws}
use Rattle.drawings.specs.Drawn.{FullOf, TilesOf}

-- An accepted tape has room in as many words as any tape may have clauses.
pub unpackable : {t : Bool} {s : List ℕ} {g : D.Grid} {n : ℕ} → Draws t s g n → (ws : List ℕ)
    → length ws ≡ clause_limit → Unpackable s ws
unpackable {s = s} d ws l = record { accepted = d.read; room = omega (arith, (accepted_tape s d.read).clauses) }

-- The words of a tape that is accepted and unpacked: how many, and that they run.
module _ {t : Bool} {s : List ℕ} {g : D.Grid} {n : ℕ} (d : Draws t s g n) {ws ws' : List ℕ} {k : ℕ}
    (o : Unpacked s ws ws' k) (l : length ws' ≡ clause_limit) where
  pub words_room : k ≤ length ws'
  words_room = omega (arith, o.count, (accepted_tape s d.read).clauses)

  pub words_few : length (take k ws') ≤ clause_limit
  words_few = omega (arith, length-take-le k ws' words_room, o.count, (accepted_tape s d.read).clauses)

  pub words_accepted : Accepted (tape_in (read_tape s).tape.slots (take k ws'))
  words_accepted = unpacked_accepted s ws ws' k o d.read

  pub words_tape : tape_in (read_tape s).tape.slots (take k ws') ≡ (read_tape s).tape
  words_tape = unpacked_tape s ws ws' k o

  pub drawable : Drawable t (take k ws') g
  drawable =
      record {
        runnable = words_runnable (read_tape s).tape.slots (take k ws') words_accepted;
        accepted = d.grid;
      }

  pub sound : Sound (take k ws')
  sound = record { slots = (read_tape s).tape.slots; accepted = words_accepted }

  -- They are the tape as given, each word at its own place.
  pub whole_level : Level (take k ws') (take k ws')
  whole_level =
      let e : k ≡ length (take k ws') = sym (length-take-le k ws' words_room) in
      record {
        sound = sound;
        kept = whole_is_kept (take k ws') words_few
            (o.tags ∙ ap (λ (j : ℕ). places_from 0 (replicate j 1)) e);
      }

  -- What these words draw, the tape draws.
  pub full_of : {o' : List ℕ} {c : ℕ} → FullDrawn t (take k ws') g o' c → FullOf t s g o' c
  full_of v =
      let n = (read_tape s).tape.slots in
      record {
        pixels = v.pixels n words_accepted ∙ ap (λ a. picture t g (D.drawn a g)) words_tape;
        count = v.clauses n words_accepted ∙ ap (λ a. D.full_count a g) words_tape;
      }

pub tiles_of : {t : Bool} {s : List ℕ} {r : Grid} {n : ℕ} → Draws t s (grid_in r t) n → {ws ws' : List ℕ} {k : ℕ}
    → Unpacked s ws ws' k → length ws' ≡ clause_limit → {o' : List ℕ} {c : ℕ} → Walked t (take k ws') r o' c
    → TilesOf t s (grid_in r t) o' c
tiles_of {t} {s} {r} d o l v =
    let g = grid_in r t in
    let n = (read_tape s).tape.slots in
    record {
      pixels = v.pixels n (words_accepted d o l) ∙ ap (λ b. picture t g (D.walked b g).heights) (words_tape d o l);
      count = v.count n (words_accepted d o l) ∙ ap (λ b. (D.walked b g).clauses) (words_tape d o l);
    }
