-- The checks of the call in stages, its two ends, and that what the words draw, the tape draws.
use mathlib.Core.Path.{◌≡◌, refl, ap, ◌∙◌}
use mathlib.Core.Bool.{true}
use mathlib.Core.List.{List}
use Prim.Native.Nat.{ℕ}
use lib.ListN.{length, take, replicate}
use Rattle.rules.specs.Tapes.{read_tape, clause_limit}
use Rattle.rules.specs.Pictures.{picture}
use Rattle.order_rules.specs.Orders.{walked_in, order_lines}
use Rattle.order_rules.proofs.OrderCalls.{order_clear}
use Rattle.code.specs.Unpacking.{Unpacked}
use Rattle.picture.specs.Shapes.{grid_in}
use Rattle.picture.specs.declared.grid.Grid.{Grid}
use Rattle.answers.specs.declared.Answer.{Answer}
use Rattle.answers.specs.Lines.{Draws}
use Rattle.answers.specs.Says.{checked_by}
use Rattle.answers.proofs.Ends.{answer, as_it_came, overwritten, no_line, some_line, refused_by, done_by_lem}
use Rattle.promises.specs.Says.{OrderSays}
use Rattle.drawings.proofs.TapeWords.{words_accepted, words_tape}
use Rattle.order_drawing.specs.InOrder.{DrawsInOrder, WalkedInOrder, OrderOf}

module _ (s : List ℕ) (d : Grid) (ks o w : List ℕ) {r : Answer}
    (e : r ≡ checked_by (order_lines s (grid_in d true) ks (length o) (length w)) s) where
  abbrev lines : List ℕ
  lines = order_lines s (grid_in d true) ks (length o) (length w)

  pub order_refused : (r.number ≡ 0 → ⊥) → OrderSays s d ks o o w w r
  order_refused h =
      let g = grid_in d true in
      let k = some_line lines s e h in
      record {
        answer = refused_by s lines refl e h;
        pixels = as_it_came lines (picture true g (walked_in ks (read_tape s).tape g).heights) o k;
        work = as_it_came lines (replicate (length w) 0) w k;
      }

  pub order_draws : r.number ≡ 0 → DrawsInOrder s (grid_in d true) ks (length o) (length w)
  order_draws z =
      let c = order_clear s (grid_in d true) ks (length o) (length w) (no_line lines s e z) in
      record {
        tiles = record {
          drawing = record { read = c.read; grid = c.grid; size = c.picture };
          work = c.work;
        };
        list = c.list;
      }

  pub order_done : r.number ≡ 0 → {o' w' : List ℕ} {k : ℕ} {a : Answer} → a ≡ answer 0 0 k
      → OrderOf ks s (grid_in d true) o' k → w' ≡ replicate (length w) 0 → OrderSays s d ks o o' w w' a
  order_done z i v u =
      let y = no_line lines s e z in
      record {
        answer = done_by_lem lines i y v.count;
        pixels = overwritten lines o y v.pixels;
        work = overwritten lines w y u;
      }

-- What the words of an unpacked tape draw, the tape draws.
pub order_of : {s ks : List ℕ} {r : Grid} {n : ℕ} → Draws true s (grid_in r true) n → {ws ws' : List ℕ} {k : ℕ}
    → Unpacked s ws ws' k → length ws' ≡ clause_limit → {o' : List ℕ} {c : ℕ}
    → WalkedInOrder ks (take k ws') r o' c → OrderOf ks s (grid_in r true) o' c
order_of {s} {ks} {r} d o l v =
    let g = grid_in r true in
    let n = (read_tape s).tape.slots in
    let a = words_accepted d o l in
    record {
      pixels = v.pixels n a ∙ ap (λ b. picture true g (walked_in ks b g).heights) (words_tape d o l);
      count = v.count n a ∙ ap (λ b. (walked_in ks b g).clauses) (words_tape d o l);
    }
