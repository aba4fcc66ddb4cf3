-- A level of the way to a pixel: it stops at the region, or goes down with the short words.
use mathlib.Core.Path.{◌≡◌, sym, ap, subst, ◌∙◌}
use mathlib.Core.Bool.{true, false, and-false}
use mathlib.Core.List.{List, [], ◌∷◌}
use lib.IntN.{ℤ}
use Prim.Native.Nat.{ℕ, ◌-◌}
use lib.ListN.{length, take, drop}
use Rattle.rules.specs.Values.{is_neg, Sample, Range, range, Box}
use Rattle.rules.specs.Tapes.{range_over, value_at}
use Rattle.rules.specs.Drawings.{box_of, sample_at}
use Rattle.rules.specs.Accepted.{Accepted}
use Rattle.reason_rules.specs.Reasons.{holding, mixed, reason_from}
use Rattle.fixed.specs.Shapes.{range_in}
use Rattle.code.specs.Words.{clauses_in, tape_in}
use Rattle.code.specs.Runs.{Evaluated}
use Rattle.code.proofs.WordTapes.{length_clauses}
use Rattle.picture.specs.Shapes.{grid_in}
use Rattle.picture.specs.declared.grid.Grid.{Grid}
use Rattle.walk.specs.Cells.{CellOf, CellBox}
use Rattle.walk.specs.Verdicts.{IsFull, IsEmpty, IsMixed, CutOver}
use Rattle.walk.specs.Judges.{OutcomeOf, IsJudged}
use Rattle.walk.specs.Walks.{Level}
use Rattle.walk.specs.declared.cell.Cell.{Cell}
use Rattle.walk.specs.declared.judge.Judgement.{Judgement}
use Rattle.walk.specs.declared.judge.Outcome.{Outcome}
use Rattle.walk.specs.declared.judge.Outcome.TheVariants.{Full, Empty, Cut}
use Rattle.walk.proofs.LookLaws.{fit_of, short_again, short_kept, lent_words}
use Rattle.reason.specs.declared.stop.Stop.{Stop}
use Rattle.reason.specs.Stops.{stop_in, stop_of, JudgedAt, StopsAs}

-- What the verdict says of a range.
full_unmixed : (x : Range) → IsFull x → mixed x ≡ false
full_unmixed x f = rw f.high (and-false (is_neg x.low))

empty_unmixed : (x : Range) → IsEmpty x → mixed x ≡ false
empty_unmixed x f = rw f.low

is_mixed : (x : Range) → IsMixed x → mixed x ≡ true
is_mixed x f = rw (f.high, f.low)

same_stop : (n : ℕ) (ws : List ℕ) {x y : Range} → x ≡ y
    → stop_of n x (length ws) ≡ stop_of n y (length (clauses_in ws))
same_stop n ws {x} {y} e =
    ap (λ q. stop_of n q (length ws)) e ∙ ap (stop_of n y) (sym (length_clauses ws))

-- At side 1: the value twice.
pub stop_value : {ws : List ℕ} {grid : Grid} {i j n : ℕ} {s : Sample} {u v : ℤ} {r : Stop}
    → s ≡ sample_at (grid_in grid false) i j 0 → Evaluated ws s v → u ≡ v → stop_in r ≡ stop_of n (range u u) (length ws)
    → StopsAs [] n ws grid i j r
unfolding reason_from
stop_value {ws} {n = n} p e f h =
    record {
      figures = λ m a.
          h ∙ same_stop n ws (ap (λ z. range z z) (f ∙ e.value m a ∙ ap (value_at (tape_in m ws)) p));
    }

-- The judge over the box of a cell that is the region holding the pixel.
pub judged_at : {whole ws : List ℕ} {grid : Grid} {n i j : ℕ} {work next : List ℕ} {v : Judgement} {c : Cell} {b : Box}
    → CellOf 1 grid (holding n i j) c → CellBox false grid c b → IsJudged whole ws b (length whole) work next v
    → JudgedAt whole ws grid n i j work next v
judged_at {whole} {ws} {grid} {work = work} {next = next} {v = v} k h f =
    record {
      judged = subst (λ q. IsJudged whole ws q (length whole) work next v)
          (h.same ∙ ap (box_of (grid_in grid false)) k.same) f;
    }

-- The judge's words on the region of side n that holds the pixel.
module _ {whole ws : List ℕ} {grid : Grid} {n i j : ℕ} {work next : List ℕ} {v : Judgement}
    (k : JudgedAt whole ws grid n i j work next v) where
  range_is : (m : ℕ) → Accepted (tape_in m ws)
      → range_in v.range ≡ range_over (tape_in m ws) (box_of (grid_in grid false) (holding n i j))
  range_is m a = k.judged.range m (fit_of a)

  outcome_is : {o : Outcome} → v.outcome ≡ o
      → OutcomeOf whole ws (box_of (grid_in grid false) (holding n i j)) (range_in v.range) (length whole) work next o
  outcome_is e =
      subst
      (λ o. OutcomeOf whole ws (box_of (grid_in grid false) (holding n i j)) (range_in v.range) (length whole) work next o)
      e k.judged.outcome

  stops : mixed (range_in v.range) ≡ false → (b : ℕ) (bs : List ℕ) {r : Stop}
      → stop_in r ≡ stop_of n (range_in v.range) (length ws) → StopsAs (b ∷ bs) n ws grid i j r
  unfolding reason_from
  stops e b bs h =
      record {
        figures = λ m a.
            (let x = range_is m a in
            let f : mixed (range_over (tape_in m ws) (box_of (grid_in grid false) (holding n i j))) ≡ false = ap mixed (sym x) ∙ e in
            rw f (h ∙ same_stop n ws x));
      }

  module _ (b : ℕ) (bs : List ℕ) {r : Stop} where
    pub stop_full : v.outcome ≡ Full → stop_in r ≡ stop_of n (range_in v.range) (length ws)
        → StopsAs (b ∷ bs) n ws grid i j r
    stop_full e h = stops (full_unmixed (range_in v.range) (outcome_is e)) b bs h

    pub stop_empty : v.outcome ≡ Empty → stop_in r ≡ stop_of n (range_in v.range) (length ws)
        → StopsAs (b ∷ bs) n ws grid i j r
    stop_empty e h = stops (empty_unmixed (range_in v.range) (outcome_is e)) b bs h

  module _ {start : ℕ} (e : v.outcome ≡ Cut start) where
    pub is_cut : CutOver whole ws (box_of (grid_in grid false) (holding n i j)) (length whole) work next start
    is_cut = (outcome_is e).cut

    -- The short words, as the code lends them, are the next level's.
    pub short_level : Level whole ws → Level whole (take (length next - start) (drop start next))
    short_level l =
        rw (lent_words start next)
        (record {
          sound = record { slots = l.sound.slots; accepted = short_again is_cut l.sound.slots l.sound.accepted };
          kept = short_kept is_cut l;
        })

    pub goes_down : (b : ℕ) (bs : List ℕ) {r : Stop}
        → StopsAs bs b (take (length next - start) (drop start next)) grid i j r
        → StopsAs (b ∷ bs) n ws grid i j r
    unfolding reason_from
    goes_down b bs h =
        record {
          figures = λ m a.
              (let q = box_of (grid_in grid false) (holding n i j) in
              let f : mixed (range_over (tape_in m ws) q) ≡ true =
              ap mixed (sym (range_is m a)) ∙ is_mixed (range_in v.range) (outcome_is e).mixed in
              rw f
              ((rw (lent_words start next) at h).figures m (short_again is_cut m a)
              ∙ ap (λ t. reason_from bs b t (grid_in grid false) i j) (is_cut.short m (fit_of a))));
        }
