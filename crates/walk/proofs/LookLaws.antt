-- The cases of a look at a region, and what follows for its visit.
use mathlib.Core.Path.{◌≡◌, refl, sym, ap, subst, ◌∙◌}
use mathlib.Core.Bool.{Bool, true, false}
use mathlib.Core.List.{List, ◌∷◌}
use Prim.Native.Nat.{ℕ, suc, ◌+◌, ◌-◌, ◌*◌, ◌≤◌}
use native.Mathlib.Nat.{mul-le-mul_left}
use native.Mathlib.Omega.{arith}
use lib.ListN.{length, take, drop, length-drop}
use lib.Seq.{take_all}
use Rattle.rules.specs.Values.{is_neg, Range, Box}
use Rattle.rules.specs.Tapes.{clause_limit, range_over}
use Rattle.rules.specs.Drawings.{Region, box_of, fold, visit, children, along_y, along_z, grid_fault}
use Rattle.rules.specs.Accepted.{Accepted}
use Rattle.rules.proofs.Short.{short_length}
use Rattle.rules.proofs.ShortAccepted.{short_accepted}
use Rattle.fixed.specs.Shapes.{range_in}
use Rattle.code.specs.Words.{tape_in, Runnable}
use Rattle.code.specs.Runs.{Fit, BoxOk}
use Rattle.shortening.specs.Kept.{Kept}
use Rattle.code.proofs.WordTapes.{words_run, words_runnable, length_clauses}
use Rattle.picture.specs.Shapes.{grid_in}
use Rattle.picture.specs.declared.grid.Grid.{Grid}
use Rattle.walk.specs.Cells.{ForBox, CellOf, region_in, CellBox}
use Rattle.walk.specs.Draws.{Draws, Fills, Hidden}
use Rattle.walk.specs.Verdicts.{IsMixed, CutOver}
use Rattle.walk.specs.Judges.{ForJudge, OutcomeOf, IsJudged}
use Rattle.walk.specs.Walks.{Sound, Level, Shown, Visits, Folds, ForLook, Finished, Opened, Looked}
use Rattle.walk.specs.declared.cell.Cell.{Cell}
use Rattle.walk.specs.declared.look.Seen.{Seen}
use Rattle.walk.specs.declared.look.Seen.TheVariants.{Done, Open}
use Rattle.walk.specs.declared.judge.Judgement.{Judgement}
use Rattle.walk.specs.declared.judge.Outcome.{Outcome}
use Rattle.walk.specs.declared.judge.Outcome.TheVariants.{Full, Empty, Cut}
use Rattle.walk.proofs.CellLaws.{cell_layers, cell_rows}
use Rattle.walk.proofs.Draws.{draws_count, draws_hidden, draws_full, draws_empty, draws_cut}

-- Words of an accepted tape.
pub fit_of : {n : ℕ} {ws : List ℕ} → Accepted (tape_in n ws) → Fit n ws
fit_of {n} {ws} a = record { slots = a.slots; all = words_run n ws a }

pub sound_runs : {ws : List ℕ} → Sound ws → Runnable ws
sound_runs {ws} s = words_runnable s.slots ws s.accepted

pub sound_length : {ws : List ℕ} → Sound ws → length ws ≤ clause_limit
sound_length {ws} s = omega (arith, s.accepted.clauses, length_clauses ws)

-- What a look hands on: its cell, whose box is made, and with that box the judge.
module _ {isSolid : Bool} {whole ws : List ℕ} {grid : Grid} {c : Cell} {b work next : List ℕ} {base : ℕ}
    (p : ForLook isSolid whole ws grid c b work base next) where
  pub look_cell : ForBox isSolid grid c
  look_cell = record { fault = p.ready.fault; ok = p.cell }

  pub look_judge : {box : Box} → BoxOk box → ForJudge whole ws box work base next
  look_judge k = record { level = p.level; box = k; marks = p.marks; words = p.words }

module _ (isSolid : Bool) {ws : List ℕ} {grid : Grid} {r : Region} {b : List ℕ} where
  pub done_hidden : Hidden (Shown isSolid grid) (grid_in grid isSolid) r b true → Finished isSolid ws grid r b b 0
  done_hidden e = record { draws = λ n ns m a. draws_hidden e (n ∷ ns) (tape_in m ws); bound = omega arith }

-- A region that is seen, and judged over its box.
module _ (isSolid : Bool) {whole ws : List ℕ} {grid : Grid} {c : Cell} {b work next : List ℕ} {box : Box} {base : ℕ}
    {j : Judgement} (k : CellBox isSolid grid c box)
    (e : Hidden (Shown isSolid grid) (grid_in grid isSolid) (region_in c) b false)
    (v : IsJudged whole ws box base work next j) where
  over_region : IsJudged whole ws (box_of (grid_in grid isSolid) (region_in c)) base work next j
  over_region = rw k.same at v

  range_of_lem : (m : ℕ) → Fit m ws
      → range_in j.range ≡ range_over (tape_in m ws) (box_of (grid_in grid isSolid) (region_in c))
  range_of_lem m a = over_region.range m a

  outcome_of : {o : Outcome} → j.outcome ≡ o
      → OutcomeOf whole ws (box_of (grid_in grid isSolid) (region_in c)) (range_in j.range) base work next o
  outcome_of h =
      subst
      (λ o. OutcomeOf whole ws (box_of (grid_in grid isSolid) (region_in c)) (range_in j.range) base work next o)
      h over_region.outcome

  high_of : {t : Bool} (m : ℕ) → Accepted (tape_in m ws) → is_neg j.range.high ≡ t
      → is_neg (range_over (tape_in m ws) (box_of (grid_in grid isSolid) (region_in c))).high ≡ t
  high_of m a h = ap (λ (y : Range). is_neg y.high) (sym (range_of_lem m (fit_of a))) ∙ h

  low_of : {t : Bool} (m : ℕ) → Accepted (tape_in m ws) → is_neg j.range.low ≡ t
      → is_neg (range_over (tape_in m ws) (box_of (grid_in grid isSolid) (region_in c))).low ≡ t
  low_of m a h = ap (λ (y : Range). is_neg y.low) (sym (range_of_lem m (fit_of a))) ∙ h

  pub done_full : {b' : List ℕ} → j.outcome ≡ Full
      → Fills (Shown isSolid grid) (grid_in grid isSolid) (region_in c) b b'
      → Finished isSolid ws grid (region_in c) b b' (length ws)
  done_full h u =
      record {
        draws = λ n ns m a.
            draws_count (length_clauses ws)
            (draws_full e (tape_in m ws) n ns (high_of m a (outcome_of h).high) u);
        bound = omega arith;
      }

  pub done_empty : j.outcome ≡ Empty → Finished isSolid ws grid (region_in c) b b (length ws)
  done_empty h =
      record {
        draws = λ n ns m a.
            draws_count (length_clauses ws)
            (draws_empty e (tape_in m ws) n ns (high_of m a (outcome_of h).high) (low_of m a (outcome_of h).low));
        bound = omega arith;
      }

  pub opened : {start : ℕ} → j.outcome ≡ Cut start
      → Opened isSolid whole ws grid (region_in c) b b base work next start
  opened h =
      record {
        same = refl;
        seen = e;
        mixed = λ n a. subst IsMixed (range_of_lem n a) (outcome_of h).mixed;
        cut = (outcome_of h).cut;
      }

-- What the look says, once it is known whether the region is done.
module _ (isSolid : Bool) (whole ws : List ℕ) (grid : Grid) (r : Region) (b b' : List ℕ) (base : ℕ)
    (work next : List ℕ) {v : Seen} (j : Looked isSolid whole ws grid r b b' base work next v) where
  pub done_of : {c : ℕ} → v ≡ Done c → Finished isSolid ws grid r b b' c
  done_of e = subst (λ u. Looked isSolid whole ws grid r b b' base work next u) e j

  pub open_of : {m : ℕ} → v ≡ Open m → Opened isSolid whole ws grid r b b' base work next m
  open_of e = subst (λ u. Looked isSolid whole ws grid r b b' base work next u) e j

-- Done without its children: at most one run is counted.
pub done_visits : {isSolid : Bool} {ws : List ℕ} {grid : Grid} {q r : Region} {b b' : List ℕ} {c : ℕ} (k n : ℕ)
    (ns : List ℕ)
    → q ≡ r → 1 ≤ k → Finished isSolid ws grid q b b' c → Visits isSolid k ws grid (n ∷ ns) r b b' c
done_visits {ws = ws} k n ns e h f =
    rw (← e)
    (record { draws = λ m a. f.draws n ns m a; bound = omega (arith, f.bound, mul-le-mul_left (length ws) h) })

-- The words from start on, as the code lends them.
pub lent_words : (start : ℕ) (next : List ℕ) → take (length next - start) (drop start next) ≡ drop start next
lent_words start next = take_all (length next - start) (drop start next) (rw length-drop (omega arith))

-- After a cut over any box: what the words had as an accepted tape and as kept of the whole tape, the short words have.
module _ {whole ws work next : List ℕ} {b : Box} {base start : ℕ} (k : CutOver whole ws b base work next start) where
  pub short_again : (n : ℕ) → Accepted (tape_in n ws) → Accepted (tape_in n (drop start next))
  short_again n a = subst Accepted (sym (k.short n (fit_of a))) (short_accepted (tape_in n ws) a b)

  pub short_kept : Level whole ws → Kept whole (drop start next)
  short_kept l =
      let s = l.sound in
      record { marks = _; kept = k.kept s.slots (fit_of s.accepted) l.kept.marks l.kept.kept }

  pub short_fewer : Sound ws → length (drop start next) ≤ length ws
  short_fewer s =
      omega (
        arith,
        length_clauses (drop start next),
        length_clauses ws,
        ap (λ t. length t.clauses) (k.short s.slots (fit_of s.accepted)),
        short_length (tape_in s.slots ws) b,
      )

-- After a cut: the short words are sound and no more than the region's, and visiting the children with them is the rest
-- of the visit. If at most k runs are counted of the children, at most k + 1 are of the region.
module _ {isSolid : Bool} {whole ws : List ℕ} {grid : Grid} {q : Region} {b b₁ work next : List ℕ}
    {base start : ℕ} (s : Sound ws) (o : Opened isSolid whole ws grid q b b₁ base work next start) where
  pub open_sound : Sound (take (length next - start) (drop start next))
  open_sound =
      rw (lent_words start next) (record { slots = s.slots; accepted = short_again o.cut s.slots s.accepted })

  pub open_fewer : length (take (length next - start) (drop start next)) ≤ length ws
  open_fewer = rw (lent_words start next) (short_fewer o.cut s)

  cut_visits : (n : ℕ) (ns : List ℕ) (k : ℕ) {c : ℕ} {qs : List Region} {b' : List ℕ}
      → children (grid_in grid isSolid) q n ≡ qs
      → Folds isSolid k (drop start next) grid ns qs b₁ b' c
      → Visits isSolid (suc k) ws grid (n ∷ ns) q b b' (length ws + c)
  cut_visits n ns k {c} {qs} {b'} h f =
      record {
        draws = λ m a.
            (let x = o.mixed m (fit_of a) in
            let g = grid_in grid isSolid in
            let short = tape_in m (drop start next) in
            let u : Draws (Shown isSolid grid) (fold (λ p y. visit ns short g p y) (children g q n)) b b' c =
            rw (h, ← o.same) (f.draws m (short_again o.cut m a)) in
            draws_count (omega (arith, length_clauses ws))
            (draws_cut o.seen (tape_in m ws) n ns x.high x.low (rw (o.cut.short m (fit_of a)) at u)));
        bound = omega (arith, f.bound, mul-le-mul_left k (short_fewer o.cut s));
      }

  pub open_visits : {r : Region} (n : ℕ) (ns : List ℕ) (k : ℕ) {c : ℕ} {qs : List Region} {b' : List ℕ} → q ≡ r
      → children (grid_in grid isSolid) q n ≡ qs
      → Folds isSolid k (take (length next - start) (drop start next)) grid ns qs b₁ b' c
      → Visits isSolid (suc k) ws grid (n ∷ ns) r b b' (length ws + c)
  open_visits n ns k e h f = rw (← e) (cut_visits n ns k h (rw (lent_words start next) at f))

-- The short words, as the code lends them, are the next level's.
pub open_level : {isSolid : Bool} {whole ws : List ℕ} {grid : Grid} {q : Region} {b b₁ work next : List ℕ}
    {base start : ℕ} → Level whole ws → Opened isSolid whole ws grid q b b₁ base work next start
    → Level whole (take (length next - start) (drop start next))
open_level {next = next} {start = start} l o =
    record { sound = open_sound l.sound o; kept = rw (lent_words start next) (short_kept o.cut l) }

-- The same of a cell whose children are l layers, or l rows, of side n.
module _ {whole ws : List ℕ} {grid : Grid} {cell : Cell} {r : Region} {b b₁ work next : List ℕ} {base start : ℕ}
    (n l : ℕ) (s : Sound ws)
    (some : 1 ≤ n) (some_part : 1 ≤ l) (parts : r.long ≡ l * n) where
  pub open_layers : CellOf grid.depth grid r cell → grid_fault true (grid_in grid true) ≡ 0
      → Opened true whole ws grid (region_in cell) b b₁ base work next start
      → (ns : List ℕ) (k : ℕ) {c : ℕ} {b' : List ℕ}
      → Folds true k (take (length next - start) (drop start next)) grid ns
      (along_z l l cell.x cell.y cell.z n cell.xend cell.yend cell.zend) b₁ b' c
      → Visits true (suc k) ws grid (n ∷ ns) r b b' (length ws + c)
  open_layers d e o ns k f =
      open_visits s o n ns k d.same
      (cell_layers grid cell n l some some_part (ap (λ (q : Region). q.long) d.same ∙ parts) d.ok e) f

  pub open_rows : CellOf 1 grid r cell → Opened false whole ws grid (region_in cell) b b₁ base work next start
      → (ns : List ℕ) (k : ℕ) {c : ℕ} {b' : List ℕ}
      → Folds false k (take (length next - start) (drop start next)) grid ns
      (along_y l l cell.x cell.y 0 n cell.xend cell.yend) b₁ b' c
      → Visits false (suc k) ws grid (n ∷ ns) r b b' (length ws + c)
  open_rows d o ns k f =
      open_visits s o n ns k d.same
      (cell_rows grid cell n l some some_part (ap (λ (q : Region). q.long) d.same ∙ parts) d.ok) f
