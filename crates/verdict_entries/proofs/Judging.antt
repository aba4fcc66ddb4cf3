-- The judge's word on a tile as the entry says it, and the table once a tile is met.
use mathlib.Core.Path.{◌≡◌, refl, sym, ap, ap₂, subst, ◌∙◌}
use mathlib.Core.Bool.{Bool, true, false}
use mathlib.Core.List.{List, [], ◌∷◌}
use Prim.Native.Nat.{ℕ, ◌+◌, ◌-◌, ◌≤◌}
use native.Mathlib.Omega.{arith}
use lib.Dec.{eqb}
use lib.ListN.{length, get_or, take, drop, replicate, length-take}
use borrow.Author.Tests.{eqb-true, eq-eqb, ne_eqb}
use Rattle.rules.specs.Values.{pick, is_neg, Range, Box}
use Rattle.rules.specs.Accepted.{Accepted}
use Rattle.rules.specs.Marks.{mark_bytes, marks_over}
use Rattle.rules.specs.Drawings.{box_of}
use Rattle.fixed.specs.Shapes.{range_in}
use Rattle.code.specs.Words.{tape_in}
use Rattle.code.proofs.WordTapes.{length_clauses}
use Rattle.shortening.specs.Kept as K
use Rattle.picture.specs.Shapes.{grid_in}
use Rattle.picture.specs.declared.grid.Grid.{Grid}
use Rattle.walk.specs.Cells.{region_in, CellBox}
use Rattle.walk.specs.Judges.{OutcomeOf, IsJudged}
use Rattle.walk.specs.Walks.{Level}
use Rattle.walk.specs.declared.cell.Cell.{Cell}
use Rattle.walk.specs.declared.judge.Judgement.{Judgement}
use Rattle.walk.specs.declared.judge.Outcome.{Outcome}
use Rattle.walk.specs.declared.judge.Outcome.TheVariants.{Full, Empty, Cut}
use Rattle.walk.proofs.LookLaws.{fit_of}
use Rattle.plate_tiles.specs.Tiles.{IsTile}
use Rattle.table_rules.specs.Tables.{entry_at, padded, tile_of, entry_in, verdict_in, verdict_of, tile_marks, entry_of, put_entry}
use Rattle.table_rules.proofs.Entries.{entry_byte_lem}
use Rattle.verdict_entries.specs.Entries.{over, VerdictOn, Met}
use Rattle.verdict_entries.proofs.KeptEntry.{given_kept}

module _ {whole : List ℕ} {grid : Grid} {c : Cell} {work next : List ℕ} {box : Box} {j : Judgement}
    (k : CellBox false grid c box) (v : IsJudged whole whole box (length whole) work next j) where
  abbrev place : Box
  place = box_of (grid_in grid false) (region_in c)

  over_region : IsJudged whole whole place (length whole) work next j
  over_region = rw k.same at v

  outcome_of : {o : Outcome} → j.outcome ≡ o
      → OutcomeOf whole whole place (range_in j.range) (length whole) work next o
  outcome_of h =
      subst (λ o. OutcomeOf whole whole place (range_in j.range) (length whole) work next o) h
      over_region.outcome

  said : (high low : Bool) → is_neg (range_in j.range).high ≡ high → is_neg (range_in j.range).low ≡ low → (n : ℕ)
      → Accepted (tape_in n whole)
      → pick high 1 (pick low 3 2) ≡ verdict_of (tape_in n whole) (grid_in grid false) (region_in c)
  unfolding verdict_of
  said high low h l n a =
      sym
      (ap (λ (x : Range). pick (is_neg x.high) 1 (pick (is_neg x.low) 3 2)) (sym (over_region.range n (fit_of a)))
      ∙ ap₂ (λ x y. pick x 1 (pick y 3 2)) h l)

  pub says_full : j.outcome ≡ Full → VerdictOn whole grid (region_in c) work 1
  says_full h =
      record {
        verdict = λ n a. said true (is_neg (range_in j.range).low) (outcome_of h).high refl n a;
        marks = λ e. absurd (omega arith);
      }

  pub says_empty : j.outcome ≡ Empty → VerdictOn whole grid (region_in c) work 2
  says_empty h =
      record {
        verdict = λ n a. said false false (outcome_of h).high (outcome_of h).low n a;
        marks = λ e. absurd (omega arith);
      }

  pub says_cut : Level whole whole → {start : ℕ} → j.outcome ≡ Cut start → VerdictOn whole grid (region_in c) work 3
  unfolding tile_marks
  says_cut l h =
      let o = outcome_of h in
      record {
        verdict = λ n a. said false true o.mixed.high o.mixed.low n a;
        marks = λ e n a.
            o.cut.bytes n (fit_of a) (replicate (length whole) 1) (given_kept l)
            ∙ ap (λ i. mark_bytes (marks_over (tape_in n whole) (replicate i 1) place)) (sym (length_clauses whole));
      }

-- What is written is the true entry.
module _ {whole : List ℕ} {grid : Grid} {i : ℕ} {c : Cell} (t : IsTile grid i c) {work : List ℕ} {v : ℕ}
    (d : VerdictOn whole grid (region_in c) work v) where
  region_of : region_in c ≡ tile_of (grid_in grid false) i
  unfolding tile_of
  region_of = t.cell.same

  marks_part : (n : ℕ) → Accepted (tape_in n whole)
      → take (pick (eqb v 3) (K.mark_room (length whole)) 0) (drop (length whole) work)
      ≡ pick (eqb v 3) (mark_bytes (tile_marks (tape_in n whole) (grid_in grid false) (region_in c))) []
  marks_part n a = go (eqb v 3) refl
    where
      go : (b : Bool) → eqb v 3 ≡ b → take (pick b (K.mark_room (length whole)) 0) (drop (length whole) work)
          ≡ pick b (mark_bytes (tile_marks (tape_in n whole) (grid_in grid false) (region_in c))) []
      go true e = d.marks (eqb-true v 3 e) n a
      go false e = refl

  entry_said : (n : ℕ) → Accepted (tape_in n whole)
      → v ∷ padded (take (pick (eqb v 3) (K.mark_room (length whole)) 0) (drop (length whole) work))
      ≡ entry_of (tape_in n whole) (grid_in grid false) (region_in c)
  unfolding entry_of
  entry_said n a =
      ap (λ bs. v ∷ padded bs) (marks_part n a)
      ∙ ap (λ x. x ∷ padded (pick (eqb x 3) (mark_bytes (tile_marks (tape_in n whole) (grid_in grid false) (region_in c))) []))
      (d.verdict n a)

  pub entry_written : {a end : ℕ} (b : List ℕ) {b' : List ℕ} → a ≡ entry_at i
      → end ≡ length whole + pick (eqb v 3) (K.mark_room (length whole)) 0
      → b' ≡ over a (v ∷ padded (take (end - length whole) (drop (length whole) work))) b → (n : ℕ)
      → Accepted (tape_in n whole)
      → b' ≡ put_entry i (entry_of (tape_in n whole) (grid_in grid false) (tile_of (grid_in grid false) i)) b
  unfolding put_entry
  entry_written {a} {end} b e f s n q =
      let m : end - length whole ≡ pick (eqb v 3) (K.mark_room (length whole)) 0 = omega arith in
      s
      ∙ ap₂ (λ x y. over x (v ∷ padded (take y (drop (length whole) work))) b) e m
      ∙ ap (λ x. over (entry_at i) x b) (entry_said n q)
      ∙ ap (λ r. over (entry_at i) (entry_of (tape_in n whole) (grid_in grid false) r) b) region_of

-- A tile that is met.
module _ {whole : List ℕ} {grid : Grid} {i : ℕ} {b : List ℕ} where
  pub met_known : (verdict_in (entry_in i b) ≡ 0 → ⊥) → Met whole grid i b b 0
  met_known h =
      let e = ne_eqb (verdict_in (entry_in i b)) 0 h in record { table = λ n a. rw e; count = rw e }

  pub met_unknown : {b' : List ℕ} → verdict_in (entry_in i b) ≡ 0
      → ((n : ℕ) → Accepted (tape_in n whole)
      → b' ≡ put_entry i (entry_of (tape_in n whole) (grid_in grid false) (tile_of (grid_in grid false) i)) b)
      → Met whole grid i b b' (length whole)
  met_unknown h w =
      let e = eq-eqb (verdict_in (entry_in i b)) 0 h in record { table = λ n a. rw e (w n a); count = rw e }

-- Its verdict, as the table has it; and the room of its marks.
pub verdict_at : (i a : ℕ) (b : List ℕ) → a ≡ entry_at i → verdict_in (entry_in i b) ≡ get_or b a 0
verdict_at i a b e =
    let d : entry_at i + 0 ≡ a = omega arith in
    entry_byte_lem i b 0 (omega arith) ∙ ap (λ x. get_or b x 0) d

pub room_most : (t : Bool) (m r : ℕ) → r ≡ pick t m 0 → r ≤ m
room_most true m r e = omega arith
room_most false m r e = omega arith

pub part_most : (n m k : ℕ) (work : List ℕ) → k ≤ m → length (take (n + k - n) (drop n work)) ≤ m
part_most n m k work h = omega (arith, length-take (n + k - n) (drop n work))
