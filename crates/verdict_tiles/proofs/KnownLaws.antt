-- A known tile: the words that its entry keeps, and what its verdict draws.
use mathlib.Core.Path.{◌≡◌, refl, sym, ap, subst, ◌∙◌}
use mathlib.Core.Bool.{Bool, true, false, ◌||◌, not}
use mathlib.Core.List.{List, [], ◌∷◌}
use Prim.Native.Nat.{ℕ, ◌+◌, ◌-◌, ◌*◌, ◌<◌, ◌≤◌}
use native.Mathlib.Nat.{mul-le-mul_left}
use native.Mathlib.Omega.{arith}
use lib.Dec.{leb}
use lib.ListN.{length, take, drop}
use borrow.Author.Tests.{leb-true, eq-eqb}
use Rattle.rules.specs.Tapes.{Tape}
use Rattle.rules.specs.Accepted.{Accepted}
use Rattle.rules.specs.Marks.{kept_by, kept_tape}
use Rattle.rules.specs.Drawings.{Region, grid_fault, children, fold, fill_in, visit}
use Rattle.rules.proofs.Tests.{and_left, and_right}
use Rattle.code.specs.Words.{tape_in, clauses_in}
use Rattle.code.proofs.WordTapes.{length_clauses}
use Rattle.shortening.proofs.KeptLaws.{kept_within}
use Rattle.picture.specs.Parts.{Blank, Apart}
use Rattle.picture.specs.Shapes.{grid_in}
use Rattle.picture.specs.declared.grid.Grid.{Grid}
use Rattle.picture.proofs.PartLaws.{apart_part}
use Rattle.walk.specs.Cells.{region_in}
use Rattle.walk.specs.Children.{children_in}
use Rattle.walk.specs.Draws.{Draws, Fills}
use Rattle.walk.specs.Walks.{Level, Shown, Folds}
use Rattle.walk.specs.declared.cell.Cell.{Cell}
use Rattle.walk.proofs.ChildLaws.{children_in_lem}
use Rattle.walk.proofs.Draws.{draws_none, draws_same}
use Rattle.walk.proofs.LookLaws.{lent_words}
use Rattle.flat_eights.specs.Sides.{below8}
use Rattle.plate_tiles.specs.Tiles.{IsTile}
use Rattle.plate_tiles.proofs.TileNumbers.{tile_side}
use Rattle.table_rules.specs.Tables.{tile_limit, entry_at, tile_of, entry_in, verdict_in, marks_from, marks_in, kept_ok, entry_ok, known}
use Rattle.table_rules.proofs.Passed.{kept_accepted}
use Rattle.verdict_entries.specs.Entries.{entry_from, KeptFrom}
use Rattle.verdict_tiles.specs.Shares.{Passed, TileBlank, TileApart, KnownDrawn}
use Rattle.verdicts.specs.Verdicts.{byte_of}
use Rattle.verdicts.specs.declared.verdict.Verdict.{Verdict}
use Rattle.verdicts.specs.declared.verdict.Verdict.TheVariants as V

-- A verdict that is known, and neither full nor empty.
pub kept_three : (v : Verdict) → (v ≡ V.Full → ⊥) → (v ≡ V.Empty → ⊥) → (byte_of v ≡ 0 → ⊥) → byte_of v ≡ 3
kept_three V.Unknown f e n = absurd (n refl)
kept_three V.Full f e n = absurd (f refl)
kept_three V.Empty f e n = absurd (e refl)
kept_three V.Kept f e n = refl

-- What an entry that passes says.
module _ {n : ℕ} {whole table : List ℕ} (p : Passed n whole table) {i : ℕ} (l : i < tile_limit) where
  pub verdict_most : verdict_in (entry_in i table) ≤ 3
  unfolding entry_ok
  verdict_most =
      leb-true (verdict_in (entry_in i table)) 3 (and_left (leb (verdict_in (entry_in i table)) 3) _ (p.entries i l))

  pub kept_passed : verdict_in (entry_in i table) ≡ 3
      → Accepted (kept_tape (tape_in n whole) (marks_in (tape_in n whole) (entry_in i table)))
  unfolding entry_ok
  kept_passed v =
      let t = tape_in n whole in
      let e = entry_in i table in
      kept_accepted t (marks_in t e) p.accepted
      (three (kept_ok t (marks_in t e))
      (ap (λ x. not x || kept_ok t (marks_in t e)) (sym (eq-eqb (verdict_in e) 3 v))
      ∙ and_right (leb (verdict_in e) 3) _ (p.entries i l)))
    where
      three : (b : Bool) → (not true || b) ≡ true → b ≡ true
      three b k = k

-- The words that an entry keeps are its kept tape.
module _ {whole entry next : List ℕ} {start : ℕ} (k : KeptFrom whole entry next start) where
  pub kept_words_tape : (n : ℕ) → tape_in n (drop start next) ≡ kept_tape (tape_in n whole) (marks_in (tape_in n whole) entry)
  kept_words_tape n =
      ap (λ cs. record { slots = n; clauses = cs })
      (k.kept.clauses ∙ ap (λ m. kept_by (clauses_in whole) (marks_from entry 0 m)) (sym (length_clauses whole)))

  pub kept_level : (n : ℕ) → Accepted (kept_tape (tape_in n whole) (marks_in (tape_in n whole) entry))
      → Level whole (take (length next - start) (drop start next))
  kept_level n a =
      rw (lent_words start next)
      (record {
        sound = record { slots = n; accepted = subst Accepted (sym (kept_words_tape n)) a };
        kept = record { marks = marks_from entry 0 (length whole); kept = k.kept };
      })

-- The entry of a tile, by where it stands.
pub kept_in_lem : {whole next : List ℕ} {start : ℕ} (i a : ℕ) (table : List ℕ) → a ≡ entry_at i
    → KeptFrom whole (entry_from a table) next start
    → KeptFrom whole (entry_in i table) next start
unfolding entry_in
kept_in_lem {whole} {next} {start} i a table e k = subst (λ x. KeptFrom whole (entry_from x table) next start) e k

-- A tile's place.
module _ {grid : Grid} {i : ℕ} {c : Cell} (t : IsTile grid i c) where
  pub tile_region : region_in c ≡ tile_of (grid_in grid false) i
  unfolding tile_of
  tile_region = t.cell.same

  pub tile_blank : {b : List ℕ} → TileBlank grid i b → Blank grid.width c.x (c.x + 64) c.y (c.y + 64) b
  tile_blank k =
      rw (ap (λ (q : Region). q.i) t.cell.same, ap (λ (q : Region). q.j) t.cell.same) k

  pub tile_apart_lem : {b b' : List ℕ} → Apart grid.width c.x (c.x + 64) c.y (c.y + 64) b b'
      → TileApart grid i b b'
  tile_apart_lem k =
      rw (ap (λ (q : Region). q.i) t.cell.same, ap (λ (q : Region). q.j) t.cell.same) at k

  pub cell_apart : {b b' : List ℕ} → Apart grid.width c.x c.xend c.y c.yend b b' → TileApart grid i b b'
  cell_apart k =
      let x = t.cell.ok.xs.in_side in
      let y = t.cell.ok.ys.in_side in
      tile_apart_lem (apart_part (omega (arith, tile_side t, x, y)) k)

-- What the verdict draws.
module _ {whole table : List ℕ} {grid : Grid} {i : ℕ} {c : Cell} (t : IsTile grid i c) {b : List ℕ} where
  pub draws_full : {b' : List ℕ} → verdict_in (entry_in i table) ≡ 1
      → Fills (Shown false grid) (grid_in grid false) (region_in c) b b' → KnownDrawn whole grid i table b b' 0
  unfolding known
  draws_full v f =
      record {
        draws = λ n p.
            draws_same {f = λ s. fill_in (grid_in grid false) (region_in c) s}
            (λ s h. rw v (ap (λ r. fill_in (grid_in grid false) r s) (sym (tile_region t))))
            (record { shown = λ s h. f.shown s.heights h; count = λ s h. omega arith });
        bound = omega arith;
      }

  pub draws_nothing : verdict_in (entry_in i table) ≡ 2 → KnownDrawn whole grid i table b b 0
  unfolding known
  draws_nothing v =
      record { draws = λ n p. draws_same (λ s h. rw v) (draws_none (Shown false grid) b); bound = omega arith }

  pub draws_kept : {b' next : List ℕ} {start k : ℕ} → i < tile_limit → grid_fault false (grid_in grid false) ≡ 0
      → verdict_in (entry_in i table) ≡ 3
      → KeptFrom whole (entry_in i table) next start
      → Folds false (64 * 65) (take (length next - start) (drop start next)) grid below8 (children_in c 8) b b' k
      → KnownDrawn whole grid i table b b' k
  unfolding known
  draws_kept {b'} {next} {start} {k} l fault three w f =
      let e = entry_in i table in
      let g = grid_in grid false in
      let h : Folds false (64 * 65) (drop start next) grid below8 (children_in c 8) b b' k = rw (lent_words start next) at f in
      record {
        draws = λ n p.
            (let u = kept_tape (tape_in n whole) (marks_in (tape_in n whole) e) in
            let a : Accepted (tape_in n (drop start next)) =
            subst Accepted (sym (kept_words_tape w n)) (kept_passed p l three) in
            let d : Draws (Shown false grid) (fold (λ q y. visit (1 ∷ []) u g q y) (children_in c 8)) b b' k =
            subst (λ (z : Tape). Draws (Shown false grid) (fold (λ q y. visit (1 ∷ []) z g q y) (children_in c 8)) b b' k)
            (kept_words_tape w n) (h.draws n a) in
            draws_same
            (λ s y. rw three (ap (λ qs. fold (λ q z. visit (1 ∷ []) u g q z) qs s) parts)) d);
        bound = omega (arith, h.bound, mul-le-mul_left (64 * 65) (kept_within w.kept));
      }
    where
      parts : children (grid_in grid false) (tile_of (grid_in grid false) i) 8 ≡ children_in c 8
      parts =
          ap (λ r. children (grid_in grid false) r 8) (sym (tile_region t))
          ∙ children_in_lem false grid c 8 8 (omega arith) (omega arith) (tile_side t) fault t.cell.ok
