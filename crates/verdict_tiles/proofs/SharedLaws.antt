-- A tile with the table: an unknown one is known once its entry is written, and then drawn as that says.
use mathlib.Core.Path.{◌≡◌, refl, sym, ap, ap₂, subst, ◌∙◌}
use mathlib.Core.Bool.{Bool, true, false}
use mathlib.Core.List.{List, [], ◌∷◌}
use Prim.Native.Nat.{ℕ, ◌+◌, ◌<◌, ◌≤◌}
use native.Mathlib.Omega.{arith}
use lib.Dec.{eqb}
use lib.ListN.{length}
use borrow.Author.Tests.{eqb-true, eqb-false}
use Rattle.rules.specs.Values.{pick}
use Rattle.rules.specs.Tapes.{Tape}
use Rattle.rules.specs.Accepted.{Accepted}
use Rattle.rules.specs.Drawings.{Grid, State, state, hidden, counted, visit}
use Rattle.code.specs.Words.{tape_in}
use Rattle.code.proofs.WordTapes.{length_clauses}
use Rattle.picture.specs.Shapes.{grid_in}
use Rattle.picture.specs.declared.grid.Grid as P
use Rattle.walk.specs.Walks.{Shown}
use Rattle.walk.proofs.Draws.{seen_flat}
use Rattle.table_rules.specs.Tables.{tile_limit, table_length, tile_of, entry_in, verdict_in, marks_in, entry_of, put_entry, entry_ok}
use Rattle.table_rules.specs.Tables.{known, shared, on_tile}
use Rattle.table_rules.proofs.Entries.{put_size, put_same, put_other}
use Rattle.table_rules.proofs.KeptMarks.{entry_of_size, entry_of_known, entry_of_draws, entry_of_ok}
use Rattle.table_rules.proofs.Verdicts.{visit_known, more}
use Rattle.verdict_entries.specs.Entries.{met_table, Met}
use Rattle.verdict_tiles.specs.Shares.{Passed, Passes, KnownDrawn, TileShared}

more_none : (s : State) → more 0 s ≡ s
more_none s = ap (state s.heights) (zero_more s.clauses)
  where
    zero_more : (n : ℕ) → n + 0 ≡ n
    zero_more n = omega arith

-- What a tile draws, by the table once it is met.
module _ (t : Tape) (a : Accepted t) (g : Grid) (i : ℕ) (l : i < tile_limit) (b : List ℕ) (long : length b ≡ table_length)
  where
    abbrev by_table : List ℕ → ℕ → State → State
    by_table u k s =
        known (verdict_in (entry_in i u)) (marks_in t (entry_in i u)) t g (tile_of g i) (more k s)

    pub tile_met : (s : State) → hidden g (tile_of g i) s.heights ≡ false
        → on_tile t g i (shared s b)
        ≡ shared (by_table (met_table t g i b) (pick (eqb (verdict_in (entry_in i b)) 0) (length t.clauses) 0) s)
        (met_table t g i b)
    unfolding on_tile
    tile_met s h = go (eqb (verdict_in (entry_in i b)) 0)
      where
        e : List ℕ
        e = entry_of t g (tile_of g i)

        written : List ℕ
        written = put_entry i e b

        here : entry_in i written ≡ e
        here = put_same i e b l (entry_of_size t a g (tile_of g i)) long

        drawn : visit (8 ∷ (1 ∷ [])) t g (tile_of g i) s ≡ by_table written (length t.clauses) s
        drawn =
            visit_known t g (tile_of g i) s h ∙ sym (entry_of_draws t a g (tile_of g i) (counted t s))
            ∙ ap (λ x. known (verdict_in x) (marks_in t x) t g (tile_of g i) (counted t s)) (sym here)

        go : (v : Bool)
            → pick v (shared (visit (8 ∷ (1 ∷ [])) t g (tile_of g i) s) written)
            (shared (known (verdict_in (entry_in i b)) (marks_in t (entry_in i b)) t g (tile_of g i) s) b)
            ≡ shared (by_table (pick v written b) (pick v (length t.clauses) 0) s) (pick v written b)
        go true = ap (λ x. shared x written) drawn
        go false =
            ap (λ x. shared (known (verdict_in (entry_in i b)) (marks_in t (entry_in i b)) t g (tile_of g i) x) b)
            (sym (more_none s))

    -- The table passes as before, and knows the tile.
    pub met_size : length (met_table t g i b) ≡ table_length
    met_size = go (eqb (verdict_in (entry_in i b)) 0)
      where
        go : (v : Bool) → length (pick v (put_entry i (entry_of t g (tile_of g i)) b) b) ≡ table_length
        go true = put_size i (entry_of t g (tile_of g i)) b l (entry_of_size t a g (tile_of g i)) long
        go false = long

    pub met_known : verdict_in (entry_in i (met_table t g i b)) ≡ 0 → ⊥
    met_known = go (eqb (verdict_in (entry_in i b)) 0) refl
      where
        go : (v : Bool) → eqb (verdict_in (entry_in i b)) 0 ≡ v
            → verdict_in (entry_in i (pick v (put_entry i (entry_of t g (tile_of g i)) b) b)) ≡ 0 → ⊥
        go true h z =
            eqb-false (verdict_in (entry_of t g (tile_of g i))) 0 (entry_of_known t a g (tile_of g i))
            (ap verdict_in (sym (put_same i (entry_of t g (tile_of g i)) b l (entry_of_size t a g (tile_of g i)) long)) ∙ z)
        go false h z = eqb-false (verdict_in (entry_in i b)) 0 h z

    pub met_entries : ((j : ℕ) → j < tile_limit → entry_ok t (entry_in j b) ≡ true) → (j : ℕ) → j < tile_limit
        → entry_ok t (entry_in j (met_table t g i b)) ≡ true
    met_entries f j m = go (eqb (verdict_in (entry_in i b)) 0) (eqb j i) refl
      where
        e : List ℕ
        e = entry_of t g (tile_of g i)

        size : length e ≡ 1537
        size = entry_of_size t a g (tile_of g i)

        go : (v w : Bool) → eqb j i ≡ w → entry_ok t (entry_in j (pick v (put_entry i e b) b)) ≡ true
        go false w h = f j m
        go true true h =
            ap (λ x. entry_ok t (entry_in x (put_entry i e b))) (eqb-true j i h)
            ∙ ap (entry_ok t) (put_same i e b l size long) ∙ entry_of_ok t a g (tile_of g i)
        go true false h = ap (entry_ok t) (put_other i e b l size long j m (eqb-false j i h)) ∙ f j m

-- The same of words and a picture.
module _ {whole : List ℕ} {grid : P.Grid} {i : ℕ} {b b' : List ℕ} {c : ℕ} (l : i < tile_limit)
    (m : Met whole grid i b b' c) where
  pub met_passed : (n : ℕ) → Passed n whole b → Passed n whole b'
  met_passed n p =
      let t = tape_in n whole in
      let g = grid_in grid false in
      subst (Passed n whole) (sym (m.table n p.accepted))
      (record {
        accepted = p.accepted;
        size = met_size t p.accepted g i l b p.size;
        entries = met_entries t p.accepted g i l b p.size p.entries;
      })

  pub met_passes : Passes whole b → Passes whole b'
  met_passes p = record { slots = p.slots; passed = met_passed p.slots p.passed }

  pub met_verdict : Passes whole b → verdict_in (entry_in i b') ≡ 0 → ⊥
  met_verdict q z =
      let p = q.passed in
      met_known (tape_in q.slots whole) p.accepted (grid_in grid false) i l b p.size
      (ap (λ x. verdict_in (entry_in i x)) (sym (m.table q.slots p.accepted)) ∙ z)

  pub met_bound : c ≤ length whole
  met_bound = go (eqb (verdict_in (entry_in i b)) 0) m.count
    where
      go : (v : Bool) → c ≡ pick v (length whole) 0 → c ≤ length whole
      go true e = omega arith
      go false e = omega arith

  module _ {o o' : List ℕ} {d : ℕ} (k : KnownDrawn whole grid i b' o o' d) where
    as_met : (n : ℕ) (p : Passed n whole b) (s : State) → Shown false grid o s.heights
        → on_tile (tape_in n whole) (grid_in grid false) i (shared s b)
        ≡ shared (by_table (tape_in n whole) p.accepted (grid_in grid false) i l b p.size b' c s) b'
    as_met n p s h =
        let t = tape_in n whole in
        let g = grid_in grid false in
        tile_met t p.accepted g i l b p.size s
        ((seen_flat (Shown false grid) g (tile_of g i) o refl).known s.heights h)
        ∙ ap₂ (λ u j. shared (known (verdict_in (entry_in i u)) (marks_in t (entry_in i u)) t g (tile_of g i) (more j s)) u)
        (sym (m.table n p.accepted))
        (sym (m.count ∙ ap (λ j. pick (eqb (verdict_in (entry_in i b)) 0) j 0) (sym (length_clauses whole))))

    pub tile_shared_lem : TileShared whole grid i b b' o o' (c + d)
    tile_shared_lem =
        record {
          shares = λ n p.
              (let w = k.draws n (met_passed n p) in
              record {
                shown = λ s h. rw (as_met n p s h) (w.shown (more c s) h);
                count = λ s h. rw (as_met n p s h) (omega (arith, w.count (more c s) h));
                table = λ s h. ap (λ u. u.table) (as_met n p s h);
              });
          passed = met_passed;
          bound = omega (arith, met_bound, k.bound);
        }
