-- The count of a turn by numbers alone: each tile's part of the walk's sum does not depend on the others, and the tiles
-- that a table knows are those of the rectangles drawn before.
use mathlib.Core.Path.{◌≡◌, refl, sym, ap, ap₂, subst, ◌∙◌}
use mathlib.Core.Bool.{Bool, true, false, ◌||◌, not, false≢true, true≢false}
use mathlib.Core.Logic.{inl, inr}
use mathlib.Core.List.{List, [], ◌∷◌, map}
use Prim.Native.Nat.{ℕ, suc, ◌+◌, ◌*◌, ◌<◌, ◌≤◌}
use native.Mathlib.Omega.{arith}
use native.Mathlib.Decide.{ℕ_discrete}
use lib.Dec.{eqb}
use lib.ListN.{length}
use borrow.Author.Tests.{eq-eqb, ne_eqb}
use Rattle.rules.specs.Values.{pick, is_neg}
use Rattle.rules.specs.Tapes.{Tape, material, range_over, read_tape, is_in}
use Rattle.rules.specs.Drawings.{Grid, solid, sample_at, Region, box_of, State, state, hidden, children, fold, counted}
use Rattle.rules.specs.Drawings.{fill_in, short_tape, visit}
use Rattle.rules.proofs.Accepted.{accepted_tape}
use Rattle.rules.proofs.Regions.{Fits}
use Rattle.rules.proofs.Visit.{visit_full, visit_empty, visit_cut, visit_sample, sample_full, sample_empty}
use Rattle.order_rules.specs.Orders.{cleared, total}
use Rattle.table_rules.specs.Tables.{entry_length, tile_limit, zeros, begun, tiles_across, tiles_down, tile_of}
use Rattle.table_rules.specs.Tables.{entry_in, verdict_in, entry_of, put_entry, shared, on_tile, on_tiles, tape_room}
use Rattle.table_rules.specs.Tables.{Rectangle, tiles_in, turn}
use Rattle.table_rules.specs.Turns.{TrueEntry, Truthful, known_in, tile_part, Knows, count_in}
use Rattle.table_rules.proofs.Entries.{put_same, put_other}
use Rattle.table_rules.proofs.KeptMarks.{entry_of_size, entry_of_known}
use Rattle.table_rules.proofs.Heads.{begun_entry}
use Rattle.table_rules.proofs.Numbers.{Rising, InTiles, entries_enough, tiles_rising}
use Rattle.table_rules.proofs.Verdicts.{more, visit_more}
use Rattle.table_rules.proofs.Drawn.{never_hidden, tile_unknown, tile_known, put_truthful, tiles_turned}

-- In a flat picture what a visit counts does not depend on the heights.
module _ (g : Grid) (flat : solid g ≡ false) where
  fold_count : (f : Region → State → State)
      → ((q : Region) (s y : State) → s.clauses ≡ y.clauses → (f q s).clauses ≡ (f q y).clauses)
      → (qs : List Region) (s y : State) → s.clauses ≡ y.clauses → (fold f qs s).clauses ≡ (fold f qs y).clauses
  unfolding fold
  fold_count f h [] s y e = e
  fold_count f h (q ∷ qs) s y e = fold_count f h qs (f q s) (f q y) (h q s y e)

  pub same_count : (ns : List ℕ) (t : Tape) (r : Region) (s y : State) → s.clauses ≡ y.clauses
      → (visit ns t g r s).clauses ≡ (visit ns t g r y).clauses
  same_count [] t r s y e = go (material t (sample_at g r.i r.j r.k)) refl
    where
      full : (m : State) → material t (sample_at g r.i r.j r.k) ≡ true
          → visit [] t g r m ≡ fill_in g r (counted t m)
      full m h = visit_sample t g r m (never_hidden g flat r m.heights) ∙ sample_full t g r m h

      empty : (m : State) → material t (sample_at g r.i r.j r.k) ≡ false → visit [] t g r m ≡ counted t m
      empty m h = visit_sample t g r m (never_hidden g flat r m.heights) ∙ sample_empty t g r m h

      go : (b : Bool) → material t (sample_at g r.i r.j r.k) ≡ b
          → (visit [] t g r s).clauses ≡ (visit [] t g r y).clauses
      go true h =
          ap (λ m. m.clauses) (full s h) ∙ ap (λ c. c + length t.clauses) e ∙ sym (ap (λ m. m.clauses) (full y h))
      go false h =
          ap (λ m. m.clauses) (empty s h) ∙ ap (λ c. c + length t.clauses) e
          ∙ sym (ap (λ m. m.clauses) (empty y h))
  same_count (n ∷ ns) t r s y e =
      go (is_neg (range_over t (box_of g r)).high) refl (is_neg (range_over t (box_of g r)).low) refl
      (fold_count (λ q z. visit ns (short_tape t g r) g q z) (λ q z m k. same_count ns (short_tape t g r) q z m k)
      (children g r n) (counted t s) (counted t y) (ap (λ c. c + length t.clauses) e))
    where
      off : (m : State) → hidden g r m.heights ≡ false
      off m = never_hidden g flat r m.heights

      go : (b : Bool) → is_neg (range_over t (box_of g r)).high ≡ b
          → (c : Bool) → is_neg (range_over t (box_of g r)).low ≡ c
          → (fold (λ q z. visit ns (short_tape t g r) g q z) (children g r n) (counted t s)).clauses
          ≡ (fold (λ q z. visit ns (short_tape t g r) g q z) (children g r n) (counted t y)).clauses
          → (visit (n ∷ ns) t g r s).clauses ≡ (visit (n ∷ ns) t g r y).clauses
      go true h c l f =
          ap (λ m. m.clauses) (visit_full n ns t g r s (off s) h) ∙ ap (λ c. c + length t.clauses) e
          ∙ sym (ap (λ m. m.clauses) (visit_full n ns t g r y (off y) h))
      go false h true l f =
          ap (λ m. m.clauses) (visit_cut n ns t g r s (off s) h l) ∙ f
          ∙ sym (ap (λ m. m.clauses) (visit_cut n ns t g r y (off y) h l))
      go false h false l f =
          ap (λ m. m.clauses) (visit_empty n ns t g r s (off s) h l) ∙ ap (λ c. c + length t.clauses) e
          ∙ sym (ap (λ m. m.clauses) (visit_empty n ns t g r y (off y) h l))

  part_added : (t : Tape) (i : ℕ) (s : State)
      → (visit (8 ∷ (1 ∷ [])) t g (tile_of g i) s).clauses ≡ s.clauses + tile_part t g i
  unfolding tile_part
  part_added t i s =
      same_count (8 ∷ (1 ∷ [])) t (tile_of g i) s (more s.clauses (state [] 0)) (zero_plus s.clauses)
      ∙ ap (λ m. m.clauses) (visit_more (8 ∷ (1 ∷ [])) t g (tile_of g i) s.clauses (state [] 0))
      ∙ swap (tile_part t g i) s.clauses
    where
      zero_plus : (a : ℕ) → a ≡ 0 + a
      zero_plus a = omega arith

      swap : (a b : ℕ) → a + b ≡ b + a
      swap a b = omega arith

  pub parts_added : (t : Tape) (is : List ℕ) (s : State)
      → (fold (λ r z. visit (8 ∷ (1 ∷ [])) t g r z) (map (tile_of g) is) s).clauses
      ≡ s.clauses + total (map (tile_part t g) is)
  unfolding fold total
  parts_added t [] s = omega arith
  parts_added t (i ∷ is) s =
      omega (arith, parts_added t is (visit (8 ∷ (1 ∷ [])) t g (tile_of g i) s), part_added t i s)

-- Newly begun it knows none.
unknown_first : eqb (verdict_in (zeros entry_length)) 0 ≡ true
unfolding zeros
unknown_first = refl

pub begun_knows : (s : List ℕ) (g : Grid) → length s ≤ tape_room → Knows (begun s g) (λ i. false)
begun_knows s g h =
    record { says = λ i k. ap (λ e. eqb (verdict_in e) 0) (begun_entry s g h i k) ∙ unknown_first }

module _ (s : List ℕ) (good : (read_tape s).number ≡ 0) (g : Grid) (flat : solid g ≡ false) (fits : Fits g) where
  abbrev tape : Tape
  tape = (read_tape s).tape

  abbrev tiles : ℕ
  tiles = tiles_across g * tiles_down g

  has_entry : (i : ℕ) → i < tiles → i < tile_limit
  has_entry i h = omega (arith, entries_enough g fits)

  -- How many of a rectangle's tiles it knows.
  pub known_count : (b : List ℕ) (K : ℕ → Bool) → Knows b K → (k : ℕ) (is : List ℕ) → Rising k tiles is
      → known_in b is ≡ count_in K is
  unfolding known_in count_in Rising
  known_count b K f k [] r = refl
  known_count b K f k (i ∷ is) r =
      ap₂ (λ t c. pick t c (suc c)) (f.says i (has_entry i r.1)) (known_count b K f (suc i) is r.2)
      ∙ turned (K i) (count_in K is)
    where
      turned : (t : Bool) (c : ℕ) → pick (not t) c (suc c) ≡ pick t (suc c) c
      turned true c = refl
      turned false c = refl

  tile_truthful : (i : ℕ) → i < tiles → (y : State) (b : List ℕ) → Truthful s g b
      → Truthful s g (on_tile tape g i (shared y b)).table
  tile_truthful i h y b f = by (f.entries i (has_entry i h))
    where
      by : TrueEntry tape g i (entry_in i b) → Truthful s g (on_tile tape g i (shared y b)).table
      by (inl a) =
          subst (λ u. Truthful s g u.table) (sym (tile_unknown s good g flat fits i y b a))
          (put_truthful s good g flat fits i b h f)
      by (inr a) = subst (λ u. Truthful s g u.table) (sym (tile_known s good g flat fits i y b a.1)) f

  -- After a turn it knows the rectangle's tiles besides.
  tile_known_after : (i : ℕ) (y : State) (b : List ℕ) (K : ℕ → Bool) → i < tiles → Truthful s g b → Knows b K
      → Knows (on_tile tape g i (shared y b)).table (λ j. eqb j i || K j)
  tile_known_after i y b K h f k = by (f.entries i (has_entry i h))
    where
      e : List ℕ
      e = entry_of tape g (tile_of g i)

      n : length e ≡ entry_length
      n = entry_of_size tape (accepted_tape s good) g (tile_of g i)

      known_e : eqb (verdict_in e) 0 ≡ false
      known_e = entry_of_known tape (accepted_tape s good) g (tile_of g i)

      one : (t : Bool) → t ≡ true → (m : Bool) → false ≡ not (t || m)
      one true d m = refl
      one false d m = absurd (false≢true d)

      other : (t : Bool) → t ≡ false → (m : Bool) → not m ≡ not (t || m)
      other true d m = absurd (true≢false d)
      other false d m = refl

      written : (j : ℕ) → j < tile_limit → Dec (j ≡ i)
          → eqb (verdict_in (entry_in j (put_entry i e b))) 0 ≡ not (eqb j i || K j)
      written j l (yes d) =
          ap (λ x. eqb (verdict_in (entry_in x (put_entry i e b))) 0) d
          ∙ ap (λ x. eqb (verdict_in x) 0) (put_same i e b (has_entry i h) n f.size) ∙ known_e
          ∙ one (eqb j i) (eq-eqb j i d) (K j)
      written j l (no d) =
          ap (λ x. eqb (verdict_in x) 0) (put_other i e b (has_entry i h) n f.size j l d) ∙ k.says j l
          ∙ other (eqb j i) (ne_eqb j i d) (K j)

      stays : entry_in i b ≡ e → (j : ℕ) → j < tile_limit → Dec (j ≡ i)
          → eqb (verdict_in (entry_in j b)) 0 ≡ not (eqb j i || K j)
      stays a j l (yes d) =
          ap (λ x. eqb (verdict_in (entry_in x b)) 0) d ∙ ap (λ x. eqb (verdict_in x) 0) a ∙ known_e
          ∙ one (eqb j i) (eq-eqb j i d) (K j)
      stays a j l (no d) = k.says j l ∙ other (eqb j i) (ne_eqb j i d) (K j)

      by : TrueEntry tape g i (entry_in i b) → Knows (on_tile tape g i (shared y b)).table (λ j. eqb j i || K j)
      by (inl a) =
          subst (λ u. Knows u.table (λ j. eqb j i || K j)) (sym (tile_unknown s good g flat fits i y b a))
          (record { says = λ j l. written j l (ℕ_discrete j i) })
      by (inr a) =
          subst (λ u. Knows u.table (λ j. eqb j i || K j)) (sym (tile_known s good g flat fits i y b a.1))
          (record { says = λ j l. stays a.1 j l (ℕ_discrete j i) })

  pub tiles_known_after : (is : List ℕ) (k : ℕ) → Rising k tiles is → (y : State) (b : List ℕ) (K : ℕ → Bool)
      → Truthful s g b → Knows b K → Knows (on_tiles tape g is (shared y b)).table (λ j. is_in j is || K j)
  unfolding on_tiles Rising is_in
  tiles_known_after [] k r y b K f n = record { says = λ i h. n.says i h }
  tiles_known_after (i ∷ is) k r y b K f n =
      let u = on_tile tape g i (shared y b) in
      let m = tiles_known_after is (suc i) r.2 u.drawing u.table (λ j. eqb j i || K j)
      (tile_truthful i r.1 y b f) (tile_known_after i y b K r.1 f n) in
      record { says = λ j h. m.says j h ∙ ap not (order (is_in j is) (eqb j i) (K j)) }
    where
      order : (a c d : Bool) → (a || (c || d)) ≡ ((c || a) || d)
      order true true d = refl
      order true false d = refl
      order false true d = refl
      order false false d = refl

  -- The count of a turn: the parts of the rectangle's tiles, less one run of the tape for each that was known.
  pub turn_count : (q : Rectangle) → InTiles g q → (b : List ℕ) (K : ℕ → Bool) → Truthful s g b → Knows b K
      → (turn tape g q b).drawing.clauses + count_in K (tiles_in g q) * length tape.clauses
      ≡ total (map (tile_part tape g) (tiles_in g q))
  unfolding turn
  turn_count q i b K f n =
      let r = tiles_rising g q i in
      let u = tiles_turned s good g flat fits (tiles_in g q) 0 r (cleared g) b f in
      ap (λ c. (turn tape g q b).drawing.clauses + c * length tape.clauses)
      (sym (known_count b K n 0 (tiles_in g q) r))
      ∙ u.count ∙ parts_added g flat tape (tiles_in g q) (cleared g)
      ∙ zero_plus (total (map (tile_part tape g) (tiles_in g q)))
    where
      zero_plus : (a : ℕ) → 0 + a ≡ a
      zero_plus a = omega arith

  pub turn_knows : (q : Rectangle) → InTiles g q → (b : List ℕ) (K : ℕ → Bool) → Truthful s g b → Knows b K
      → Knows (turn tape g q b).table (λ j. is_in j (tiles_in g q) || K j)
  unfolding turn
  turn_knows q i b K f n = tiles_known_after (tiles_in g q) 0 (tiles_rising g q i) (cleared g) b K f n

  pub turn_truthful : (q : Rectangle) → InTiles g q → (b : List ℕ) → Truthful s g b
      → Truthful s g (turn tape g q b).table
  unfolding turn
  turn_truthful q i b f =
      (tiles_turned s good g flat fits (tiles_in g q) 0 (tiles_rising g q i) (cleared g) b f).table
