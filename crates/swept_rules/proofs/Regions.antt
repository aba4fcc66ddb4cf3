-- A region with a tape and a list of positions that has the first cover of every pixel: a tile, what it keeps, its
-- parts, and what is drawn of them.
use mathlib.Core.Path.{◌≡◌, sym, ◌∙◌}
use mathlib.Core.Bool.{true}
use mathlib.Core.List.{List, [], ◌∷◌, ◌++◌}
use Prim.Native.Nat.{ℕ, zero, suc, ◌+◌, ◌≤◌, ◌<◌}
use native.Mathlib.Omega.{arith}
use lib.ListN.{length}
use Rattle.rules.specs.Values.{is_neg}
use Rattle.rules.specs.Tapes.{Tape, range_over, shortened}
use Rattle.rules.specs.Drawings.{Grid, sample_at, Region, box_of, Inside, InGrid}
use Rattle.rules.proofs.Runs.{Good}
use Rattle.rules.proofs.Short.{short_good}
use Rattle.rules.proofs.Regions.{Begins}
use Rattle.rules.proofs.Grids.{Sound, box_holds}
use Rattle.swept_rules.specs.Swept.{Offset, swept_at}
use Rattle.swept_rules.specs.Keeping.{Hull, hull_of, widened, hull_box, moved_box, position_at, numbers_from}
use Rattle.swept_rules.specs.Keeping.{first_in}
use Rattle.swept_rules.proofs.Paths.{AllStay}
use Rattle.swept_rules.proofs.Boxes.{Moves, region_moves}
use Rattle.swept_rules.proofs.Positions.{AllOf, AllMove, all_map, Hulls, hull_one, hull_more}
use Rattle.swept_rules.proofs.Positions.{whole_path_lem, Kept, kept_all, kept_first, short_first}
use Rattle.swept_rules.proofs.Positions.{first_covers}

-- A region that begins in the grid.
pub record Part (g : Grid) (r : Region) : Type 0 where
  pub begins : Begins g r
  pub long : 1 ≤ r.long

-- With the tape u and the positions ks each pixel (i, j) of the region r has the first cover f i j.
pub record Keeps (f : ℕ → ℕ → ℕ) (os : List Offset) (g : Grid) (r : Region) (u : Tape) (ks : List ℕ) : Type 0 where
  pub good : Good u
  pub in_path : AllOf (λ k. k < length os) ks
  pub same : (i j : ℕ) → Inside r i j 0 → InGrid g i j 0 → first_in u os (sample_at g i j 0) ks ≡ f i j

-- The first covers by a tape and all positions, and that a tile with these has them.
abbrev pub swept_by : Tape → List Offset → Grid → ℕ → ℕ → ℕ
swept_by t os g i j = swept_at t os (sample_at g i j 0)

numbers_below : (k n m : ℕ) → k + n ≤ m → AllOf (λ i. i < m) (numbers_from k n)
unfolding AllOf numbers_from
numbers_below k zero m l = tt
numbers_below k (suc n) m l = (omega arith, numbers_below (suc k) n m (omega arith))

pub tile_keeps : (t : Tape) → Good t → (os : List Offset) (g : Grid) (r : Region)
    → Keeps (swept_by t os g) os g r t (numbers_from 0 (length os))
tile_keeps t good os g r =
    record {
      good = good;
      in_path = numbers_below 0 (length os) (length os) (omega arith);
      same = λ i j h k. whole_path_lem t os (sample_at g i j 0);
    }

-- A part of a region has what the region has.
pub part_keeps : {f : ℕ → ℕ → ℕ} {os : List Offset} {g : Grid} {r q : Region} {u : Tape} {ks : List ℕ}
    → ((i j : ℕ) → Inside q i j 0 → Inside r i j 0) → Keeps f os g r u ks → Keeps f os g q u ks
part_keeps h c = record { good = c.good; in_path = c.in_path; same = λ i j m k. c.same i j (h i j m) k }

module _ {g : Grid} (a : Sound g) {os : List Offset} (st : AllStay g os) {r : Region} (p : Part g r) where
  -- Positions of the path move the region's box to values.
  pub all_move : (ks : List ℕ) → AllOf (λ k. k < length os) ks → AllMove (box_of g r) os ks
  all_move ks c =
      all_map (λ k. k < length os) (λ k. Moves (box_of g r) (hull_of (position_at os k)))
      (λ k l. region_moves (st.each k l) r p.begins p.long) ks c

  -- What may be kept may be handed down, and so may the tape shortened over a hull of the positions.
  pub kept_keeps : {f : ℕ → ℕ → ℕ} {u : Tape} {ks ls : List ℕ} → Kept u os (box_of g r) ks ls → Keeps f os g r u ks
      → Keeps f os g r u ls
  kept_keeps {f} {u} {ks} {ls} d c =
      record {
        good = c.good;
        in_path = kept_all (λ k. k < length os) d c.in_path;
        same = λ i j h k.
            kept_first c.good (box_holds a r i j 0 h k) os (all_move ks c.in_path) d ∙ c.same i j h k;
      }

  pub short_keeps : {f : ℕ → ℕ → ℕ} {u : Tape} {ks : List ℕ} {h : Hull} → Hulls (box_of g r) os h ks → Keeps f os g r u ks
      → Keeps f os g r (shortened u (hull_box (box_of g r) h)) ks
  short_keeps {f} {u} {ks} {h} d c =
      record {
        good = short_good u c.good (hull_box (box_of g r) h);
        in_path = c.in_path;
        same = λ i j m k.
            short_first c.good (box_holds a r i j 0 m k) os ks d.moves d.covers ∙ c.same i j m k;
      }

  -- A first position with its high end below 0 is the first cover of every pixel; where none is kept, none covers any.
  pub region_full : {f : ℕ → ℕ → ℕ} {u : Tape} (n : ℕ) (ks : List ℕ) → Keeps f os g r u (n ∷ ks)
      → is_neg (range_over u (moved_box (box_of g r) (position_at os n))).high ≡ true → (i j : ℕ) → Inside r i j 0
      → InGrid g i j 0 → f i j ≡ suc n
  unfolding AllOf
  region_full n ks c e i j h k =
      sym (c.same i j h k)
      ∙ first_covers c.good (box_holds a r i j 0 h k) os n ks
      (region_moves (st.each n c.in_path.0) r p.begins p.long) e

pub region_empty : {f : ℕ → ℕ → ℕ} {os : List Offset} {g : Grid} {r : Region} {u : Tape} → Keeps f os g r u [] → (i j : ℕ)
    → Inside r i j 0 → InGrid g i j 0 → f i j ≡ 0
unfolding first_in
region_empty c i j h k = sym (c.same i j h k)

-- A hull made once for a run of positions serves every region: widened position by position.
pub record RunHull (g : Grid) (os : List Offset) (h : Hull) (ks : List ℕ) : Type 0 where
  pub hulls : (r : Region) → Part g r → Hulls (box_of g r) os h ks

pub run_one : {g : Grid} {os : List Offset} → AllStay g os → (k : ℕ) → k < length os
    → RunHull g os (hull_of (position_at os k)) (k ∷ [])
run_one st k l = record { hulls = λ r p. hull_one k (region_moves (st.each k l) r p.begins p.long) }

pub run_more : {g : Grid} {os : List Offset} {h : Hull} → AllStay g os → (ks : List ℕ) (k : ℕ) → k < length os
    → RunHull g os h ks → RunHull g os (widened h (position_at os k)) (ks ++ (k ∷ []))
run_more st ks k l u =
    record { hulls = λ r p. hull_more ks k (u.hulls r p) (region_moves (st.each k l) r p.begins p.long) }
