-- The loop over a rectangle's tiles: what is drawn so far, and what the tiles that are left will make of it.
use mathlib.Core.Path.{◌≡◌, refl, sym, ap, subst, ◌∙◌}
use mathlib.Core.Bool.{false}
use mathlib.Core.List.{List, [], ◌∷◌}
use Prim.Native.Nat.{ℕ, suc, ◌+◌, ◌*◌, ◌<◌, ◌≤◌}
use native.Mathlib.Omega.{arith}
use lib.ListN.{length, get_or, drop}
use lib.Seq.{drop-cons, drop-length}
use Rattle.rules.specs.Drawings as D
use Rattle.code.specs.Words.{tape_in}
use Rattle.picture.specs.Shapes.{grid_in}
use Rattle.picture.specs.declared.grid.Grid.{Grid}
use Rattle.walk.specs.Walks.{Shown}
use Rattle.table_rules.specs.Tables.{Shared, shared, on_tile, on_tiles, tiles_across, tiles_down}
use Rattle.table_rules.proofs.Numbers.{Rising}
use Rattle.verdict_tiles.specs.Shares.{Passed, Shares, TileShared, TileApart}
use Rattle.verdict_drawing.proofs.Numbering.{CleanFrom, clean_next}

-- Nothing; one after the other.
shares_none : (R : List ℕ → List ℕ → Type 0) (t b : List ℕ) → Shares R (λ u. u) t t b b 0
shares_none R t b = record { shown = λ s h. h; count = λ s h. omega arith; table = λ s h. refl }

shares_then : {R : List ℕ → List ℕ → Type 0} {f g : Shared → Shared} {t t₁ t₂ b b₁ b₂ : List ℕ} {c d : ℕ}
    → Shares R f t t₁ b b₁ c → Shares R g t₁ t₂ b₁ b₂ d → Shares R (λ u. g (f u)) t t₂ b b₂ (c + d)
shares_then {R} {f} {g} {t} {t₁} {t₂} {b} u v =
    record {
      shown = λ s h. rw (as_table s h) (v.shown (f (shared s t)).drawing (u.shown s h));
      count = λ s h.
          rw (as_table s h) (omega (arith, u.count s h, v.count (f (shared s t)).drawing (u.shown s h)));
      table = λ s h. rw (as_table s h) (v.table (f (shared s t)).drawing (u.shown s h));
    }
  where
    as_table : (s : D.State) → R b s.heights → f (shared s t) ≡ shared (f (shared s t)).drawing t₁
    as_table s h = ap (λ x. shared (f (shared s t)).drawing x) (u.table s h)

shares_count : {R : List ℕ → List ℕ → Type 0} {f : Shared → Shared} {t t' b b' : List ℕ} {c d : ℕ} → c ≡ d
    → Shares R f t t' b b' c → Shares R f t t' b b' d
shares_count e u = rw e at u

-- Before the tile with the place k in the list is.
pub record AtTile (whole : List ℕ) (grid : Grid) (is : List ℕ) (t₀ b₀ t b : List ℕ) (c k : ℕ) : Type 0 where
  pub within : k ≤ length is
  pub go_on : (n : ℕ) → Passed n whole t₀ → (t' b' : List ℕ) (d : ℕ)
      → Shares (Shown false grid) (on_tiles (tape_in n whole) (grid_in grid false) (drop k is)) t t' b b' d
      → Shares (Shown false grid) (on_tiles (tape_in n whole) (grid_in grid false) is) t₀ t' b₀ b' (c + d)
  pub passed : (n : ℕ) → Passed n whole t₀ → Passed n whole t
  pub low : ℕ
  pub rising : Rising low (tiles_across (grid_in grid false) * tiles_down (grid_in grid false)) (drop k is)
  pub clean : CleanFrom grid low b
  pub size : length b ≡ length b₀
  pub bound : c ≤ k * (D.flat_bound * length whole)

module _ {whole : List ℕ} {grid : Grid} {is t₀ b₀ : List ℕ} where
  pub tile_begins : Rising 0 (tiles_across (grid_in grid false) * tiles_down (grid_in grid false)) is → CleanFrom grid 0 b₀
      → AtTile whole grid is t₀ b₀ t₀ b₀ 0 0
  tile_begins r k =
      record {
        within = omega arith;
        go_on = λ n p t' b' d u. shares_count (omega arith) u;
        passed = λ n p. p;
        low = 0;
        rising = r;
        clean = k;
        size = refl;
        bound = omega arith;
      }

  module _ {t b : List ℕ} {c k : ℕ} (a : AtTile whole grid is t₀ b₀ t b c k) where
    pub tile_next : k < length is → drop k is ≡ get_or is k 0 ∷ drop (suc k) is
    tile_next h = drop-cons is k 0 h

    -- The tile's number, among those of the grid and not before.
    rises : k < length is
        → Rising a.low (tiles_across (grid_in grid false) * tiles_down (grid_in grid false)) (get_or is k 0 ∷ drop (suc k) is)
    rises h = subst (Rising a.low _) (tile_next h) a.rising

    pub number_from : k < length is → a.low ≤ get_or is k 0
    unfolding Rising
    number_from h = (rises h).0

    pub number_below : k < length is → get_or is k 0 < tiles_across (grid_in grid false) * tiles_down (grid_in grid false)
    unfolding Rising
    number_below h = (rises h).1

    later : k < length is → Rising (suc (get_or is k 0)) (tiles_across (grid_in grid false) * tiles_down (grid_in grid false))
        (drop (suc k) is)
    unfolding Rising
    later h = (rises h).2

    pub tile_again : (h : k < length is) {i : ℕ} → i ≡ get_or is k 0 → {t' b' : List ℕ} {d : ℕ}
        → TileShared whole grid i t t' b b' d → TileApart grid i b b' → length b' ≡ length b
        → AtTile whole grid is t₀ b₀ t' b' (c + d) (k + 1)
    unfolding on_tiles
    tile_again h {i} e {t'} {b'} {d} v apart l =
        let j : suc k ≡ k + 1 = omega arith in
        subst (AtTile whole grid is t₀ b₀ t' b' (c + d)) j
        (record {
          within = omega arith;
          go_on = λ n p t'' b'' m u. going n p t'' b'' m u;
          passed = λ n p. v.passed n (a.passed n p);
          low = suc (get_or is k 0);
          rising = later h;
          clean = subst (λ x. CleanFrom grid (suc x) b') e
              (clean_next a.clean (omega (arith, number_from h, e)) apart);
          size = l ∙ a.size;
          bound = omega (arith, a.bound, v.bound);
        })
      where
        going : (n : ℕ) → Passed n whole t₀ → (t'' b'' : List ℕ) (m : ℕ)
            → Shares (Shown false grid) (on_tiles (tape_in n whole) (grid_in grid false) (drop (suc k) is)) t' t'' b' b'' m
            → Shares (Shown false grid) (on_tiles (tape_in n whole) (grid_in grid false) is) t₀ t'' b₀ b'' (c + d + m)
        going n p t'' b'' m u =
            let x = tape_in n whole in
            let g = grid_in grid false in
            let first : Shares (Shown false grid) (on_tile x g (get_or is k 0)) t t' b b' d =
            subst (λ q. Shares (Shown false grid) (on_tile x g q) t t' b b' d) e (v.shares n (a.passed n p)) in
            let both : Shares (Shown false grid) (on_tiles x g (get_or is k 0 ∷ drop (suc k) is)) t t'' b b'' (d + m) =
            shares_then first u in
            shares_count (omega arith)
            (a.go_on n p t'' b'' (d + m)
            (subst (λ qs. Shares (Shown false grid) (on_tiles x g qs) t t'' b b'' (d + m)) (sym (tile_next h)) both))

    pub tile_done : length is ≤ k → (n : ℕ) → Passed n whole t₀
        → Shares (Shown false grid) (on_tiles (tape_in n whole) (grid_in grid false) is) t₀ t b₀ b c
    unfolding on_tiles
    tile_done h n p =
        let e : k ≡ length is = omega (arith, a.within) in
        let none : drop k is ≡ [] = ap (λ x. drop x is) e ∙ drop-length is in
        let x = tape_in n whole in
        let g = grid_in grid false in
        shares_count (omega arith)
        (a.go_on n p t b 0
        (subst (λ qs. Shares (Shown false grid) (on_tiles x g qs) t t b b 0) (sym none)
        (shares_none (Shown false grid) t b)))
