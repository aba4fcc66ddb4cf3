-- The slopes of a picture, pixel by pixel: three numbers for each, found at their place in the list.
use mathlib.Core.Path.{◌≡◌, refl, sym, ap, ap₂, ◌∙◌}
use mathlib.Core.Bool.{Bool, true, false}
use mathlib.Core.List.{List, [], ◌∷◌, ◌++◌, map}
use lib.IntN.{ℤ, pos}
use Prim.Native.Nat.{ℕ, zero, suc, ◌+◌, ◌*◌, ◌<◌, ◌≤◌}
use native.Mathlib.Nat.{mul-le-mul_right}
use native.Mathlib.Omega.{arith}
use lib.Dec.{eqb}
use lib.ListN.{length, get_or, set, take, drop, replicate, take-append-drop, drop_of_length-le, length-set}
use lib.ListN.{length-replicate, length-append, get_or-append}
use lib.Seq.{drop-cons, drop-drop, get_or-set_same, get_or-set_other, get_or-append-add}
use borrow.Author.Tests.{eqb-true, eqb-false}
use Rattle.rules.specs.Tapes.{Tape}
use Rattle.rules.specs.Drawings.{Grid, solid, sample_at, grid_fault, layers, Region, box_of, whole, short_after}
use Rattle.rules.specs.Drawings.{InWalk, last_in, Inside, InGrid}
use Rattle.rules.specs.Slopes.{Slopes, slopes_at, listed, three_at, pixel_slopes, row_slopes, rows_slopes, slopes_of}
use Rattle.rules.specs.Slopes.{VisibleSlopes}
use Rattle.rules.proofs.Runs.{Good}
use Rattle.rules.proofs.Algebra.{of_replicate}
use Rattle.rules.proofs.Heights.{same_pixel}
use Rattle.rules.proofs.Nested.{around_in_walk}
use Rattle.rules.proofs.Slopes.{same_slopes_in_walk}

-- The list b has each pixel's slopes at the height that h has for it.
pub record ShowSlopes (t : Tape) (g : Grid) (h : List ℕ) (b : List ℤ) : Type 0 where
  pub size : length b ≡ 3 * (g.height * g.width)
  pub pixel : (i j : ℕ) → i < g.width → j < g.height
      → three_at b (j * g.width + i) ≡ pixel_slopes t g i j (get_or h (j * g.width + i) 0)

-- From a pixel on: its three numbers, and those from the next pixel on.
from_pixel : (b : List ℤ) (p n : ℕ) → 3 * p + 2 < length b
    → take (3 * suc n) (drop (3 * p) b) ≡ three_at b p ++ take (3 * n) (drop (3 * suc p) b)
from_pixel b p n h =
    ap₂ (λ (m : ℕ) (l : List ℤ). take m l) count
    (drop-cons b (3 * p) (pos 0) (omega arith)
    ∙ ap (λ (l : List ℤ). get_or b (3 * p) (pos 0) ∷ l)
    (ap (λ (m : ℕ). drop m b) one ∙ drop-cons b (3 * p + 1) (pos 0) (omega arith)
    ∙ ap (λ (l : List ℤ). get_or b (3 * p + 1) (pos 0) ∷ l)
    (ap (λ (m : ℕ). drop m b) two ∙ drop-cons b (3 * p + 2) (pos 0) h
    ∙ ap (λ (m : ℕ). get_or b (3 * p + 2) (pos 0) ∷ drop m b) three)))
  where
    count : 3 * suc n ≡ suc (suc (suc (3 * n)))
    count = omega arith

    one : suc (3 * p) ≡ 3 * p + 1
    one = omega arith

    two : suc (3 * p + 1) ≡ 3 * p + 2
    two = omega arith

    three : suc (3 * p + 2) ≡ 3 * suc p
    three = omega arith

module _ (t : Tape) (g : Grid) (h : List ℕ) (b : List ℤ) (s : ShowSlopes t g h b) where
  -- A pixel's place lies in the list.
  in_list : (i j : ℕ) → i < g.width → j < g.height → 3 * (j * g.width + i) + 2 < length b
  in_list i j k l =
      let m : suc j * g.width ≤ g.height * g.width = mul-le-mul_right g.width l in
      omega (arith, s.size)

  row_shown : (n i j : ℕ) → i + n ≤ g.width → j < g.height
      → take (3 * n) (drop (3 * (j * g.width + i)) b) ≡ row_slopes n i j t g h
  unfolding row_slopes
  row_shown zero i j k l = refl
  row_shown (suc n) i j k l =
      from_pixel b (j * g.width + i) n (in_list i j (omega arith) l)
      ∙ ap₂ (λ (x y : List ℤ). x ++ y) (s.pixel i j (omega arith) l)
      (ap (λ (p : ℕ). take (3 * n) (drop (3 * p) b)) next ∙ row_shown n (suc i) j (omega arith) l)
    where
      next : suc (j * g.width + i) ≡ j * g.width + suc i
      next = omega arith

  rows_shown : (n j : ℕ) → j + n ≡ g.height → drop (3 * (j * g.width)) b ≡ rows_slopes n j t g h
  unfolding rows_slopes
  rows_shown zero j e = drop_of_length-le b last
    where
      all : g.height ≡ j
      all = omega arith

      last : length b ≤ 3 * (j * g.width)
      last = omega (arith, s.size ∙ ap (λ (m : ℕ). 3 * (m * g.width)) all)
  rows_shown (suc n) j e =
      sym (take-append-drop (3 * g.width) (drop (3 * (j * g.width)) b))
      ∙ ap₂ (λ (x y : List ℤ). x ++ y)
      (ap (λ (p : ℕ). take (3 * g.width) (drop (3 * p) b)) first
      ∙ row_shown g.width 0 j (omega arith) (omega arith))
      (drop-drop (3 * g.width) (3 * (j * g.width)) b
      ∙ ap (λ (m : ℕ). drop m b) next
      ∙ rows_shown n (suc j) (omega arith))
    where
      first : j * g.width ≡ j * g.width + 0
      first = omega arith

      next : 3 * (j * g.width) + 3 * g.width ≡ 3 * (suc j * g.width)
      next = omega arith

  pub slopes_shown : b ≡ slopes_of t g h
  unfolding slopes_of
  slopes_shown = ap (λ (m : ℕ). drop m b) none ∙ rows_shown g.height 0 (omega arith)
    where
      none : 0 ≡ 3 * (0 * g.width)
      none = omega arith

-- All slopes are 0 where all heights are.
three : {x y z x' y' z' : ℤ} → x ≡ x' → y ≡ y' → z ≡ z' → x ∷ (y ∷ (z ∷ [])) ≡ x' ∷ (y' ∷ (z' ∷ []))
three {x} {y} {z} {x'} {y'} {z'} e f h =
    ap₂ (λ (a b : ℤ). a ∷ (b ∷ (z ∷ []))) e f ∙ ap (λ (c : ℤ). x' ∷ (y' ∷ (c ∷ []))) h

pub shown_blank : (t : Tape) (g : Grid) (n : ℕ)
    → ShowSlopes t g (replicate n 0) (replicate (3 * (g.height * g.width)) (pos 0))
shown_blank t g n =
    record {
      size = length-replicate (3 * (g.height * g.width)) (pos 0);
      pixel = λ i j _ _. three (none _) (none _) (none _)
          ∙ ap (λ (k : ℕ). pixel_slopes t g i j k) (sym (of_replicate (λ k. k ≡ 0) 0 n refl (j * g.width + i)));
    }
  where
    none : (m : ℕ) → get_or (replicate (3 * (g.height * g.width)) (pos 0)) m (pos 0) ≡ pos 0
    none m = of_replicate (λ z. z ≡ pos 0) (pos 0) (3 * (g.height * g.width)) refl m

-- A pixel that gets the height k + 1 gets the slopes of its sample k.
abbrev put_one : List ℤ → ℕ → Slopes → List ℤ
put_one b p n = set b (3 * p) n.x

abbrev put_two : List ℤ → ℕ → Slopes → List ℤ
put_two b p n = set (put_one b p n) (3 * p + 1) n.y

abbrev pub put_three : List ℤ → ℕ → Slopes → List ℤ
put_three b p n = set (set (set b (3 * p) n.x) (3 * p + 1) n.y) (3 * p + 2) n.z

put_other : (b : List ℤ) (p : ℕ) (n : Slopes) (m : ℕ) → (m ≡ 3 * p → ⊥) → (m ≡ 3 * p + 1 → ⊥) → (m ≡ 3 * p + 2 → ⊥)
    → get_or (put_three b p n) m (pos 0) ≡ get_or b m (pos 0)
put_other b p n m d e f =
    get_or-set_other (put_two b p n) (3 * p + 2) m n.z (pos 0) f
    ∙ get_or-set_other (put_one b p n) (3 * p + 1) m n.y (pos 0) e
    ∙ get_or-set_other b (3 * p) m n.x (pos 0) d

pub three_other : (b : List ℤ) (p q : ℕ) (n : Slopes) → (p ≡ q → ⊥) → three_at (put_three b p n) q ≡ three_at b q
three_other b p q n d =
    three
    (put_other b p n (3 * q) (λ e. d (omega arith)) (λ e. omega arith) (λ e. omega arith))
    (put_other b p n (3 * q + 1) (λ e. omega arith) (λ e. d (omega arith)) (λ e. omega arith))
    (put_other b p n (3 * q + 2) (λ e. omega arith) (λ e. omega arith) (λ e. d (omega arith)))

pub three_same : (b : List ℤ) (p : ℕ) (n : Slopes) → 3 * p + 2 < length b → three_at (put_three b p n) p ≡ listed n
three_same b p n h =
    three
    (get_or-set_other two (3 * p + 2) (3 * p) n.z (pos 0) (λ e. omega arith)
    ∙ get_or-set_other one (3 * p + 1) (3 * p) n.y (pos 0) (λ e. omega arith)
    ∙ get_or-set_same b (3 * p) n.x (pos 0) (omega arith))
    (get_or-set_other two (3 * p + 2) (3 * p + 1) n.z (pos 0) (λ e. omega arith)
    ∙ get_or-set_same one (3 * p + 1) n.y (pos 0) (omega (arith, length-set b (3 * p) n.x)))
    (get_or-set_same two (3 * p + 2) n.z (pos 0)
    (omega (arith, length-set one (3 * p + 1) n.y, length-set b (3 * p) n.x)))
  where
    one : List ℤ
    one = put_one b p n

    two : List ℤ
    two = put_two b p n

pub shown_put : (t : Tape) (g : Grid) (h : List ℕ) (b : List ℤ) → ShowSlopes t g h b → length h ≡ g.height * g.width
    → (i j k : ℕ) → i < g.width → j < g.height
    → ShowSlopes t g (set h (j * g.width + i) (suc k)) (put_three b (j * g.width + i) (slopes_at t (sample_at g i j k)))
shown_put t g h b s l i j k x y =
    record {
      size = length-set (put_two b p n) (3 * p + 2) n.z
          ∙ length-set (put_one b p n) (3 * p + 1) n.y ∙ length-set b (3 * p) n.x ∙ s.size;
      pixel = λ i' j' x' y'. at i' j' x' y' (eqb p (j' * g.width + i')) refl;
    }
  where
    p : ℕ
    p = j * g.width + i

    n : Slopes
    n = slopes_at t (sample_at g i j k)

    in_heights : p < length h
    in_heights = omega (arith, in_list t g h b s i j x y, s.size)

    at : (i' j' : ℕ) → i' < g.width → j' < g.height → (u : Bool) → eqb p (j' * g.width + i') ≡ u
        → three_at (put_three b p n) (j' * g.width + i')
        ≡ pixel_slopes t g i' j' (get_or (set h p (suc k)) (j' * g.width + i') 0)
    at i' j' x' y' true q =
        let e = eqb-true p (j' * g.width + i') q in
        let m = same_pixel g.width i j i' j' x x' e in
        rw (← e, ← m.0, ← m.1)
        (three_same b p n (in_list t g h b s i j x y)
        ∙ ap (λ (z : ℕ). pixel_slopes t g i j z) (sym (get_or-set_same h p (suc k) 0 in_heights)))
    at i' j' x' y' false q =
        let d = eqb-false p (j' * g.width + i') q in
        three_other b p (j' * g.width + i') n d
        ∙ s.pixel i' j' x' y'
        ∙ ap (λ (z : ℕ). pixel_slopes t g i' j' z)
        (sym (get_or-set_other h p (j' * g.width + i') (suc k) 0 (λ e. d (sym e))))

-- The other way round: `slopes_of` has each pixel's slopes. The three numbers of a pixel in a list of two parts.
three_first : (t : Tape) (g : Grid) (i j k : ℕ) (b : List ℤ)
    → three_at (pixel_slopes t g i j k ++ b) 0 ≡ pixel_slopes t g i j k
three_first t g i j zero b = refl
three_first t g i j (suc k) b = refl

three_before : (a b : List ℤ) (m p : ℕ) → length a ≡ 3 * m → p < m → three_at (a ++ b) p ≡ three_at a p
three_before a b m p e l =
    three
    (get_or-append a b (pos 0) (3 * p) (omega arith))
    (get_or-append a b (pos 0) (3 * p + 1) (omega arith))
    (get_or-append a b (pos 0) (3 * p + 2) (omega arith))

three_after : (a b : List ℤ) (m p q : ℕ) → length a ≡ 3 * m → q ≡ m + p → three_at (a ++ b) q ≡ three_at b p
three_after a b m p q e d =
    three
    (at (3 * p) (3 * q) (omega arith))
    (at (3 * p + 1) (3 * q + 1) (omega arith))
    (at (3 * p + 2) (3 * q + 2) (omega arith))
  where
    at : (x y : ℕ) → y ≡ length a + x → get_or (a ++ b) y (pos 0) ≡ get_or b x (pos 0)
    at x y f = rw f (get_or-append-add a b x (pos 0))

module _ (t : Tape) (g : Grid) (h : List ℕ) where
  pixel_size : (i j k : ℕ) → length (pixel_slopes t g i j k) ≡ 3
  pixel_size i j zero = refl
  pixel_size i j (suc k) = refl

  row_size : (n i j : ℕ) → length (row_slopes n i j t g h) ≡ 3 * n
  unfolding row_slopes
  row_size zero i j = refl
  row_size (suc n) i j =
      let k = get_or h (j * g.width + i) 0 in
      omega (
        arith,
        length-append (pixel_slopes t g i j k) (row_slopes n (suc i) j t g h),
        pixel_size i j k,
        row_size n (suc i) j,
      )

  rows_size : (n j : ℕ) → length (rows_slopes n j t g h) ≡ 3 * (n * g.width)
  unfolding rows_slopes
  rows_size zero j = omega arith
  rows_size (suc n) j =
      omega (
        arith,
        length-append (row_slopes g.width 0 j t g h) (rows_slopes n (suc j) t g h),
        row_size g.width 0 j,
        rows_size n (suc j),
      )

  row_three : (n i j x k : ℕ) → x < n → k ≡ i + x
      → three_at (row_slopes n i j t g h) x ≡ pixel_slopes t g k j (get_or h (j * g.width + k) 0)
  unfolding row_slopes
  row_three zero i j x k l e = absurd (omega arith)
  row_three (suc n) i j zero k l e =
      let d : k ≡ i = omega arith in
      rw d (three_first t g i j (get_or h (j * g.width + i) 0) (row_slopes n (suc i) j t g h))
  row_three (suc n) i j (suc x) k l e =
      three_after (pixel_slopes t g i j (get_or h (j * g.width + i) 0)) (row_slopes n (suc i) j t g h) 1 x (suc x)
      (pixel_size i j (get_or h (j * g.width + i) 0)) (omega arith)
      ∙ row_three n (suc i) j x k (omega arith) (omega arith)

  rows_three : (n j p x y k : ℕ) → x < g.width → y < n → p ≡ y * g.width + x → k ≡ j + y
      → three_at (rows_slopes n j t g h) p ≡ pixel_slopes t g x k (get_or h (k * g.width + x) 0)
  unfolding rows_slopes
  rows_three zero j p x y k l m e d = absurd (omega arith)
  rows_three (suc n) j p x zero k l m e d =
      let a : p ≡ x = omega arith in
      let c : k ≡ j = omega arith in
      rw (a, c)
      (three_before (row_slopes g.width 0 j t g h) (rows_slopes n (suc j) t g h) g.width x
      (row_size g.width 0 j) l
      ∙ row_three g.width 0 j x x l (omega arith))
  rows_three (suc n) j p x (suc y) k l m e d =
      three_after (row_slopes g.width 0 j t g h) (rows_slopes n (suc j) t g h) g.width (y * g.width + x) p
      (row_size g.width 0 j) (omega arith)
      ∙ rows_three n (suc j) (y * g.width + x) x y k l (omega arith) refl (omega arith)

  pub show_slopes : ShowSlopes t g h (slopes_of t g h)
  unfolding slopes_of
  show_slopes =
      record {
        size = rows_size g.height 0;
        pixel = λ i j x y. rows_three g.height 0 (j * g.width + i) i j j x y refl (omega arith);
      }

-- "Slopes from the tape run for the region that set the height equal those from the full tape".
pub visible_slopes : (t : Tape) → Good t → (g : Grid) (isSolid : Bool) → isSolid ≡ solid g → grid_fault isSolid g ≡ 0
    → (h : List ℕ) → ((p : ℕ) → get_or h p 0 ≤ layers g) → VisibleSlopes t g h (slopes_of t g h)
visible_slopes t good g isSolid e f h most =
    record {
      set_by = λ i j k v rs q p u. let a = around_in_walk g rs q p i j k u in at i j k v rs a.0 a.1.1 a.1.0;
      inside = λ i j k x y v rs p u. at i j k v rs p (in_grid i j k x y v) u;
    }
  where
    at : (i j k : ℕ) → get_or h (j * g.width + i) 0 ≡ suc k → (rs : List Region) → InWalk g rs → InGrid g i j k
        → Inside (last_in whole rs) i j k
        → three_at (slopes_of t g h) (j * g.width + i)
        ≡ listed (slopes_at (short_after t (map (box_of g) rs)) (sample_at g i j k))
    at i j k v rs p n u =
        (show_slopes t g h).pixel i j n.x_in n.y_in
        ∙ ap (λ (z : ℕ). pixel_slopes t g i j z) v
        ∙ ap (λ (z : Slopes). listed z) (sym (same_slopes_in_walk t good g isSolid e f rs p i j k n u))

    in_grid : (i j k : ℕ) → i < g.width → j < g.height → get_or h (j * g.width + i) 0 ≡ suc k → InGrid g i j k
    in_grid i j k x y v = let z = most (j * g.width + i) in omega (arith, v)
