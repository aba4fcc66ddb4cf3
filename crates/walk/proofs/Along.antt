-- The lists of a region's children as loops meet them: rows and columns upward, layers from the greatest z down.
use mathlib.Core.Path.{◌≡◌, refl, ap, sym, ◌∙◌}
use mathlib.Core.Bool.{true, false}
use mathlib.Core.List.{List, [], ◌∷◌, ◌++◌, append-nil, append_assoc}
use Prim.Native.Nat.{ℕ, zero, suc, ◌+◌, ◌-◌, ◌*◌, ◌/◌, ◌%◌, ◌≤◌, ◌<◌, min}
use native.Mathlib.Decide.{dec_lt}
use native.Mathlib.Nat.{div-add-mod', mul-le-mul_left, le_of_mul-le-mul_right, mod-eq-sub-mod, sub_right_comm}
use native.Mathlib.Omega.{arith}
use lib.Dec.{ltb}
use borrow.Author.Tests.{lt-ltb, le-ltb, le-leb, lt-leb}
use Rattle.rules.specs.Values.{pick}
use Rattle.rules.specs.Drawings.{Grid, solid, Region, region, lesser, past_x}
use Rattle.rules.specs.Drawings.{past_y, along_x, along_y, along_z, children}
use Rattle.rules.proofs.Regions.{along, along_x_lem, along_y_lem, along_z_lem, over_parts}
use Rattle.rules.proofs.Regions.{Divides, lesser_most, lesser_both}

-- Upward along one axis: the lists f a for a ≡ x, x + n, .. below past. The counter past − x is never too small, so
-- that a loop has only its x to carry.
unfoldable pub up_left : ℕ → ℕ → ℕ → (ℕ → List Region) → List Region
up_left x n past f = along true (past - x) x n past f

module _ (n past : ℕ) (f : ℕ → List Region) (some : 1 ≤ n) where
  none_up : (l x : ℕ) → past ≤ x → along true l x n past f ≡ []
  unfolding along
  none_up zero x h = refl
  none_up (suc l) x h = rw (le-ltb x past h) (none_up l (x + n) (omega arith))

  -- Two counters that are both enough.
  same_up : (l m x : ℕ) → past ≤ x + l * n → past ≤ x + m * n → along true l x n past f ≡ along true m x n past f
  unfolding along
  same_up zero m x h k = sym (none_up m x (omega arith))
  same_up (suc l) zero x h k = none_up (suc l) x (omega arith)
  same_up (suc l) (suc m) x h k =
      ap (λ v. pick (ltb x past) (f x) [] ++ v) (same_up l m (x + n) (omega arith) (omega arith))

  one_up : (l x : ℕ) → x < past → along true (suc l) x n past f ≡ f x ++ along true l (x + n) n past f
  unfolding along
  one_up l x h = rw (lt-ltb x past h)

  enough : (x : ℕ) → past ≤ x + (past - x) * n
  enough x = omega (arith, mul-le-mul_left (past - x) some)

  up_start : (l x : ℕ) → past ≤ x + l * n → along true l x n past f ≡ up_left x n past f
  unfolding up_left
  up_start l x h = same_up l (past - x) x h (enough x)

  up_step : (x : ℕ) → x < past → up_left x n past f ≡ f x ++ up_left (x + n) n past f
  unfolding up_left
  up_step x h =
      same_up (past - x) (suc (past - (x + n))) x (enough x) (omega (arith, enough (x + n)))
      ∙ one_up (past - (x + n)) x h

  up_end : (x : ℕ) → past ≤ x → up_left x n past f ≡ []
  unfolding up_left
  up_end x h = none_up (past - x) x h

-- Downward: with past ≡ z + n for a part z ≡ k + a·n, the part z comes first, and the parts before z are left.
module _ (n : ℕ) (f : ℕ → List Region) (some : 1 ≤ n) where
  down_end : (m k z : ℕ) → z ≤ k → along false m k n z f ≡ []
  unfolding along
  down_end zero k z h = refl
  down_end (suc m) k z h = rw (le-ltb k z h, down_end m (k + n) z (omega arith))

  down_one : (m a k z : ℕ) → a < m → z ≡ k + a * n → along false m k n (z + n) f ≡ f z ++ along false m k n z f
  unfolding along
  down_one zero a k z l e = absurd (omega arith)
  down_one (suc m) zero k z l e =
      let h : k ≡ z = omega arith in
      rw (h, lt-ltb z (z + n) (omega arith), le-ltb z z (omega arith))
      (rw (down_end m (z + n) (z + n) (omega arith), down_end m (z + n) z (omega arith), append-nil))
  down_one (suc m) (suc a) k z l e =
      let more = down_one m a (k + n) z (omega arith) (omega arith) in
      rw (lt-ltb k (z + n) (omega arith), lt-ltb k z (omega arith), more, append_assoc)

  -- Past and the least k + a·n from it on are the same to the list.
  down_same : (m a k z past : ℕ) → z ≡ k + a * n → past ≤ z → z < past + n
      → along false m k n past f ≡ along false m k n z f
  unfolding along
  down_same zero a k z past e h l = refl
  down_same (suc m) zero k z past e h l =
      down_end (suc m) k past (omega arith) ∙ sym (down_end (suc m) k z (omega arith))
  down_same (suc m) (suc a) k z past e h l =
      rw (lt-ltb k past (omega arith), lt-ltb k z (omega arith), down_same m a (k + n) z past (omega arith) h l)

-- What is left of a row from x on; and of the rows from y on, each of them whole.
unfoldable pub row_left : ℕ → ℕ → ℕ → ℕ → ℕ → List Region
row_left x j k n px = up_left x n px (λ a. region a j k n ∷ [])

unfoldable pub rows_left : ℕ → ℕ → ℕ → ℕ → ℕ → ℕ → ℕ → List Region
rows_left y l i k n px py = up_left y n py (λ b. along_x l i b k n px)

module _ (j k n px : ℕ) (some : 1 ≤ n) where
  pub row_start : (l x : ℕ) → px ≤ x + l * n → along_x l x j k n px ≡ row_left x j k n px
  unfolding row_left
  row_start l x h = along_x_lem l x j k n px ∙ up_start n px (λ a. region a j k n ∷ []) some l x h

  pub row_step : (x : ℕ) → x < px → row_left x j k n px ≡ region x j k n ∷ row_left (x + n) j k n px
  unfolding row_left
  row_step x h = up_step n px (λ a. region a j k n ∷ []) some x h

  pub row_end : (x : ℕ) → px ≤ x → row_left x j k n px ≡ []
  unfolding row_left
  row_end x h = up_end n px (λ a. region a j k n ∷ []) some x h

rows_along : (m l i j k n px py : ℕ) → along_y m l i j k n px py ≡ along true m j n py (λ b. along_x l i b k n px)
rows_along m l i j k n px py = simp (along_x_lem, along_y_lem)

module _ (l i k n px py : ℕ) (some : 1 ≤ n) where
  pub rows_start : (m y : ℕ) → py ≤ y + m * n → along_y m l i y k n px py ≡ rows_left y l i k n px py
  unfolding rows_left
  rows_start m y h = rows_along m l i y k n px py ∙ up_start n py (λ b. along_x l i b k n px) some m y h

  pub rows_step : (y : ℕ) → y < py → rows_left y l i k n px py ≡ along_x l i y k n px ++ rows_left (y + n) l i k n px py
  unfolding rows_left
  rows_step y h = up_step n py (λ b. along_x l i b k n px) some y h

  pub rows_end : (y : ℕ) → py ≤ y → rows_left y l i k n px py ≡ []
  unfolding rows_left
  rows_end y h = up_end n py (λ b. along_x l i b k n px) some y h

-- The layers that are left below z are those of a region cut at z. The loop starts at the least k + a·n from pz on, and
-- takes n from z before each layer: while k < z { z -= n; .. }.
layers_along : (m l i j k n px py pz : ℕ)
    → along_z m l i j k n px py pz ≡ along false m k n pz (λ c. along_y l l i j c n px py)
layers_along m l i j k n px py pz = simp (along_y_lem, along_z_lem)

-- A multiple of n above k, as k + a·n.
parts_of : (k n z : ℕ) → k ≤ z → (z - k) % n ≡ 0 → z ≡ k + (z - k) / n * n
parts_of k n z h e = omega (arith, div-add-mod' (z - k) n)

part_before : (k n z q : ℕ) → k < z → z ≡ k + q * n → (a : ℕ) × (q ≡ suc a) × (z ≡ k + a * n + n)
part_before k n z zero h e = absurd (omega arith)
part_before k n z (suc a) h e = (a, refl, omega arith)

module _ (m l i j k n px py : ℕ) (some : 1 ≤ n) where
  pub layers_start : (pz top : ℕ) → k ≤ top → (top - k) % n ≡ 0 → pz ≤ top → top < pz + n
      → along_z m l i j k n px py pz ≡ along_z m l i j k n px py top
  layers_start pz top h e lo hi =
      layers_along m l i j k n px py pz
      ∙ down_same n (λ c. along_y l l i j c n px py) some m ((top - k) / n) k top pz (parts_of k n top h e) lo hi
      ∙ sym (layers_along m l i j k n px py top)

  pub layers_step : (z : ℕ) → k < z → z ≤ k + m * n → (z - k) % n ≡ 0
      → along_z m l i j k n px py z ≡ along_y l l i j (z - n) n px py ++ along_z m l i j k n px py (z - n)
  layers_step z h hi e =
      let p = part_before k n z ((z - k) / n) h (parts_of k n z (omega arith) e) in
      let c : suc p.0 * n ≤ m * n = omega arith in
      let f : ℕ → List Region = λ c. along_y l l i j c n px py in
      let u : z ≡ z - n + n = omega arith in
      layers_along m l i j k n px py z
      ∙ ap (λ v. along false m k n v f) u
      ∙ down_one n f some m p.0 k (z - n) (le_of_mul-le-mul_right c some) (omega arith)
      ∙ ap (λ v. f (z - n) ++ v) (sym (layers_along m l i j k n px py (z - n)))

  pub layers_end : (z : ℕ) → z ≤ k → along_z m l i j k n px py z ≡ []
  layers_end z h = layers_along m l i j k n px py z ∙ down_end n (λ c. along_y l l i j c n px py) some m k z h

-- Where the loop over layers is after a step; for a literal n `omega` finds this too.
pub layer_next : (k n z : ℕ) → k < z → (z - k) % n ≡ 0 → (k + n ≤ z) × ((z - n - k) % n ≡ 0)
layer_next k n z h e =
    let p = part_before k n z ((z - k) / n) h (parts_of k n z (omega arith) e) in
    let c : n ≤ z - k = omega arith in
    (omega arith, ap (λ v. v % n) (sub_right_comm z n k) ∙ sym (mod-eq-sub-mod c) ∙ e)

-- The children by rows or by layers.
pub children_rows : (g : Grid) (r : Region) (n l : ℕ) → solid g ≡ false → Divides r n l → r.k ≡ 0
    → children g r n ≡ along_y l l r.i r.j 0 n (past_x g r) (past_y g r)
unfolding children along_z
children_rows g r n l e d h = rw (e, over_parts r.long n l d.positive d.parts, h)

pub children_layers : (g : Grid) (r : Region) (n l : ℕ) → solid g ≡ true → Divides r n l → children g r n
    ≡ along_z l l r.i r.j r.k n (past_x g r) (past_y g r) (lesser g.depth (r.k + r.long))
unfolding children
children_layers g r n l e d = rw (e, over_parts r.long n l d.positive d.parts)

-- The lesser of two, as a test gives it.
pub lesser_first : (a b : ℕ) → a ≤ b → lesser a b ≡ a
unfolding lesser
lesser_first a b h = rw (le-leb a b h)

pub lesser_second : (a b : ℕ) → b < a → lesser a b ≡ b
unfolding lesser
lesser_second a b h = rw (lt-leb a b h)

pub min_lesser : (a b : ℕ) → min a b ≡ lesser a b
min_lesser a b =
    elim (dec_lt b a) [
      | yes h ↦ omega (arith, lesser_second a b h)
      | no h ↦ omega (arith, lesser_first a b (omega arith))
    ]

-- The part of an axis of w samples that a region from i on with side n has.
pub record Part (w i n : ℕ) : Type 0 where
  pub some : i < lesser w (i + n)
  pub in_grid : lesser w (i + n) ≤ w
  pub in_side : lesser w (i + n) ≤ i + n

pub part : (w i n : ℕ) → i < w → 1 ≤ n → Part w i n
part w i n h k =
    let a = lesser_most w (i + n) in
    record { some = lesser_both i w (i + n) h (omega arith); in_grid = a.0; in_side = a.1 }

-- A region of side 1 has one sample.
pub part_one : (w i : ℕ) → i < w → lesser w (i + 1) ≡ i + 1
part_one w i h = let p = part w i 1 h (omega arith) in omega arith
