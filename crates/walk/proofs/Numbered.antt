-- Child number m of a region in closed form.
use mathlib.Core.Path.{◌≡◌, refl, ap, sym, ◌∙◌}
use mathlib.Core.List.{List, [], ◌∷◌, ◌++◌}
use Prim.Native.Nat.{ℕ, zero, suc, ◌+◌, ◌-◌, ◌*◌, ◌/◌, ◌%◌, ◌≤◌, ◌<◌}
use native.Mathlib.Nat.{div-add-mod', mod-lt, mul-mod_left, mul-le-mul_right, mul_assoc, add-mul}
use native.Mathlib.Nat.{lt_of_mul-lt-mul_right}
use native.Mathlib.Omega.{arith}
use lib.ListN.{length, get_or, length-append, get_or-append}
use lib.Seq.{get_or-append-add}
use Rattle.rules.specs.Drawings.{Region, region, along_x, along_y, along_z}
use Rattle.walk.proofs.Along.{row_left, row_start, row_step, row_end, rows_left}
use Rattle.walk.proofs.Along.{rows_start, rows_step, rows_end, layers_start, layers_step, layers_end}
use Rattle.walk.specs.Children.{parts_in}

-- How many parts.
pub parts_end : (from end n : ℕ) → 1 ≤ n → from < end
    → (end ≤ from + parts_in from end n * n) × (from + parts_in from end n * n < end + n)
parts_end from end n o h =
    let v = end - from + n - 1 in
    let e = div-add-mod' v n in
    let l : v % n < n = mod-lt v (omega arith) in
    (omega arith, omega arith)

pub part_in_lem : (from end n a : ℕ) → 1 ≤ n → from < end → a < parts_in from end n → from + a * n < end
part_in_lem from end n a o h l =
    let p = parts_end from end n o h in
    omega (arith, mul-le-mul_right n l)

pub parts_few : (from end n l : ℕ) → 1 ≤ n → from < end → end ≤ from + l * n → parts_in from end n ≤ l
parts_few from end n l o h f =
    let p = parts_end from end n o h in
    let t : parts_in from end n * n < suc l * n = omega arith in
    let r = lt_of_mul-lt-mul_right n t in
    omega arith

-- A list of lists f x, each of length w, by its steps.
module _ (n past w : ℕ) (f F : ℕ → List Region) (d : Region) (sized : (x : ℕ) → length (f x) ≡ w)
    (step : (x : ℕ) → x < past → F x ≡ f x ++ F (x + n)) where
  up_at : (b r x : ℕ) → 1 ≤ n → x + b * n < past → r < w → get_or (F x) (b * w + r) d ≡ get_or (f (x + b * n)) r d
  up_at zero r x o h k =
      let s = sized x in
      let e : x ≡ x + 0 * n = omega arith in
      let m : 0 * w + r ≡ r = omega arith in
      ap (λ v. get_or v (0 * w + r) d) (step x (omega arith))
      ∙ ap (λ v. get_or (f x ++ F (x + n)) v d) m
      ∙ get_or-append (f x) (F (x + n)) d r (omega arith)
      ∙ ap (λ v. get_or (f v) r d) e
  up_at (suc b) r x o h k =
      let s = sized x in
      let e : x + n + b * n ≡ x + suc b * n = omega arith in
      let m : suc b * w + r ≡ length (f x) + (b * w + r) = omega arith in
      ap (λ v. get_or v (suc b * w + r) d) (step x (omega arith))
      ∙ ap (λ v. get_or (f x ++ F (x + n)) v d) m
      ∙ get_or-append-add (f x) (F (x + n)) (b * w + r) d
      ∙ up_at b r (x + n) o (omega arith) k
      ∙ ap (λ v. get_or (f v) r d) e

  up_length : ((x : ℕ) → past ≤ x → F x ≡ []) → (q x : ℕ) → past ≤ x + q * n → x + q * n < past + n
      → length (F x) ≡ q * w
  up_length none zero x h k = ap length (none x (omega arith)) ∙ omega arith
  up_length none (suc q) x h k =
      let s = sized x in
      let i = up_length none q (x + n) (omega arith) (omega arith) in
      omega (arith, ap length (step x (omega arith)), length-append (f x) (F (x + n)))

-- Downward: G q has the parts before q, the last of them first.
module _ (k n w m : ℕ) (f G : ℕ → List Region) (d : Region) (sized : (x : ℕ) → length (f x) ≡ w)
    (step : (q : ℕ) → q < m → G (suc q) ≡ f (k + q * n) ++ G q) where
  down_at : (c q r : ℕ) → q ≤ m → c < q → r < w → get_or (G q) (c * w + r) d ≡ get_or (f (k + (q - suc c) * n)) r d
  down_at c zero r l h t = absurd (omega arith)
  down_at zero (suc q) r l h t =
      let s = sized (k + q * n) in
      let e : q ≡ suc q - 1 = omega arith in
      let u : 0 * w + r ≡ r = omega arith in
      ap (λ v. get_or v (0 * w + r) d) (step q (omega arith))
      ∙ ap (λ v. get_or (f (k + q * n) ++ G q) v d) u
      ∙ get_or-append (f (k + q * n)) (G q) d r (omega arith)
      ∙ ap (λ v. get_or (f (k + v * n)) r d) e
  down_at (suc c) (suc q) r l h t =
      let s = sized (k + q * n) in
      let e : q - suc c ≡ suc q - suc (suc c) = omega arith in
      let u : suc c * w + r ≡ length (f (k + q * n)) + (c * w + r) = omega arith in
      ap (λ v. get_or v (suc c * w + r) d) (step q (omega arith))
      ∙ ap (λ v. get_or (f (k + q * n) ++ G q) v d) u
      ∙ get_or-append-add (f (k + q * n)) (G q) (c * w + r) d
      ∙ down_at c q r (omega arith) (omega arith) t
      ∙ ap (λ v. get_or (f (k + v * n)) r d) e

  down_length : G 0 ≡ [] → (q : ℕ) → q ≤ m → length (G q) ≡ q * w
  down_length none zero l = ap length none ∙ omega arith
  down_length none (suc q) l =
      let s = sized (k + q * n) in
      let i = down_length none q (omega arith) in
      omega (arith, ap length (step q (omega arith)), length-append (f (k + q * n)) (G q))

-- One row of children: those of the axis x.
abbrev pub nowhere : Region
nowhere = region 0 0 0 0

module _ (n : ℕ) (some : 1 ≤ n) (l i px : ℕ) (hx : i < px) (fx : px ≤ i + l * n) where
  row_length : (j k : ℕ) → length (along_x l i j k n px) ≡ parts_in i px n
  row_length j k =
      let p = parts_end i px n some hx in
      ap length (row_start j k n px some l i fx)
      ∙ up_length n px 1 (λ a. region a j k n ∷ []) (λ x. row_left x j k n px) nowhere (λ x. refl)
      (row_step j k n px some) (row_end j k n px some) (parts_in i px n) i p.0 p.1
      ∙ omega arith

  row_at : (j k a : ℕ) → a < parts_in i px n → get_or (along_x l i j k n px) a nowhere ≡ region (i + a * n) j k n
  row_at j k a h =
      let e : a ≡ a * 1 + 0 = omega arith in
      ap (λ v. get_or v a nowhere) (row_start j k n px some l i fx)
      ∙ ap (λ v. get_or (row_left i j k n px) v nowhere) e
      ∙ up_at n px 1 (λ a. region a j k n ∷ []) (λ x. row_left x j k n px) nowhere (λ x. refl)
      (row_step j k n px some) a 0 i some (part_in_lem i px n a some hx h) (omega arith)

  -- The rows of one layer.
  module _ (j py : ℕ) (hy : j < py) (fy : py ≤ j + l * n) where
    rows_length : (k : ℕ) → length (along_y l l i j k n px py) ≡ parts_in j py n * parts_in i px n
    rows_length k =
        let p = parts_end j py n some hy in
        ap length (rows_start l i k n px py some l j fy)
        ∙ up_length n py (parts_in i px n) (λ b. along_x l i b k n px) (λ y. rows_left y l i k n px py) nowhere
        (λ y. row_length y k) (rows_step l i k n px py some) (rows_end l i k n px py some) (parts_in j py n) j p.0
        p.1

    rows_at : (k b a : ℕ) → b < parts_in j py n → a < parts_in i px n
        → get_or (along_y l l i j k n px py) (b * parts_in i px n + a) nowhere ≡ region (i + a * n) (j + b * n) k n
    rows_at k b a h t =
        ap (λ v. get_or v (b * parts_in i px n + a) nowhere) (rows_start l i k n px py some l j fy)
        ∙ up_at n py (parts_in i px n) (λ b. along_x l i b k n px) (λ y. rows_left y l i k n px py) nowhere
        (λ y. row_length y k) (rows_step l i k n px py some) b a j some (part_in_lem j py n b some hy h) t
        ∙ row_at (j + b * n) k a t

    -- All layers, the greatest z first.
    module _ (k pz : ℕ) (hz : k < pz) (fz : pz ≤ k + l * n) where
      multiple : (q : ℕ) → (k + q * n - k) % n ≡ 0
      multiple q = let e : k + q * n - k ≡ q * n = omega arith in ap (λ v. v % n) e ∙ mul-mod_left q n

      layer_below : (q : ℕ) → q < l → along_z l l i j k n px py (k + suc q * n)
          ≡ along_y l l i j (k + q * n) n px py ++ along_z l l i j k n px py (k + q * n)
      layer_below q h =
          let e : k + suc q * n - n ≡ k + q * n = omega arith in
          layers_step l l i j k n px py some (k + suc q * n) (omega arith) (omega (arith, mul-le-mul_right n h))
          (multiple (suc q))
          ∙ ap (λ v. along_y l l i j v n px py ++ along_z l l i j k n px py v) e

      all_top : along_z l l i j k n px py pz ≡ along_z l l i j k n px py (k + parts_in k pz n * n)
      all_top =
          let p = parts_end k pz n some hz in
          layers_start l l i j k n px py some pz (k + parts_in k pz n * n) (omega arith) (multiple (parts_in k pz n))
          p.0 p.1

      all_none : along_z l l i j k n px py (k + 0 * n) ≡ []
      all_none = layers_end l l i j k n px py some (k + 0 * n) (omega arith)

      pub all_length : length (along_z l l i j k n px py pz) ≡ parts_in k pz n * (parts_in j py n * parts_in i px n)
      all_length =
          ap length all_top
          ∙ down_length k n (parts_in j py n * parts_in i px n) l (λ c. along_y l l i j c n px py)
          (λ q. along_z l l i j k n px py (k + q * n)) nowhere rows_length layer_below all_none (parts_in k pz n)
          (parts_few k pz n l some hz fz)

      pub all_at : (c b a : ℕ) → c < parts_in k pz n → b < parts_in j py n → a < parts_in i px n
          → get_or (along_z l l i j k n px py pz)
          (c * (parts_in j py n * parts_in i px n) + (b * parts_in i px n + a)) nowhere
          ≡ region (i + a * n) (j + b * n) (k + (parts_in k pz n - suc c) * n) n
      all_at c b a u h t =
          let w = parts_in j py n * parts_in i px n in
          ap (λ v. get_or v (c * w + (b * parts_in i px n + a)) nowhere) all_top
          ∙ down_at k n w l (λ c. along_y l l i j c n px py)
          (λ q. along_z l l i j k n px py (k + q * n)) nowhere rows_length layer_below c (parts_in k pz n)
          (b * parts_in i px n + a) (parts_few k pz n l some hz fz) u
          (omega (arith, mul-le-mul_right (parts_in i px n) h))
          ∙ rows_at (k + (parts_in k pz n - suc c) * n) b a h t

-- A number below nz · (ny · nx) by its digits.
pub record Digits (nx ny nz m : ℕ) : Type 0 where
  pub sum : m ≡ m / nx / ny * (ny * nx) + (m / nx % ny * nx + m % nx)
  pub column : m % nx < nx
  pub row : m / nx % ny < ny
  pub layer : m / nx / ny < nz

pub digits : (nx ny nz m : ℕ) → 1 ≤ nx → 1 ≤ ny → m < nz * (ny * nx) → Digits nx ny nz m
digits nx ny nz m hx hy h =
    let r = m / nx in
    let c = r / ny in
    let p : c * ny * nx ≡ c * (ny * nx) = mul_assoc c ny nx in
    let s : (c * ny + r % ny) * nx ≡ c * ny * nx + r % ny * nx = add-mul (c * ny) (r % ny) nx in
    let t : r * nx ≡ (c * ny + r % ny) * nx = ap (λ v. v * nx) (sym (div-add-mod' r ny)) in
    let u : m ≡ c * (ny * nx) + (r % ny * nx + m % nx) = omega (arith, div-add-mod' m nx) in
    let v : c * (ny * nx) < nz * (ny * nx) = omega arith in
    record { sum = u; column = mod-lt m hx; row = mod-lt r hy; layer = lt_of_mul-lt-mul_right (ny * nx) v }
