-- What filling a rectangle of pixels does to the heights, and what the hidden test says of them.
use mathlib.Core.Path.{◌≡◌, refl, ap, ◌∙◌}
use mathlib.Core.Bool.{Bool, true, false}
use mathlib.Core.Logic.{◌⊎◌, inl, inr}
use mathlib.Core.List.{List}
use Prim.Native.Nat.{ℕ, zero, suc, ◌+◌, ◌-◌, ◌*◌, ◌≤◌, ◌<◌}
use native.Mathlib.Omega.{arith}
use native.Mathlib.Nat.{add-mul}
use native.Mathlib.Decide.{ℕ_discrete}
use lib.Dec.{ltb, leb}
use lib.ListN.{length, get_or, set, length-set}
use lib.Seq.{get_or-set_same, get_or-set_other}
use borrow.Author.Tests.{ltb-true, ltb-false, leb-true}
use Rattle.rules.specs.Values.{pick}
use Rattle.rules.specs.Drawings.{Grid, solid, Region, past_x, past_y, past_z, raise_row, raise_rows, filled, row_high}
use Rattle.rules.specs.Drawings.{rows_high, hidden}
use Rattle.rules.proofs.Tests.{and_left, and_right, of_pick}
use Rattle.rules.proofs.Raised.{Raised, unchanged, joined, same_set}

-- The place q is one of n from p on.
pub record InRow (p n q : ℕ) : Type 0 where
  pub start : p ≤ q
  pub end : q < p + n

-- The place q is in one of n rows of m pixels, each w places after the one before, the first from p on.
pub record InRows (w p n m q : ℕ) : Type 0 where
  pub row : ℕ
  pub row_in : row < n
  pub start : p + row * w ≤ q
  pub end : q < p + row * w + m

-- The larger of a height and a new one.
unfoldable risen : ℕ → ℕ → ℕ
risen z a = pick (ltb a z) z a

risen_least : (z a b : ℕ) → a ≤ b → z ≤ b → risen z a ≤ b
unfolding risen
risen_least z a b h k = of_pick (λ v. v ≤ b) (ltb a z) k h

risen_from : (z a : ℕ) → (a ≤ risen z a) × (z ≤ risen z a)
unfolding risen
risen_from z a = go (ltb a z) refl
  where
    go : (t : Bool) → ltb a z ≡ t → (a ≤ pick t z a) × (z ≤ pick t z a)
    go true e = omega (arith, ltb-true a z e)
    go false e = omega (arith, ltb-false a z e)

-- What is past every layer below z is at least z.
past_all : (z b : ℕ) → ((k : ℕ) → k < z → k < b) → z ≤ b
past_all zero b f = omega arith
past_all (suc z) b f = f z (omega arith)

-- One pixel.
raise_one : (p z : ℕ) (h : List ℕ) → Raised (λ q k. (q ≡ p) × (k < z)) h (set h p (risen z (get_or h p 0)))
raise_one p z h =
    record {
      size = length-set h p v;
      from = λ q l. go_from q l (ℕ_discrete q p);
      above = λ q k l i. omega (arith, here q i.0 l, risen_from z (get_or h q 0));
      least = λ q b l e k. go_least q b l e k (ℕ_discrete q p);
    }
  where
    v : ℕ
    v = risen z (get_or h p 0)

    here : (q : ℕ) → q ≡ p → q < length h → get_or (set h p v) q 0 ≡ risen z (get_or h q 0)
    here q e l = rw e (get_or-set_same h p v 0 (rw e at l))

    go_from : (q : ℕ) → q < length h → Dec (q ≡ p) → get_or h q 0 ≤ get_or (set h p v) q 0
    go_from q l (yes e) = omega (arith, here q e l, risen_from z (get_or h q 0))
    go_from q l (no n) = omega (arith, get_or-set_other h p q v 0 n)

    go_least : (q b : ℕ) → q < length h → get_or h q 0 ≤ b → ((k : ℕ) → (q ≡ p) × (k < z) → k < b) → Dec (q ≡ p)
        → get_or (set h p v) q 0 ≤ b
    go_least q b l e k (yes i) =
        omega (arith, here q i l, risen_least z (get_or h q 0) b e (past_all z b (λ y m. k y (i, m))))
    go_least q b l e k (no n) = omega (arith, get_or-set_other h p q v 0 n)

-- Filling some places up to z: as if every layer below z counted there.
filled_both : {P Q R : ℕ → Type 0} {z : ℕ} {h m h' : List ℕ}
    → Raised (λ q k. P q × (k < z)) h m → Raised (λ q k. Q q × (k < z)) m h'
    → ((q : ℕ) → R q → P q ⊎ Q q) → ((q : ℕ) → P q → R q) → ((q : ℕ) → Q q → R q) → Raised (λ q k. R q × (k < z)) h h'
filled_both {P} {Q} {R} {z} a b split left right =
    joined a b (λ q k i. go k i.1 (split q i.0)) (λ q k i. (left q i.0, i.1))
    (λ q k i. (right q i.0, i.1))
  where
    go : {q : ℕ} (k : ℕ) → k < z → P q ⊎ Q q → (P q × (k < z)) ⊎ (Q q × (k < z))
    go k l (inl i) = inl (i, l)
    go k l (inr i) = inr (i, l)

-- A place of a row is its first one or in the rest of it; so with rows.
row_first : (n p q : ℕ) → InRow p (suc n) q → (q ≡ p) ⊎ InRow (suc p) n q
row_first n p q i = go (ℕ_discrete q p)
  where
    go : Dec (q ≡ p) → (q ≡ p) ⊎ InRow (suc p) n q
    go (yes e) = inl e
    go (no e) = inr (omega arith)

rows_first : (n w p m q : ℕ) → InRows w p (suc n) m q → InRow p m q ⊎ InRows w (p + w) n m q
rows_first n w p m q i = go i.row i.row_in i.start i.end
  where
    go : (b : ℕ) → b < suc n → p + b * w ≤ q → q < p + b * w + m → InRow p m q ⊎ InRows w (p + w) n m q
    go zero l s e = inl (omega arith)
    go (suc b) l s e = inr (record { row = b; row_in = omega arith; start = omega arith; end = omega arith })

pub raise_row_lem : (n p z : ℕ) (h : List ℕ) → Raised (λ q k. InRow p n q × (k < z)) h (raise_row n p z h)
unfolding raise_row risen
raise_row_lem zero p z h = unchanged h (λ q k i. absurd (omega arith))
raise_row_lem (suc n) p z h =
    filled_both (raise_one p z h) (raise_row_lem n (suc p) z (set h p (risen z (get_or h p 0))))
    (row_first n p) (λ q i. omega arith) (λ q i. omega arith)

pub raise_rows_lem : (n w p m z : ℕ) (h : List ℕ) → Raised (λ q k. InRows w p n m q × (k < z)) h (raise_rows n w p m z h)
unfolding raise_rows
raise_rows_lem zero w p m z h = unchanged h (λ q k i. absurd (omega arith))
raise_rows_lem (suc n) w p m z h =
    filled_both (raise_row_lem m p z h) (raise_rows_lem n w (p + w) m z (raise_row m p z h)) (rows_first n w p m)
    (λ q i. record { row = 0; row_in = omega arith; start = omega arith; end = omega arith })
    (λ q i. record { row = suc i.row; row_in = omega arith; start = omega arith; end = omega arith })

-- Every place that passed the test is at least z high.
pub row_high_lem : (n p z : ℕ) (h : List ℕ) → row_high n p z h ≡ true → (q : ℕ) → InRow p n q → z ≤ get_or h q 0
unfolding row_high
row_high_lem zero p z h e q i = absurd (omega arith)
row_high_lem (suc n) p z h e q i =
    go (row_high_lem n (suc p) z h (and_right (leb z (get_or h p 0)) (row_high n (suc p) z h) e) q) (row_first n p q i)
  where
    go : (InRow (suc p) n q → z ≤ get_or h q 0) → (q ≡ p) ⊎ InRow (suc p) n q → z ≤ get_or h q 0
    go rest (inl a) = rw a (leb-true z (get_or h p 0) (and_left (leb z (get_or h p 0)) (row_high n (suc p) z h) e))
    go rest (inr b) = rest b

pub rows_high_lem : (n w p m z : ℕ) (h : List ℕ) → rows_high n w p m z h ≡ true → (q : ℕ) → InRows w p n m q → z ≤ get_or h q 0
unfolding rows_high
rows_high_lem zero w p m z h e q i = absurd (omega arith)
rows_high_lem (suc n) w p m z h e q i =
    go (rows_high_lem n w (p + w) m z h (and_right (row_high m p z h) (rows_high n w (p + w) m z h) e) q)
    (rows_first n w p m q i)
  where
    go : (InRows w (p + w) n m q → z ≤ get_or h q 0) → InRow p m q ⊎ InRows w (p + w) n m q → z ≤ get_or h q 0
    go rest (inl a) = row_high_lem m p z h (and_left (row_high m p z h) (rows_high n w (p + w) m z h) e) q a
    go rest (inr b) = rest b

-- The pixels of a region, cut at the grid's edge: their places.
pub record Pixel (g : Grid) (r : Region) (q : ℕ) : Type 0 where
  pub x : ℕ
  pub y : ℕ
  pub place : q ≡ y * g.width + x
  pub x_from : r.i ≤ x
  pub x_to : x < past_x g r
  pub y_from : r.j ≤ y
  pub y_to : y < past_y g r

-- The places of a region's rows are those of its pixels.
row_pixel : (g : Grid) (r : Region) (q : ℕ)
    → InRows g.width (r.j * g.width + r.i) (past_y g r - r.j) (past_x g r - r.i) q → Pixel g r q
row_pixel g r q i =
    let e : (r.j + i.row) * g.width ≡ r.j * g.width + i.row * g.width = add-mul r.j i.row g.width in
    record {
      x = q - (r.j + i.row) * g.width;
      y = r.j + i.row;
      place = omega arith;
      x_from = omega arith;
      x_to = omega arith;
      y_from = omega arith;
      y_to = omega arith;
    }

pixel_row : (g : Grid) (r : Region) (q : ℕ) → Pixel g r q
    → InRows g.width (r.j * g.width + r.i) (past_y g r - r.j) (past_x g r - r.i) q
pixel_row g r q i = go (i.y - r.j) (omega arith)
  where
    go : (d : ℕ) → i.y ≡ r.j + d
        → InRows g.width (r.j * g.width + r.i) (past_y g r - r.j) (past_x g r - r.i) q
    go d e =
        let f : i.y * g.width ≡ r.j * g.width + d * g.width = ap (λ v. v * g.width) e ∙ add-mul r.j d
        g.width in
        record { row = d; row_in = omega arith; start = omega arith; end = omega arith }

-- Filling a region.
pub fill_raised : (g : Grid) (r : Region) (h : List ℕ)
    → Raised (λ q k. Pixel g r q × (k < past_z g r)) h (filled g r h)
unfolding filled
fill_raised g r h =
    same_set (raise_rows_lem (past_y g r - r.j) g.width (r.j * g.width + r.i) (past_x g r - r.i) (past_z g r) h)
    (λ q k i. (row_pixel g r q i.0, i.1)) (λ q k i. (pixel_row g r q i.0, i.1))

-- Every pixel of a hidden region is as high as filling the region would make it.
pub hidden_high : (g : Grid) (r : Region) (h : List ℕ) → hidden g r h ≡ true → (q : ℕ) → Pixel g r q
    → past_z g r ≤ get_or h q 0
unfolding hidden
hidden_high g r h e q i =
    rows_high_lem (past_y g r - r.j) g.width (r.j * g.width + r.i) (past_x g r - r.i) (past_z g r) h
    (and_right (solid g)
    (rows_high (past_y g r - r.j) g.width (r.j * g.width + r.i) (past_x g r - r.i) (past_z g r) h) e)
    q (pixel_row g r q i)
