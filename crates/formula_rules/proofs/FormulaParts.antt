-- A text's beginning as parts of the grammar: what the reader has read, beside what it keeps.
use mathlib.Core.Path.{◌≡◌, refl, sym, ◌∙◌, ap}
use mathlib.Core.Bool.{Bool, true, false}
use mathlib.Core.List.{List, [], ◌∷◌}
use Prim.Native.Nat.{ℕ, zero, suc}
use Rattle.formula_rules.specs.Formulas.{value, Whole, SumJoin, ProductJoin, One, Two, Sum, product, joined, Product}
use Rattle.formula_rules.specs.Formulas.{signed, multiplied, Signed, plain, minus, Item, spaces, write_digits, sum_byte}
use Rattle.formula_rules.specs.Formulas.{product_byte, write_one, write_two, write_sum, write_product, write_signed, write_item}
use Rattle.formula_rules.specs.Formulas.{sum_tree, product_tree, tree_sum, tree_product, tree_signed, tree_item}
use Rattle.formula_rules.specs.FormulaReader.{Left, none, waits, Level, level, join_left, sign_tree, product_to, sum_to}
use Rattle.formula_rules.specs.FormulaReader.{Opener, opened, called, first_of, second_of, Frame, frame, Ended, item}
use Rattle.formula_rules.specs.FormulaReader.{end_tree, Mode, want, spelling, named, point, after, State, state}
use Rattle.formula_rules.specs.FormulaReader.{Spelling, a-, ab-, s-, sq-, r-, ro-, roo-, m-, mi-, ma-, of_one, of_two}
use Rattle.formula_rules.specs.FormulaReader.{Function}
use Rattle.formula_rules.proofs.FormulaTakes.{ending, ending_tree}

-- What stands left of an item in its bracket.
pub data SumLeft : Type 0 where
  no_sum : SumLeft
  sum_waits : Sum → ℕ → SumJoin → SumLeft

pub data ProductLeft : Type 0 where
  no_product : ProductLeft
  product_waits : Product → ℕ → ProductJoin → ProductLeft

pub data Sign : Type 0 where
  bare : Sign
  negated : ℕ → Sign

pub record Part : Type 0 where
  pub sums : SumLeft
  pub products : ProductLeft
  pub sign : Sign

abbrev pub part : SumLeft → ProductLeft → Sign → Part
part u q g = record { sums = u; products = q; sign = g }

abbrev pub fresh_part : Part
fresh_part = part no_sum no_product bare

-- An open bracket, with what stands before it, and the first sum of two.
pub data Opening : Type 0 where
  open_plain : ℕ → Opening
  open_one : ℕ → One → ℕ → Opening
  open_first : ℕ → Two → ℕ → Opening
  open_second : ℕ → Two → ℕ → Sum → ℕ → Opening

pub record Open : Type 0 where
  pub outer : Part
  pub opening : Opening

abbrev pub opens : Part → Opening → Open
opens l o = record { outer = l; opening = o }

-- What is read of the item that comes; an item, and spaces after it.
pub data Reading : Type 0 where
  wants : ℕ → Reading
  spells : ℕ → Spelling → Reading
  names : ℕ → Function → ℕ → Reading
  points : ℕ → Whole → Reading
  ends : Item → ℕ → Reading

pub record Partial : Type 0 where
  pub reading : Reading
  pub inner : Part
  pub stack : List Open

abbrev pub partial : Reading → Part → List Open → Partial
partial m l k = record { reading = m; inner = l; stack = k }

-- What the reader keeps of the parts.
abbrev pub sum_left : SumLeft → Left
sum_left no_sum = none
sum_left (sum_waits s n o) = waits (tree_sum s) (sum_tree o)

abbrev pub product_left : ProductLeft → Left
product_left no_product = none
product_left (product_waits p n o) = waits (tree_product p) (product_tree o)

abbrev pub is_negated : Sign → Bool
is_negated bare = false
is_negated (negated n) = true

abbrev pub level_of : Part → Level
level_of l = level (sum_left l.sums) (product_left l.products) (is_negated l.sign)

abbrev pub opener_in : Opening → Opener
opener_in (open_plain n) = opened
opener_in (open_one n f h) = called f
opener_in (open_first n f h) = first_of f
opener_in (open_second n f h s i) = second_of f (tree_sum s)

abbrev pub frames_of : List Open → List Frame
frames_of [] = []
frames_of (o ∷ k) = frame (level_of o.outer) (opener_in o.opening) ∷ frames_of k

abbrev pub end_at : Item → ℕ → Ended
end_at i zero = ending i
end_at i (suc j) = item (end_tree (ending i))

abbrev pub mode_of : Reading → Mode
mode_of (wants n) = want
mode_of (spells n p) = spelling p
mode_of (names n f h) = named f
mode_of (points n w) = point (value w.digits)
mode_of (ends i j) = after (end_at i j)

abbrev pub state_of : Partial → State
state_of d = state (mode_of d.reading) (level_of d.inner) (frames_of d.stack)

-- The bytes of the parts, before what follows them.
abbrev pub write_spelling : Spelling → List ℕ → List ℕ
write_spelling a- r = 97 ∷ r
write_spelling ab- r = 97 ∷ (98 ∷ r)
write_spelling s- r = 115 ∷ r
write_spelling sq- r = 115 ∷ (113 ∷ r)
write_spelling r- r = 114 ∷ r
write_spelling ro- r = 114 ∷ (111 ∷ r)
write_spelling roo- r = 114 ∷ (111 ∷ (111 ∷ r))
write_spelling m- r = 109 ∷ r
write_spelling mi- r = 109 ∷ (105 ∷ r)
write_spelling ma- r = 109 ∷ (97 ∷ r)

abbrev pub write_name : Function → List ℕ → List ℕ
write_name (of_one f) r = write_one f r
write_name (of_two f) r = write_two f r

abbrev pub write_reading : Reading → List ℕ → List ℕ
write_reading (wants n) r = spaces n r
write_reading (spells n p) r = spaces n (write_spelling p r)
write_reading (names n f h) r = spaces n (write_name f (spaces h r))
write_reading (points n w) r = spaces n (write_digits w.digits (46 ∷ r))
write_reading (ends i j) r = write_item i (spaces j r)

abbrev pub write_sums : SumLeft → List ℕ → List ℕ
write_sums no_sum r = r
write_sums (sum_waits s n o) r = write_sum s (spaces n (sum_byte o ∷ r))

abbrev pub write_products : ProductLeft → List ℕ → List ℕ
write_products no_product r = r
write_products (product_waits p n o) r = write_product p (spaces n (product_byte o ∷ r))

abbrev pub write_sign : Sign → List ℕ → List ℕ
write_sign bare r = r
write_sign (negated n) r = spaces n (45 ∷ r)

abbrev pub write_part : Part → List ℕ → List ℕ
write_part l r = write_sums l.sums (write_products l.products (write_sign l.sign r))

abbrev pub write_opening : Opening → List ℕ → List ℕ
write_opening (open_plain n) r = spaces n (40 ∷ r)
write_opening (open_one n f h) r = spaces n (write_one f (spaces h (40 ∷ r)))
write_opening (open_first n f h) r = spaces n (write_two f (spaces h (40 ∷ r)))
write_opening (open_second n f h s i) r = spaces n (write_two f (spaces h (40 ∷ write_sum s (spaces i (44 ∷ r)))))

abbrev pub write_stack : List Open → List ℕ → List ℕ
write_stack [] r = r
write_stack (o ∷ k) r = write_stack k (write_part o.outer (write_opening o.opening r))

abbrev pub write : Partial → List ℕ → List ℕ
write d r = write_stack d.stack (write_part d.inner (write_reading d.reading r))

-- The product and the sum that an item ends, their bytes and their trees.
abbrev pub item_signed : Sign → Item → Signed
item_signed bare i = plain i
item_signed (negated n) i = minus n i

abbrev pub signed_product : ProductLeft → Signed → Product
signed_product no_product g = signed g
signed_product (product_waits p n o) g = multiplied p n o g

abbrev pub product_sum : SumLeft → Product → Sum
product_sum no_sum p = product p
product_sum (sum_waits s n o) p = joined s n o p

abbrev pub item_product : Part → Item → Product
item_product l i = signed_product l.products (item_signed l.sign i)

abbrev pub item_sum : Part → Item → Sum
item_sum l i = product_sum l.sums (item_product l i)

pub signed_bytes : (g : Sign) (i : Item) (r : List ℕ) → write_signed (item_signed g i) r ≡ write_sign g (write_item i r)
unfolding write_sum
signed_bytes bare i r = refl
signed_bytes (negated n) i r = refl

pub product_bytes : (q : ProductLeft) (g : Signed) (r : List ℕ)
    → write_product (signed_product q g) r ≡ write_products q (write_signed g r)
unfolding write_sum
product_bytes no_product g r = refl
product_bytes (product_waits p n o) g r = refl

pub sum_bytes : (u : SumLeft) (p : Product) (r : List ℕ) → write_sum (product_sum u p) r ≡ write_sums u (write_product p r)
unfolding write_sum
sum_bytes no_sum p r = refl
sum_bytes (sum_waits s n o) p r = refl

pub item_product_bytes : (l : Part) (i : Item) (r : List ℕ)
    → write_product (item_product l i) r ≡ write_products l.products (write_sign l.sign (write_item i r))
item_product_bytes l i r =
    product_bytes l.products (item_signed l.sign i) r
    ∙ ap (write_products l.products) (signed_bytes l.sign i r)

pub item_bytes : (l : Part) (i : Item) (r : List ℕ) → write_sum (item_sum l i) r ≡ write_part l (write_item i r)
item_bytes l i r =
    sum_bytes l.sums (item_product l i) r ∙ ap (write_sums l.sums) (item_product_bytes l i r)

pub signed_tree : (g : Sign) (i : Item) → tree_signed (item_signed g i) ≡ sign_tree (is_negated g) (tree_item i)
unfolding tree_sum
signed_tree bare i = refl
signed_tree (negated n) i = refl

pub product_tree_lem : (q : ProductLeft) (g : Signed)
    → tree_product (signed_product q g) ≡ join_left (product_left q) (tree_signed g)
unfolding tree_sum
product_tree_lem no_product g = refl
product_tree_lem (product_waits p n o) g = refl

pub sum_tree_lem : (u : SumLeft) (p : Product) → tree_sum (product_sum u p) ≡ join_left (sum_left u) (tree_product p)
unfolding tree_sum
sum_tree_lem no_sum p = refl
sum_tree_lem (sum_waits s n o) p = refl

pub end_tree_lem : (i : Item) (j : ℕ) → end_tree (end_at i j) ≡ tree_item i
end_tree_lem i zero = ending_tree i
end_tree_lem i (suc j) = ending_tree i

pub item_product_tree : (l : Part) (i : Item) (j : ℕ)
    → tree_product (item_product l i) ≡ product_to (level_of l) (end_tree (end_at i j))
item_product_tree l i j =
    product_tree_lem l.products (item_signed l.sign i)
    ∙ ap (join_left (product_left l.products))
    (signed_tree l.sign i ∙ ap (sign_tree (is_negated l.sign)) (sym (end_tree_lem i j)))

pub item_sum_tree : (l : Part) (i : Item) (j : ℕ) → tree_sum (item_sum l i) ≡ sum_to (level_of l) (end_tree (end_at i j))
item_sum_tree l i j =
    sum_tree_lem l.sums (item_product l i) ∙ ap (join_left (sum_left l.sums)) (item_product_tree l i j)
