-- Formulas as text: which texts are allowed, the tree of each, and where a text breaks the rules.
use Rattle.std.specs.Prelude.{◌≡◌, Bool, true, ◌&&◌, List, [], ◌∷◌, ◌++◌, pos, ℕ, zero, suc, ◌+◌, ◌-◌, ◌*◌, ◌/◌, ◌^◌, ◌≤◌, ◌<◌, max, eqb, leb, length, get_or, take}
use Rattle.rules.specs.Values.{pick}
use Rattle.formula_rules.specs.Trees.{Unary, abs, sqr, root, negate, Axis, axisX, axisY, axisZ, Tree, number, axis, unary}
use Rattle.formula_rules.specs.Trees.{Binary, add, subtract, multiply, divide, minimum, maximum, binary}

-- "18 when a bracket, a function's too, opens inside 32 others."
abbrev pub nest_limit : ℕ
nest_limit = 32

-- "A number has 1 to 5 digits, whole part at most 32,767, then if wished a point and 1 to 4 digits". A digit is its
-- byte; the last digit of several stands outermost.
abbrev pub is_digit : ℕ → Bool
is_digit c = leb 48 c && leb c 57

pub data Digits : Type 0 where
  one : (c : ℕ) → is_digit c ≡ true → Digits
  more : Digits → (c : ℕ) → is_digit c ≡ true → Digits

unfoldable pub count : Digits → ℕ
count (one c e) = 1
count (more ds c e) = suc (count ds)

unfoldable pub value : Digits → ℕ
value (one c e) = c - 48
value (more ds c e) = 10 * value ds + (c - 48)

pub record Whole : Type 0 where
  pub digits : Digits
  pub few : count digits ≤ 5
  pub small : value digits ≤ 32767

pub record Decimals : Type 0 where
  pub digits : Digits
  pub few : count digits ≤ 4

pub data Number : Type 0 where
  whole : Whole → Number
  decimal : Whole → Decimals → Number

-- "rounded down to a unit": v and f / 10 ^ k, in units of 1/65,536.
abbrev pub whole_units : ℕ → ℕ
whole_units v = 65536 * v

abbrev pub decimal_units : ℕ → ℕ → ℕ → ℕ
decimal_units v f k = 65536 * v + 65536 * f / 10 ^ k

abbrev pub units : Number → ℕ
units (whole w) = whole_units (value w.digits)
units (decimal w d) = decimal_units (value w.digits) (value d.digits) (count d.digits)

-- The joins and the names of the text.
pub data SumJoin : Type 0 where
  plus less : SumJoin

pub data ProductJoin : Type 0 where
  times over : ProductJoin

pub data One : Type 0 where
  absName sqrName rootName : One

pub data Two : Type 0 where
  minName maxName : Two

-- "A sum is products joined by + or −; a product is signed items joined by *" or /; "an item is a number, x, y, z, a
-- bracketed sum, or abs, sqr, root of one bracketed sum, min, max of two sums in one bracket with a comma between; a
-- bracket holds a whole sum again. A sign is at most one minus". "Joining goes from the left": what was joined so far
-- stands left of the last join. Each ℕ counts the spaces before a join, a minus, a number, a name, a bracket or a
-- comma, in the order of the text.
mutual
  pub data Sum : Type 0 where
    product : Product → Sum
    joined : Sum → ℕ → SumJoin → Product → Sum

  pub data Product : Type 0 where
    signed : Signed → Product
    multiplied : Product → ℕ → ProductJoin → Signed → Product

  pub data Signed : Type 0 where
    plain : Item → Signed
    minus : ℕ → Item → Signed

  pub data Item : Type 0 where
    constant : ℕ → Number → Item
    variable : ℕ → Axis → Item
    bracket : ℕ → Sum → ℕ → Item
    call : ℕ → One → ℕ → Sum → ℕ → Item
    pair : ℕ → Two → ℕ → Sum → ℕ → Sum → ℕ → Item

-- A text ends with spaces, if wished.
pub record Text : Type 0 where
  pub sum : Sum
  pub after : ℕ

-- The bytes of a part, before what follows it. "Spaces, byte 20, before, between and after these, but not inside a
-- number or a name, are skipped."
unfoldable pub spaces : ℕ → List ℕ → List ℕ
spaces zero r = r
spaces (suc k) r = spaces k (32 ∷ r)

unfoldable pub write_digits : Digits → List ℕ → List ℕ
write_digits (one c e) r = c ∷ r
write_digits (more ds c e) r = write_digits ds (c ∷ r)

abbrev pub write_number : Number → List ℕ → List ℕ
write_number (whole w) r = write_digits w.digits r
write_number (decimal w d) r = write_digits w.digits (46 ∷ write_digits d.digits r)

abbrev pub axis_byte : Axis → ℕ
axis_byte axisX = 120
axis_byte axisY = 121
axis_byte axisZ = 122

abbrev pub sum_byte : SumJoin → ℕ
sum_byte plus = 43
sum_byte less = 45

abbrev pub product_byte : ProductJoin → ℕ
product_byte times = 42
product_byte over = 47

abbrev pub write_one : One → List ℕ → List ℕ
write_one absName r = 97 ∷ (98 ∷ (115 ∷ r))
write_one sqrName r = 115 ∷ (113 ∷ (114 ∷ r))
write_one rootName r = 114 ∷ (111 ∷ (111 ∷ (116 ∷ r)))

abbrev pub write_two : Two → List ℕ → List ℕ
write_two minName r = 109 ∷ (105 ∷ (110 ∷ r))
write_two maxName r = 109 ∷ (97 ∷ (120 ∷ r))

unfoldable mutual
  pub write_sum : Sum → List ℕ → List ℕ
  write_sum (product p) r = write_product p r
  write_sum (joined s k o p) r = write_sum s (spaces k (sum_byte o ∷ write_product p r))

  pub write_product : Product → List ℕ → List ℕ
  write_product (signed g) r = write_signed g r
  write_product (multiplied p k o g) r = write_product p (spaces k (product_byte o ∷ write_signed g r))

  pub write_signed : Signed → List ℕ → List ℕ
  write_signed (plain i) r = write_item i r
  write_signed (minus k i) r = spaces k (45 ∷ write_item i r)

  pub write_item : Item → List ℕ → List ℕ
  write_item (constant k n) r = spaces k (write_number n r)
  write_item (variable k a) r = spaces k (axis_byte a ∷ r)
  write_item (bracket k s j) r = spaces k (40 ∷ write_sum s (spaces j (41 ∷ r)))
  write_item (call k f h s j) r = spaces k (write_one f (spaces h (40 ∷ write_sum s (spaces j (41 ∷ r)))))
  write_item (pair k f h s i t j) r =
      spaces k (write_two f (spaces h (40 ∷ write_sum s (spaces i (44 ∷ write_sum t (spaces j (41 ∷ r)))))))

unfoldable pub bytes_of : Text → List ℕ
bytes_of t = write_sum t.sum (spaces t.after [])

-- The tree of a part: "minus before an item is negate".
abbrev pub sum_tree : SumJoin → Binary
sum_tree plus = add
sum_tree less = subtract

abbrev pub product_tree : ProductJoin → Binary
product_tree times = multiply
product_tree over = divide

abbrev pub one_tree : One → Unary
one_tree absName = abs
one_tree sqrName = sqr
one_tree rootName = root

abbrev pub two_tree : Two → Binary
two_tree minName = minimum
two_tree maxName = maximum

unfoldable mutual
  pub tree_sum : Sum → Tree
  tree_sum (product p) = tree_product p
  tree_sum (joined s k o p) = binary (sum_tree o) (tree_sum s) (tree_product p)

  pub tree_product : Product → Tree
  tree_product (signed g) = tree_signed g
  tree_product (multiplied p k o g) = binary (product_tree o) (tree_product p) (tree_signed g)

  pub tree_signed : Signed → Tree
  tree_signed (plain i) = tree_item i
  tree_signed (minus k i) = unary negate (tree_item i)

  pub tree_item : Item → Tree
  tree_item (constant k n) = number (pos (units n))
  tree_item (variable k a) = axis a
  tree_item (bracket k s j) = tree_sum s
  tree_item (call k f h s j) = unary (one_tree f) (tree_sum s)
  tree_item (pair k f h s i t j) = binary (two_tree f) (tree_sum s) (tree_sum t)

unfoldable pub tree_of : Text → Tree
tree_of t = tree_sum t.sum

-- How many brackets stand inside each other where most do.
unfoldable mutual
  pub nest_sum : Sum → ℕ
  nest_sum (product p) = nest_product p
  nest_sum (joined s k o p) = max (nest_sum s) (nest_product p)

  pub nest_product : Product → ℕ
  nest_product (signed g) = nest_signed g
  nest_product (multiplied p k o g) = max (nest_product p) (nest_signed g)

  pub nest_signed : Signed → ℕ
  nest_signed (plain i) = nest_item i
  nest_signed (minus k i) = nest_item i

  pub nest_item : Item → ℕ
  nest_item (constant k n) = 0
  nest_item (variable k a) = 0
  nest_item (bracket k s j) = suc (nest_sum s)
  nest_item (call k f h s j) = suc (nest_sum s)
  nest_item (pair k f h s i t j) = suc (max (nest_sum s) (nest_sum t))

unfoldable pub nest_of : Text → ℕ
nest_of t = nest_sum t.sum

-- An allowed text; some allowed text, of any depth, begins with p. By texts of at most 32 brackets 17 would come first at
-- every deep one, and 18 never.
pub record Allowed (s : List ℕ) : Type 0 where
  pub text : Text
  pub writes : bytes_of text ≡ s

pub record CanBegin (p : List ℕ) : Type 0 where
  pub text : Text
  pub rest : List ℕ
  pub writes : bytes_of text ≡ p ++ rest

-- An allowed text of the tree t whose brackets stand at most 32 inside each other.
pub record ReadsAs (s : List ℕ) (t : Tree) : Type 0 where
  pub text : Text
  pub writes : bytes_of text ≡ s
  pub tree : tree_of text ≡ t
  pub nests : nest_of text ≤ nest_limit

-- How many brackets are open after the bytes p, n being open before them.
abbrev pub open_after : ℕ → ℕ → ℕ
open_after n b = pick (eqb b 40) (suc n) (pick (eqb b 41) (n - 1) n)

unfoldable pub inside_from : ℕ → List ℕ → ℕ
inside_from n [] = n
inside_from n (b ∷ p) = inside_from (open_after n b) p

abbrev pub inside : List ℕ → ℕ
inside p = inside_from 0 p

-- No bracket of p opens inside 32 others.
pub record Shallow (p : List ℕ) : Type 0 where
  pub each : (q r : List ℕ) → p ≡ q ++ 40 ∷ r → inside q < nest_limit

-- "17 when the text breaks these rules, met at the first byte that no allowed text could have there, or at the end", no
-- deep bracket being met before: the bytes before byte n begin an allowed text, those up to it begin none; or n is the
-- end and the whole text is not allowed.
pub record BreaksAt (text : List ℕ) (n : ℕ) : Type 0 where
  pub within : n ≤ length text
  pub before : CanBegin (take n text)
  pub here : n < length text → CanBegin (take (suc n) text) → ⊥
  pub ends : n ≡ length text → Allowed text → ⊥
  pub shallow : Shallow (take n text)

-- "18 when a bracket, a function's too, opens inside 32 others", none did before, and "at one byte, 17": so it is one
-- that an allowed text could have there.
pub record DeepAt (text : List ℕ) (n : ℕ) : Type 0 where
  pub within : n < length text
  pub opens : get_or text n 0 ≡ 40
  pub can : CanBegin (take (suc n) text)
  pub deep : nest_limit ≤ inside (take n text)
  pub shallow : Shallow (take n text)
