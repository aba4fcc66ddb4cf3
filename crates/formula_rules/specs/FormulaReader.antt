-- The reader of a formula's text: a byte at a time, from a state to the next. What it accepts, and where it stops, is
-- proved to be what the grammar says.
use Rattle.std.specs.Prelude.{Bool, true, false, ◌&&◌, List, [], ◌∷◌, pos, ℕ, suc, ◌+◌, ◌-◌, ◌*◌, eqb, leb, length}
use Rattle.rules.specs.Values.{pick}
use Rattle.formula_rules.specs.Trees.{Tree, Binary, number, axis, unary, binary, negate, add, subtract, multiply, divide}
use Rattle.formula_rules.specs.Trees.{axisX, axisY, axisZ}
use Rattle.formula_rules.specs.Formulas.{One, absName, sqrName, rootName, Two, minName, maxName, one_tree, two_tree}
use Rattle.formula_rules.specs.Formulas.{nest_limit, is_digit, whole_units, decimal_units}

-- What waits inside one bracket, left of the item that comes: a sum with its join, a product with its join, a minus.
pub data Left : Type 0 where
  none : Left
  waits : Tree → Binary → Left

pub record Level : Type 0 where
  pub sums : Left
  pub products : Left
  pub negative : Bool

abbrev pub level : Left → Left → Bool → Level
level s p n = record { sums = s; products = p; negative = n }

abbrev pub fresh : Level
fresh = level none none false

abbrev pub join_left : Left → Tree → Tree
join_left none t = t
join_left (waits s o) t = binary o s t

abbrev pub sign_tree : Bool → Tree → Tree
sign_tree false t = t
sign_tree true t = unary negate t

-- The product, and the sum, that an item ends.
abbrev pub product_to : Level → Tree → Tree
product_to l t = join_left l.products (sign_tree l.negative t)

abbrev pub sum_to : Level → Tree → Tree
sum_to l t = join_left l.sums (product_to l t)

-- An open bracket: what waits outside it, and whose it is. The second sum of a min or a max has the first beside it.
pub data Opener : Type 0 where
  opened : Opener
  called : One → Opener
  first_of : Two → Opener
  second_of : Two → Tree → Opener

pub record Frame : Type 0 where
  pub outer : Level
  pub opener : Opener

abbrev pub frame : Level → Opener → Frame
frame l o = record { outer = l; opener = o }

-- The letters of a name that are read while some are missing.
pub data Spelling : Type 0 where
  a- ab- s- sq- r- ro- roo- m- mi- ma- : Spelling

pub data Function : Type 0 where
  of_one : One → Function
  of_two : Two → Function

-- An item that may be over: its tree; or a whole part v of k digits; or v and k decimals f.
pub data Ended : Type 0 where
  item : Tree → Ended
  digits : ℕ → ℕ → Ended
  decimals : ℕ → ℕ → ℕ → Ended

abbrev pub end_tree : Ended → Tree
end_tree (item t) = t
end_tree (digits v k) = number (pos (whole_units v))
end_tree (decimals v f k) = number (pos (decimal_units v f k))

-- What was read last: nothing of the item that must come; some letters of a name; a name; a point after the whole part
-- v; an item.
pub data Mode : Type 0 where
  want : Mode
  spelling : Spelling → Mode
  named : Function → Mode
  point : ℕ → Mode
  after : Ended → Mode

pub record State : Type 0 where
  pub mode : Mode
  pub inner : Level
  pub stack : List Frame

abbrev pub state : Mode → Level → List Frame → State
state m l k = record { mode = m; inner = l; stack = k }

abbrev pub start : State
start = state want fresh []

-- Where a byte leads: nowhere, or to a state. Rows of bytes and states.
pub data Move : Type 0 where
  no : Move
  go : State → Move

pub record Row : Type 0 where
  pub byte : ℕ
  pub next : State

abbrev pub row : ℕ → State → Row
row b s = record { byte = b; next = s }

unfoldable pub choose : List Row → ℕ → Move
choose [] b = no
choose (w ∷ ws) b = pick (eqb b w.byte) (go w.next) (choose ws b)

-- The bracket of an item, and of a function.
abbrev pub opener_of : Function → Opener
opener_of (of_one f) = called f
opener_of (of_two f) = first_of f

abbrev pub push : Opener → Level → List Frame → State
push o l k = state want fresh (frame l o ∷ k)

abbrev pub want_rows : Level → List Frame → List Row
want_rows l k =
    row 32 (state want l k)
    ∷ (row 40 (push opened l k)
    ∷ (row 120 (state (after (item (axis axisX))) l k)
    ∷ (row 121 (state (after (item (axis axisY))) l k)
    ∷ (row 122 (state (after (item (axis axisZ))) l k)
    ∷ (row 97 (state (spelling a-) l k)
    ∷ (row 115 (state (spelling s-) l k)
    ∷ (row 114 (state (spelling r-) l k) ∷ (row 109 (state (spelling m-) l k) ∷ []))))))))

abbrev pub spell_rows : Spelling → Level → List Frame → List Row
spell_rows a- l k = row 98 (state (spelling ab-) l k) ∷ []
spell_rows ab- l k = row 115 (state (named (of_one absName)) l k) ∷ []
spell_rows s- l k = row 113 (state (spelling sq-) l k) ∷ []
spell_rows sq- l k = row 114 (state (named (of_one sqrName)) l k) ∷ []
spell_rows r- l k = row 111 (state (spelling ro-) l k) ∷ []
spell_rows ro- l k = row 111 (state (spelling roo-) l k) ∷ []
spell_rows roo- l k = row 116 (state (named (of_one rootName)) l k) ∷ []
spell_rows m- l k = row 105 (state (spelling mi-) l k) ∷ (row 97 (state (spelling ma-) l k) ∷ [])
spell_rows mi- l k = row 110 (state (named (of_two minName)) l k) ∷ []
spell_rows ma- l k = row 120 (state (named (of_two maxName)) l k) ∷ []

abbrev pub named_rows : Function → Level → List Frame → List Row
named_rows f l k = row 32 (state (named f) l k) ∷ (row 40 (push (opener_of f) l k) ∷ [])

-- The byte that ends the sum t in its bracket.
abbrev pub close_row : Opener → Level → List Frame → Tree → Row
close_row opened l k t = row 41 (state (after (item t)) l k)
close_row (called f) l k t = row 41 (state (after (item (unary (one_tree f) t))) l k)
close_row (first_of f) l k t = row 44 (push (second_of f t) l k)
close_row (second_of f s) l k t = row 41 (state (after (item (binary (two_tree f) s t))) l k)

abbrev pub close_rows : List Frame → Tree → List Row
close_rows [] t = []
close_rows (f ∷ k) t = close_row f.opener f.outer k t ∷ []

abbrev pub join_rows : Level → List Frame → Tree → List Row
join_rows l k t =
    row 32 (state (after (item t)) l k)
    ∷ (row 42 (state want (level l.sums (waits (product_to l t) multiply) false) k)
    ∷ (row 47 (state want (level l.sums (waits (product_to l t) divide) false) k)
    ∷ (row 43 (state want (level (waits (sum_to l t) add) none false) k)
    ∷ (row 45 (state want (level (waits (sum_to l t) subtract) none false) k) ∷ close_rows k (sum_to l t)))))

-- A digit d more, if it may stand there; a point.
abbrev pub when_fits : Bool → State → Move
when_fits true s = go s
when_fits false s = no

abbrev pub digit_move : Ended → ℕ → Level → List Frame → Move
digit_move (item t) d l k = no
digit_move (digits v n) d l k =
    when_fits (leb (suc n) 5 && leb (10 * v + d) 32767) (state (after (digits (10 * v + d) (suc n))) l k)
digit_move (decimals v f n) d l k = when_fits (leb (suc n) 4) (state (after (decimals v (10 * f + d) (suc n))) l k)

abbrev pub point_move : Ended → Level → List Frame → Move
point_move (item t) l k = no
point_move (digits v n) l k = go (state (point v) l k)
point_move (decimals v f n) l k = no

-- One minus at most stands before an item.
abbrev pub minus_move : Level → List Frame → Move
minus_move l k = pick l.negative no (go (state want (level l.sums l.products true) k))

unfoldable pub move_in : Mode → Level → List Frame → ℕ → Move
move_in want l k b =
    pick (is_digit b) (go (state (after (digits (b - 48) 1)) l k))
    (pick (eqb b 45) (minus_move l k) (choose (want_rows l k) b))
move_in (spelling p) l k b = choose (spell_rows p l k) b
move_in (named f) l k b = choose (named_rows f l k) b
move_in (point v) l k b = pick (is_digit b) (go (state (after (decimals v (b - 48) 1)) l k)) no
move_in (after e) l k b =
    pick (is_digit b) (digit_move e (b - 48) l k)
    (pick (eqb b 46) (point_move e l k) (choose (join_rows l k (end_tree e)) b))

abbrev pub move : State → ℕ → Move
move s b = move_in s.mode s.inner s.stack b

-- The answer: a tree, or 17 or 18 at a byte, counted from 0.
pub data Answer : Type 0 where
  done : Tree → Answer
  breaks : ℕ → Answer
  deep : ℕ → Answer

abbrev pub too_deep : State → ℕ → Bool
too_deep s b = eqb b 40 && leb nest_limit (length s.stack)

abbrev pub end_in : Mode → Level → List Frame → ℕ → Answer
end_in want l k n = breaks n
end_in (spelling p) l k n = breaks n
end_in (named f) l k n = breaks n
end_in (point v) l k n = breaks n
end_in (after e) l [] n = done (sum_to l (end_tree e))
end_in (after e) l (f ∷ k) n = breaks n

abbrev pub onward : Move → Bool → ℕ → (State → Answer) → Answer
onward no d n f = breaks n
onward (go s) true n f = deep n
onward (go s) false n f = f s

unfoldable pub answer : ℕ → State → List ℕ → Answer
answer n s [] = end_in s.mode s.inner s.stack n
answer n s (b ∷ r) = onward (move s b) (too_deep s b) n (λ t. answer (suc n) t r)

unfoldable pub reader : List ℕ → Answer
reader text = answer 0 start text
