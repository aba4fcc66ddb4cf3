-- What stands at the front of an item: a number or an axis, which is the whole item; a bracket, its own or a name's.
use Rattle.std.specs.Prelude.{◌≡◌, false, List, [], ◌∷◌, ◌≢◌, ℕ, suc, ◌+◌, ◌≤◌, ◌<◌, ◌⊎◌, eqb, length}
use Rattle.std.specs.Prelude.{Option, None, Some, Result, Ok, Err}
use Rattle.formula_rules.specs.Trees.{Tree}
use Rattle.formula_rules.specs.Formulas.{nest_limit, One, Two, one_tree, two_tree}
use Rattle.formula_rules.specs.FormulaReader.{Level, Frame, Opener, opened, called, first_of, Spelling}
use Rattle.formula_rules.specs.FormulaReader.{Mode, m-, spelling, named, state, no, go, move_in, Answer, breaks, deep}
use Rattle.formula_rules.specs.FormulaReader as reader
use Rattle.formula_rules.specs.FormulaCalls.{ItemRead, ItemStops, ModeRead, OpenRead}
use Rattle.formula_rules.specs.FormulaDepths.{clauses_at}
use Rattle.formula.specs.declared.text.Stop.{Stop}
use Rattle.formula.specs.declared.text.Stop.TheVariants as stop
use Rattle.formula.specs.declared.digits.Decimal.{Decimal}
use Rattle.formula.specs.declared.head.Front.{Front}
use Rattle.formula.specs.declared.head.Front.TheVariants as head
use Rattle.formula.specs.declared.head.Name.{Name}
use Rattle.formula.specs.declared.steps.Unary.{Unary}
use Rattle.formula.specs.declared.steps.Binary.{Binary}
use Rattle.formula.specs.declared.steps.Function.{Function}
use Rattle.formula.specs.declared.steps.Step.{Step}
use Rattle.formula.specs.declared.steps.Step.TheVariants as kind
use Rattle.formula.specs.Bytes.{Here, NotHere, NoDigit}
use Rattle.formula.specs.Steps.{unary_of, binary_of, Means, step_of, IsSmall}

abbrev pub answer_of : Stop → Answer
answer_of (stop.Breaks n) = breaks n
answer_of (stop.Deep n) = deep n

-- An item of one clause, from place n up to place m.
pub record LeafAt (text : List ℕ) (n m : ℕ) (x : Step) : Type 0 where
  pub tree : Tree
  pub read : (d : ℕ) → ItemRead text n d m tree
  pub clause : (s : ℕ) → clauses_at s tree ≡ step_of x s ∷ []
  pub small : IsSmall x
  pub on : n < m
  pub within : m ≤ length text

-- The reader stops inside the item at n; there the text breaks the rules, at place j.
pub record StopsIn (text : List ℕ) (n : ℕ) (s : Stop) : Type 0 where
  pub stops : (d : ℕ) → ItemStops text n d (answer_of s)

abbrev pub BreaksIn : List ℕ → ℕ → ℕ → Type 0
BreaksIn text n j = StopsIn text n (stop.Breaks j)

pub record NoSpace (text : List ℕ) (n : ℕ) : Type 0 where
  pub none : NotHere text n 32

-- Neither a digit nor a bracket nor an axis.
pub record NoLeaf (text : List ℕ) (n : ℕ) : Type 0 where
  pub digit : NoDigit text n
  pub space : NotHere text n 32
  pub bracket : NotHere text n 40
  pub x : NotHere text n 120
  pub y : NotHere text n 121
  pub z : NotHere text n 122

abbrev pub NumberAt : List ℕ → ℕ → Result (Option Decimal) Stop → Type 0
NumberAt text n (Ok None) = NoDigit text n
NumberAt text n (Ok (Some x)) = LeafAt text n x.end (kind.Number x.units)
NumberAt text n (Err s) = StopsIn text n s

-- A name and its function.
pub record NameAt (text : List ℕ) (n : ℕ) (x : Name) : Type 0 where
  pub function : reader.Function
  pub read : ModeRead text n x.end (named function)
  pub means : Means x.function function
  pub on : n < x.end

abbrev pub WordAt : List ℕ → ℕ → Result Name Stop → Type 0
WordAt text n (Ok x) = NameAt text n x
WordAt text n (Err s) = StopsIn text n s

-- The last letters of a function's name: all of them stand there, or the text breaks off at the first that does not.
unfoldable pub Spelt : List ℕ → ℕ → List ℕ → Function → Result Name Stop → Type 0
Spelt text n [] f r = r ≡ Ok (record { end = n; function = f })
Spelt text n (b ∷ bs) f r =
    (Here text n b × Spelt text (n + 1) bs f r) ⊎ (NotHere text n b × (r ≡ Err (stop.Breaks n)))

-- After the letters p the byte b alone leads on, to w.
pub record Spells (p : Spelling) (b : ℕ) (w : Mode) : Type 0 where
  pub goes : (l : Level) (k : List Frame) → move_in (spelling p) l k b ≡ go (state w l k)
  pub stops : (c : ℕ) → c ≢ b → (l : Level) (k : List Frame) → move_in (spelling p) l k c ≡ no
  pub closed : eqb b 40 ≡ false

-- After an m.
pub record AfterM (text : List ℕ) (m : ℕ) (r : Result Name Stop) : Type 0 where
  pub says : (n : ℕ) → n < m → ModeRead text n m (spelling m-) → WordAt text n r

-- The bracket o of the item at n opens at place j.
pub record OpensAt (text : List ℕ) (n j : ℕ) (o : Opener) : Type 0 where
  pub on : n ≤ j
  pub within : j < length text
  pub opens : (d : ℕ) → d < nest_limit → OpenRead text n d (suc j) o
  pub stops : (d : ℕ) → nest_limit ≤ d → ItemStops text n d (deep j)

-- The operation that follows what a bracket holds, if one does.
pub data Follows : Opener → Option Unary → Type 0 where
  nothing : Follows opened None
  one : (f : One) (u : Unary) → unary_of u ≡ one_tree f → Follows (called f) (Some u)

pub record OneAt (text : List ℕ) (n j : ℕ) (o : Option Unary) : Type 0 where
  pub opener : Opener
  pub follows : Follows opener o
  pub opens : OpensAt text n j opener

pub record TwoAt (text : List ℕ) (n j : ℕ) (b : Binary) : Type 0 where
  pub name : Two
  pub same : binary_of b ≡ two_tree name
  pub opens : OpensAt text n j (first_of name)

abbrev pub HeadAt : List ℕ → ℕ → Result Front Stop → Type 0
HeadAt text n (Ok (head.Leaf m x)) = LeafAt text n m x
HeadAt text n (Ok (head.One j o)) = OneAt text n j o
HeadAt text n (Ok (head.Two j b)) = TwoAt text n j b
HeadAt text n (Err s) = StopsIn text n s
