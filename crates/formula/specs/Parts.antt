-- What the calls that read sums, products and items promise: of the reader's answer, of the sheet, and of the place.
use Rattle.std.specs.Prelude.{◌≡◌, List, ℕ, suc, ◌+◌, ◌≤◌, ◌<◌, length, Option, Result, Ok, Err}
use Rattle.formula_rules.specs.Trees.{Tree}
use Rattle.formula_rules.specs.Formulas.{Two, two_tree}
use Rattle.formula_rules.specs.FormulaReader.{Opener, first_of, Answer, breaks}
use Rattle.formula_rules.specs.FormulaCalls.{SumRead, SumStops, ProductUpTo, ItemRead, ItemStops, OpenRead}
use Rattle.formula_rules.specs.FormulaDepths.{clauses_at, emit_all}
use Rattle.formula.specs.declared.sheet.Sheet.{Sheet}
use Rattle.formula.specs.declared.text.Stop.{Stop}
use Rattle.formula.specs.declared.text.Stop.TheVariants as stop
use Rattle.formula.specs.declared.steps.Unary.{Unary}
use Rattle.formula.specs.declared.steps.Binary.{Binary}
use Rattle.formula.specs.Bytes.{Here, NotHere}
use Rattle.formula.specs.Steps.{binary_of}
use Rattle.formula.specs.Sheets.{sheet_on}
use Rattle.formula.specs.Heads.{answer_of, NoSpace, Follows}

-- No more clauses are written than bytes are read, and no more slots wait than clauses are written, inside at most 32
-- brackets.
pub record Room (text : List ℕ) (s : Sheet) (n slot depth : ℕ) : Type 0 where
  pub within : n ≤ length text
  pub paid : s.count ≤ n
  pub waits : slot ≤ s.count
  pub nest : depth ≤ 32

-- At the front of an item, where no space stands.
pub record ItemRoom (text : List ℕ) (s : Sheet) (n slot depth : ℕ) : Type 0 where
  pub room : Room text s n slot depth
  pub front : NoSpace text n

-- A part of some tree was read, from place n to place m, and the tree's clauses were written on the sheet.
pub record Got (R : ℕ → Tree → Type 0) (text : List ℕ) (n slot : ℕ) (s s' : Sheet) (m : ℕ) : Type 0 where
  pub tree : Tree
  pub read : R m tree
  pub within : m ≤ length text
  pub sheet : sheet_on s' ≡ emit_all (clauses_at slot tree) (sheet_on s)
  pub more : s.count < s'.count
  pub paid : s'.count + n ≤ m + s.count

-- So, or the reader stopped inside it.
abbrev pub Reads : (ℕ → Tree → Type 0) → (Answer → Type 0) → List ℕ → ℕ → ℕ → Sheet → Sheet → Result ℕ Stop → Type 0
Reads R S text n slot s s' (Ok m) = Got R text n slot s s' m
Reads R S text n slot s s' (Err e) = S (answer_of e)

-- Inside one more bracket, which opens at place j, unless that is too deep.
pub record Inside (depth d : ℕ) : Type 0 where
  pub shallow : depth < 32
  pub more : d ≡ depth + 1

pub record TooDeep (depth j : ℕ) (s : Stop) : Type 0 where
  pub full : 32 ≤ depth
  pub stop : s ≡ stop.Deep j

abbrev pub Deeper : ℕ → ℕ → Result ℕ Stop → Type 0
Deeper depth j (Ok d) = Inside depth d
Deeper depth j (Err s) = TooDeep depth j s

-- A sum from n on and the byte b after it; none, or another byte or the end after it.
pub record EndedBy (text : List ℕ) (n d b m : ℕ) (t : Tree) : Type 0 where
  pub end : ℕ
  pub sum : SumRead text n d end t
  pub here : Here text end b
  pub next : m ≡ suc end

pub data NotEnded (text : List ℕ) (n d b : ℕ) : Answer → Type 0 where
  inside : (a : Answer) → SumStops text n d a → NotEnded text n d b a
  after : (m : ℕ) (t : Tree) → SumRead text n d m t → NotHere text m b → NotEnded text n d b (breaks m)

-- What a bracket holds, whatever item at i it is of.
pub record OneSays (text : List ℕ) (n slot depth : ℕ) (o : Option Unary) (s s' : Sheet) (r : Result ℕ Stop)
    : Type 0 where
  pub says : (i d : ℕ) (p : Opener) → suc d ≡ depth → Follows p o → OpenRead text i d n p
      → Reads (ItemRead text i d) (ItemStops text i d) text n slot s s' r

pub record TwoSays (text : List ℕ) (n slot depth : ℕ) (b : Binary) (s s' : Sheet) (r : Result ℕ Stop) : Type 0 where
  pub says : (i d : ℕ) (f : Two) → suc d ≡ depth → binary_of b ≡ two_tree f → OpenRead text i d n (first_of f)
      → Reads (ItemRead text i d) (ItemStops text i d) text n slot s s' r

-- A part of a product, up to where no space stands.
pub record ProductSoFar (text : List ℕ) (n d m : ℕ) (t : Tree) : Type 0 where
  pub up_to : ProductUpTo text n d m t
  pub ends : NotHere text m 32
