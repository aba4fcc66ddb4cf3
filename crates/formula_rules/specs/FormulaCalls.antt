-- What calls that read a sum, a product, a signed item or an item promise of the reader's answer: whatever stands
-- outside the part, the answer before it is the answer after it, or the part stops the reader. Only such calls'
-- contracts cite these.
use Rattle.std.specs.Prelude.{◌≡◌, false, List, ◌≢◌, ℕ, ◌≤◌, ◌<◌, length, get_or, drop}
use Rattle.formula_rules.specs.Trees.{Tree}
use Rattle.formula_rules.specs.FormulaReader.{Left, none, Level, level, fresh, join_left, Frame, item, want, after, Mode}
use Rattle.formula_rules.specs.FormulaReader.{State, Opener, push, state, Answer, answer}

-- After an item of the tree t.
abbrev pub at_end : Tree → Level → List Frame → State
at_end t l k = state (after (item t)) l k

-- The byte at a place, if there is one, is neither a space nor * nor /; nor + nor -.
pub record NoTimes (text : List ℕ) (n : ℕ) : Type 0 where
  pub space : n < length text → get_or text n 0 ≢ 32
  pub times : n < length text → get_or text n 0 ≢ 42
  pub over : n < length text → get_or text n 0 ≢ 47

pub record NoPlus (text : List ℕ) (n : ℕ) : Type 0 where
  pub plus : n < length text → get_or text n 0 ≢ 43
  pub less : n < length text → get_or text n 0 ≢ 45

-- Spaces from n up to j, and no more.
pub record Blank (text : List ℕ) (n j : ℕ) : Type 0 where
  pub from : n ≤ j
  pub within : j ≤ length text
  pub each : (i : ℕ) → n ≤ i → i < j → get_or text i 0 ≡ 32
  pub ends : j < length text → get_or text j 0 ≢ 32

-- From place n, inside d brackets, a part of the tree t is read up to place m; the whole part, if no join follows.
pub record SumUpTo (text : List ℕ) (n d m : ℕ) (t : Tree) : Type 0 where
  pub same : (k : List Frame) → length k ≡ d
      → answer n (state want fresh k) (drop n text) ≡ answer m (at_end t fresh k) (drop m text)
  pub within : m ≤ length text
  pub no_times : NoTimes text m

pub record SumRead (text : List ℕ) (n d m : ℕ) (t : Tree) : Type 0 where
  pub up_to : SumUpTo text n d m t
  pub no_plus : NoPlus text m

pub record ProductUpTo (text : List ℕ) (n d m : ℕ) (t : Tree) : Type 0 where
  pub same : (u : Left) (k : List Frame) → length k ≡ d
      → answer n (state want (level u none false) k) (drop n text)
      ≡ answer m (at_end t (level u none false) k) (drop m text)
  pub within : m ≤ length text

pub record ProductRead (text : List ℕ) (n d m : ℕ) (t : Tree) : Type 0 where
  pub up_to : ProductUpTo text n d m t
  pub no_times : NoTimes text m

-- With the product q waiting left of it.
pub record SignedRead (text : List ℕ) (n d m : ℕ) (t : Tree) : Type 0 where
  pub same : (u q : Left) (k : List Frame) → length k ≡ d
      → answer n (state want (level u q false) k) (drop n text)
      ≡ answer m (at_end (join_left q t) (level u none false) k) (drop m text)
  pub within : m ≤ length text

-- An item that a minus has not begun, or whose byte is none.
abbrev pub Unsigned : List ℕ → ℕ → Level → Type 0
Unsigned text n l = l.negative ≡ false → n < length text → get_or text n 0 ≢ 45

pub record ItemRead (text : List ℕ) (n d m : ℕ) (t : Tree) : Type 0 where
  pub same : (l : Level) (k : List Frame) → length k ≡ d → Unsigned text n l
      → answer n (state want l k) (drop n text) ≡ answer m (at_end t l k) (drop m text)
  pub within : m ≤ length text

-- From place n an item is read up to place m, where the reader has read its letters, its name or its digits.
pub record ModeRead (text : List ℕ) (n m : ℕ) (w : Mode) : Type 0 where
  pub same : (l : Level) (k : List Frame) → Unsigned text n l
      → answer n (state want l k) (drop n text) ≡ answer m (state w l k) (drop m text)
  pub within : m ≤ length text

-- From place n an item's bracket o is open at place m.
pub record OpenRead (text : List ℕ) (n d m : ℕ) (o : Opener) : Type 0 where
  pub same : (l : Level) (k : List Frame) → length k ≡ d → Unsigned text n l
      → answer n (state want l k) (drop n text) ≡ answer m (push o l k) (drop m text)

-- The reader stops inside the part with the answer a.
pub record SumStops (text : List ℕ) (n d : ℕ) (a : Answer) : Type 0 where
  pub same : (k : List Frame) → length k ≡ d → answer n (state want fresh k) (drop n text) ≡ a

pub record ProductStops (text : List ℕ) (n d : ℕ) (a : Answer) : Type 0 where
  pub same : (u : Left) (k : List Frame) → length k ≡ d → answer n (state want (level u none false) k) (drop n text) ≡ a

pub record SignedStops (text : List ℕ) (n d : ℕ) (a : Answer) : Type 0 where
  pub same : (u q : Left) (k : List Frame) → length k ≡ d → answer n (state want (level u q false) k) (drop n text) ≡ a

pub record ItemStops (text : List ℕ) (n d : ℕ) (a : Answer) : Type 0 where
  pub same : (l : Level) (k : List Frame) → length k ≡ d → Unsigned text n l
      → answer n (state want l k) (drop n text) ≡ a
