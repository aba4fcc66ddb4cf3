-- Figures about the tape of a tree, for request T-02, as rows of one list: what a definition gives, and what is said.
use mathlib.Core.Path.{◌≡◌, refl}
use mathlib.Core.List.{List, [], ◌∷◌, ◌++◌, map}
use lib.IntN.{pos}
use Prim.Native.Nat.{ℕ, zero, suc}
use lib.ListN.{length}
use Rattle.rules.specs.Values.{pick}
use Rattle.rules.specs.Tapes.{edition}
use Rattle.rules.specs.Tapes.{is_in, clause_bytes, tape_bytes}
use Rattle.formula_rules.specs.Trees.{negate, add, multiply, divide, maximum, axisX, axisY, axisZ, Tree, number}
use Rattle.formula_rules.specs.Trees.{axis, unary, binary}
use Rattle.formula_rules.specs.FormulaTapes.{parts, beyond, lowest_from, lowest, placed, tape_of, fits_text}
use Rattle.rules.proofs.Figures.{Row}

abbrev x : Tree
x = axis axisX

abbrev y : Tree
y = axis axisY

abbrev z : Tree
z = axis axisZ

-- `-x*y+1.5`: minus before an item is negate of that item; a product is joined before a sum.
abbrev negated : Tree
negated = binary add (binary multiply (unary negate x) y) (number (pos 98304))

-- `x/y*z`: joining goes from the left.
abbrev quotients : Tree
quotients = binary multiply (binary divide x y) z

-- t and n more x joined by +.
abbrev joined : ℕ → Tree → Tree
joined zero t = t
joined (suc n) t = binary add (joined n t) x

-- `x+x*max(x,` n times, t, n `)`.
abbrev nested : ℕ → Tree → Tree
nested zero t = t
nested (suc n) t = binary add x (binary multiply x (binary maximum x (nested n t)))

-- Bytes, opcodes, and a tape's clauses, slots and whether it fits (1).
abbrev numbers : List ℕ → List ℕ → Row
numbers ns ms = record { given = map pos ns; said = map pos ms }

abbrev opcodes : Tree → List ℕ
opcodes t = map (λ c. c.opcode) (tape_of t).clauses

abbrev counts : Tree → ℕ → ℕ → ℕ → Row
counts t k n f =
    let u = tape_of t in
    numbers (length u.clauses ∷ (u.slots ∷ (pick (fits_text u) 1 0 ∷ []))) (k ∷ (n ∷ (f ∷ [])))

abbrev rows : List Row
rows =
    numbers (tape_bytes (tape_of negated))
    ((84 ∷ (80 ∷ (1 ∷ (2 ∷ (6 ∷ (0 ∷ (0 ∷ (0 ∷ []))))))))
    ++ ((67 ∷ (76 ∷ (1 ∷ (0 ∷ (0 ∷ (0 ∷ (0 ∷ (0 ∷ (0 ∷ (0 ∷ []))))))))))
    ++ ((67 ∷ (76 ∷ (5 ∷ (0 ∷ (0 ∷ (0 ∷ (0 ∷ (0 ∷ (0 ∷ (0 ∷ []))))))))))
    ++ ((67 ∷ (76 ∷ (2 ∷ (1 ∷ (0 ∷ (0 ∷ (0 ∷ (0 ∷ (0 ∷ (0 ∷ []))))))))))
    ++ ((67 ∷ (76 ∷ (11 ∷ (0 ∷ (0 ∷ (1 ∷ (0 ∷ (0 ∷ (0 ∷ (0 ∷ []))))))))))
    ++ ((67 ∷ (76 ∷ (0 ∷ (1 ∷ (0 ∷ (0 ∷ (0 ∷ (128 ∷ (1 ∷ (0 ∷ []))))))))))
    ++ (67 ∷ (76 ∷ (9 ∷ (0 ∷ (0 ∷ (1 ∷ (0 ∷ (0 ∷ (0 ∷ (0 ∷ []))))))))))))))))
    ∷ (numbers (opcodes quotients) (1 ∷ (2 ∷ (14 ∷ (3 ∷ (11 ∷ [])))))
    ∷ (counts (joined 511 x) 1023 2 1
    ∷ (counts (joined 511 (unary negate x)) 1024 2 1
    ∷ (counts (joined 512 x) 1025 2 0
    ∷ (counts (nested 21 x) 127 64 1
    ∷ (counts (nested 21 (binary add x x)) 129 65 0
    ∷ []))))))

pub figures : map (λ r. r.given) rows ≡ map (λ r. r.said) rows
unfolding clause_bytes tape_bytes is_in parts beyond lowest_from lowest placed tape_of fits_text edition
figures = refl
