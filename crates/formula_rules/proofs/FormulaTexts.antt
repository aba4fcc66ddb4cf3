-- The figures of formulas as text: what the reader answers, and what the request says, as rows of one list.
use mathlib.Core.Path.{◌≡◌, refl}
use mathlib.Core.List.{List, [], ◌∷◌, ◌++◌, map}
use lib.IntN.{pos}
use Prim.Native.String.{String, [] as none, ◌∷◌ as ◌then◌}
use Prim.Native.Char.{code}
use Prim.Native.Nat.{ℕ, zero, suc}
use Rattle.formula_rules.specs.Trees.{Tree, number, axis, unary, binary, axisX, axisY, axisZ, negate, abs, sqr, root}
use Rattle.formula_rules.specs.Trees.{add, subtract, multiply, divide, minimum, maximum}
use Rattle.formula_rules.specs.FormulaReader.{Answer, done, breaks, deep, reader, answer, move_in, choose}

abbrev bytes : String → List ℕ
bytes none = []
bytes (c then s) = code c ∷ bytes s

-- A text n times over.
abbrev times : ℕ → List ℕ → List ℕ
times zero s = []
times (suc n) s = s ++ times n s

pub record Figure : Type 0 where
  pub text : List ℕ
  pub said : Answer

abbrev figure : String → Answer → Figure
figure s a = record { text = bytes s; said = a }

abbrev units : String → ℕ → Figure
units s n = figure s (done (number (pos n)))

-- p n times, then q, then r n times; the answer.
abbrev nested : String → ℕ → String → String → Answer → Figure
nested p n q r a = record { text = times n (bytes p) ++ (bytes q ++ times n (bytes r)); said = a }

abbrev x : Tree
x = axis axisX

abbrev y : Tree
y = axis axisY

abbrev z : Tree
z = axis axisZ

-- Numbers are rounded down to a unit.
abbrev numbers : List Figure
numbers =
    units "0.0001" 6
    ∷ (units "0.9999" 65529 ∷ (units "32767.9999" 2147483641 ∷ (units "00001" 65536 ∷ (units "1.5" 98304 ∷ []))))

-- Trees.
abbrev trees : List Figure
trees =
    figure "-x*y+1.5" (done (binary add (binary multiply (unary negate x) y) (number (pos 98304))))
    ∷ (figure "x/y*z" (done (binary multiply (binary divide x y) z))
    ∷ (figure "x-y-z" (done (binary subtract (binary subtract x y) z))
    ∷ (figure "x--y" (done (binary subtract x (unary negate y)))
    ∷ (figure " ( x + y ) * - z " (done (binary multiply (binary add x y) (unary negate z)))
    ∷ (figure "min(abs x, max (x,y))" (breaks 8)
    ∷ (figure "min(abs(x), max (root(x),sqr( y )) )"
    (done (binary minimum (unary abs x) (binary maximum (unary root x) (unary sqr y))))
    ∷ []))))))

-- 17, at the first byte that no allowed text could have there, or at the end.
abbrev broken : List Figure
broken =
    figure "" (breaks 0)
    ∷ (figure "  " (breaks 2)
    ∷ (figure "32768" (breaks 4)
    ∷ (figure "000001" (breaks 5)
    ∷ (figure "1." (breaks 2)
    ∷ (figure "1.x" (breaks 2)
    ∷ (figure ".5" (breaks 0)
    ∷ (figure "1 2" (breaks 2)
    ∷ (figure "1 .5" (breaks 2)
    ∷ (figure "1.23456" (breaks 6)
    ∷ (figure "ab s(x)" (breaks 2)
    ∷ (figure "min(x)" (breaks 5)
    ∷ (figure "(x" (breaks 2)
    ∷ (figure "x)" (breaks 1)
    ∷ (figure "X" (breaks 0)
    ∷ (figure "+x" (breaks 0)
    ∷ (figure "--x" (breaks 1)
    ∷ (figure "x---y" (breaks 3) ∷ (figure "x\n" (breaks 1) ∷ (figure "abs(x,y)" (breaks 5) ∷ [])))))))))))))))))))

-- 32 brackets inside each other pass, 33 give 18, a function's too; at one byte 17.
abbrev depths : List Figure
depths =
    nested "(" 32 "x" ")" (done x)
    ∷ (nested "(" 33 "x" ")" (deep 32)
    ∷ (nested "(" 32 "1(" "" (breaks 33)
    ∷ (nested "(" 33 "?" "" (deep 32)
    ∷ (nested "abs(" 33 "x" ")" (deep 131)
    ∷ (nested "abs(" 32 "1(" "" (breaks 129)
    ∷ (nested "abs(" 33 "?" "" (deep 131) ∷ (nested "(" 32 "abs x" "" (breaks 36) ∷ [])))))))

pub figures : List Figure
figures = numbers ++ (trees ++ (broken ++ depths))

pub figures_hold : map (λ (f : Figure). reader f.text) figures ≡ map (λ (f : Figure). f.said) figures
unfolding figures reader answer move_in choose
figures_hold = refl
