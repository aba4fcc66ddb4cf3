-- What the clauses of a formula do, as the trees have it, and the clause of each with its value in a slot.
use Rattle.std.specs.Prelude.{◌≡◌, pos, ℕ, suc, ◌<◌}
use Rattle.rules.specs.Values as values
use Rattle.formula_rules.specs.Trees as tree
use Rattle.formula_rules.specs.Formulas.{one_tree, two_tree}
use Rattle.formula_rules.specs.FormulaReader as reader
use Rattle.formula_rules.specs.FormulaTapes.{axis_opcode, unary_opcode, binary_opcode, step}
use Rattle.formula.specs.declared.steps.Axis.{Axis}
use Rattle.formula.specs.declared.steps.Axis.TheVariants as axis
use Rattle.formula.specs.declared.steps.Unary.{Unary}
use Rattle.formula.specs.declared.steps.Unary.TheVariants as unary
use Rattle.formula.specs.declared.steps.Binary.{Binary}
use Rattle.formula.specs.declared.steps.Binary.TheVariants as binary
use Rattle.formula.specs.declared.steps.Function.{Function}
use Rattle.formula.specs.declared.steps.Function.TheVariants as function
use Rattle.formula.specs.declared.steps.Step.{Step}
use Rattle.formula.specs.declared.steps.Step.TheVariants as kind

abbrev pub axis_of : Axis → tree.Axis
axis_of axis.X = tree.axisX
axis_of axis.Y = tree.axisY
axis_of axis.Z = tree.axisZ

abbrev pub unary_of : Unary → tree.Unary
unary_of unary.Negate = tree.negate
unary_of unary.Abs = tree.abs
unary_of unary.Sqr = tree.sqr
unary_of unary.Root = tree.root

abbrev pub binary_of : Binary → tree.Binary
binary_of binary.Add = tree.add
binary_of binary.Subtract = tree.subtract
binary_of binary.Multiply = tree.multiply
binary_of binary.Minimum = tree.minimum
binary_of binary.Maximum = tree.maximum
binary_of binary.Divide = tree.divide

-- The function that a name stands for.
abbrev pub Means : Function → reader.Function → Type 0
Means (function.One u) (reader.of_one f) = unary_of u ≡ one_tree f
Means (function.One u) (reader.of_two f) = ⊥
Means (function.Two b) (reader.of_one f) = ⊥
Means (function.Two b) (reader.of_two f) = binary_of b ≡ two_tree f

abbrev pub step_of : Step → ℕ → values.Clause
step_of (kind.Number u) s = step 0 s 0 0 (pos u)
step_of (kind.Axis a) s = step (axis_opcode (axis_of a)) s 0 0 (pos 0)
step_of (kind.Unary u) s = step (unary_opcode (unary_of u)) s s 0 (pos 0)
step_of (kind.Binary b) s = step (binary_opcode (binary_of b)) s s (suc s) (pos 0)

-- Its numbers fit.
abbrev pub IsSmall : Step → Type 0
IsSmall (kind.Number u) = u < 2147483648
IsSmall (kind.Axis a) = Unit {0}
IsSmall (kind.Unary u) = Unit {0}
IsSmall (kind.Binary b) = Unit {0}

pub record CanNumber (x : Step) (s : ℕ) : Type 0 where
  pub small : IsSmall x
  pub slot : s < 1024
