-- What a formula means, apart from any text and any tape.
use Rattle.std.specs.Prelude.{ℤ, neg_ℤ}
use Rattle.rules.specs.Values.{Sample, sum, difference, product, quotient, smaller, larger, absolute, square}
use Rattle.rules.specs.Values.{root_of}

-- The operations of one operand and of two, and the axes.
pub data Unary : Type 0 where
  negate abs sqr root : Unary

pub data Binary : Type 0 where
  add subtract multiply divide minimum maximum : Binary

pub data Axis : Type 0 where
  axisX axisY axisZ : Axis

-- A number is in units of 1/65,536.
pub data Tree : Type 0 where
  number : ℤ → Tree
  axis : Axis → Tree
  unary : Unary → Tree → Tree
  binary : Binary → Tree → Tree → Tree

-- The value at a sample: each operation is the one of the table of opcodes.
abbrev pub coordinate : Axis → Sample → ℤ
coordinate axisX s = s.x
coordinate axisY s = s.y
coordinate axisZ s = s.z

unfoldable pub unary_meaning : Unary → ℤ → ℤ
unary_meaning negate a = neg_ℤ a
unary_meaning abs a = absolute a
unary_meaning sqr a = square a
unary_meaning root a = root_of a

unfoldable pub binary_meaning : Binary → ℤ → ℤ → ℤ
binary_meaning add a b = sum a b
binary_meaning subtract a b = difference a b
binary_meaning multiply a b = product a b
binary_meaning divide a b = quotient a b
binary_meaning minimum a b = smaller a b
binary_meaning maximum a b = larger a b

unfoldable pub meaning : Tree → Sample → ℤ
meaning (number n) s = n
meaning (axis a) s = coordinate a s
meaning (unary u t) s = unary_meaning u (meaning t s)
meaning (binary b t r) s = binary_meaning b (meaning t s) (meaning r s)
