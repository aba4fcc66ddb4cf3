-- The circle of calls: each call is below its caller by the bytes that are left, six to a byte, and at the same place by
-- its rank.
use Rattle.std.proofs.Common.{◌+◌, ◌-◌, ◌*◌, length}
use Rattle.formula_rules.specs.FormulaCalls.{SumUpTo}
use Rattle.formula.specs.Parts.{ProductSoFar}
use Rattle.formula.proofs.PartLaws.{Onward}
use Rattle.formula.proofs.parts.+enclosed_item_one_product_signed_sum_two.Given as goal

abbrev pub decreases-enclosed : goal.decreases-enclosed
decreases-enclosed l = 6 * (length l.text.now - l.from) + 4

abbrev pub decreases-item : goal.decreases-item
decreases-item l = 6 * (length l.text.now - l.from) + 0

abbrev pub decreases-one : goal.decreases-one
decreases-one l = 6 * (length l.text.now - l.from) + 5

abbrev pub decreases-product : goal.decreases-product
decreases-product l = 6 * (length l.text.now - l.from) + 2

abbrev pub decreases-signed : goal.decreases-signed
decreases-signed l = 6 * (length l.text.now - l.from) + 1

abbrev pub decreases-sum : goal.decreases-sum
decreases-sum l = 6 * (length l.text.now - l.from) + 3

abbrev pub decreases-two : goal.decreases-two
decreases-two l = 6 * (length l.text.now - l.from) + 5

abbrev pub invariant-product-loop-operation : goal.invariant-product-loop-operation
invariant-product-loop-operation l =
    Onward (λ n. ProductSoFar l.text n l.depth) l.text l.slot l.initial.sheet l.initial.end l.sheet l.end

abbrev pub decreases-product-loop-operation : goal.decreases-product-loop-operation
decreases-product-loop-operation l = length l.text - l.end

abbrev pub invariant-sum-loop-operation : goal.invariant-sum-loop-operation
invariant-sum-loop-operation l =
    Onward (λ n. SumUpTo l.text n l.depth) l.text l.slot l.initial.sheet l.initial.end l.sheet l.end

abbrev pub decreases-sum-loop-operation : goal.decreases-sum-loop-operation
decreases-sum-loop-operation l = length l.text - l.end
