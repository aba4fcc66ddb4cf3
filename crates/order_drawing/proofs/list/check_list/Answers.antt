-- A number is flagged once it is seen: below the number of tiles, and not flagged yet.
use mathlib.Core.Path.{◌≡◌, ◌∙◌}
use Prim.Native.Nat.{ℕ, ◌≤◌}
use native.Mathlib.Omega.{arith}
use native.Mathlib.Numerals.{add-one}
use lib.ListN.{length, length-set, length-replicate}
use Rattle.order_rules.proofs.OrderLoops.{no_flags, one_flag, all_passed, not_below, not_again, not_length}
use Rattle.order_drawing.proofs.ListLine.{no_list, a_list}
use Rattle.order_drawing.proofs.list.check_list.Goals as goal

pub returns-then-order-end : goal.returns-then-order-end
returns-then-order-end c = let a = c.args in no_list a.count a.order.now (not_length _ _ c.if-order-end.true)

pub loop-number-init : goal.loop-number-init
loop-number-init c = (no_flags _ _ 512 c.requires, omega arith, c.if-order-end.false, length-replicate {A = ℕ} 512 0)

pub overflow_cast-m : goal.overflow_cast-m
overflow_cast-m c = omega (arith, c.type_inv.order c.loop-number.number-index)

pub returns-then-end-m : goal.returns-then-end-m
returns-then-end-m c =
    let a = c.args in
    no_list a.count a.order.now
    (not_below a.count a.order.now c.loop-number.number-index c.loop-number-test.true c.if-end-m.true)

pub bounds-seen-m : goal.bounds-seen-m
bounds-seen-m c =
    let s = c.requires in
    omega (arith, c.if-end-m.false, c.loop-number.invariant.3)

pub returns-then-seen-m-ne0 : goal.returns-then-seen-m-ne0
returns-then-seen-m-ne0 c =
    let a = c.args in
    let f = c.loop-number.invariant.0 in
    no_list a.count a.order.now
    (not_again a.count a.order.now c.loop-number.number-index c.loop-number-test.true
    (λ z. c.if-seen-m-ne0.true (f.flag _ c.if-end-m.false ∙ z)))

pub bounds-seen-m-in-loop-number : goal.bounds-seen-m-in-loop-number
bounds-seen-m-in-loop-number c =
    let s = c.requires in
    omega (arith, c.if-end-m.false, c.loop-number.invariant.3)

pub loop-number-preserved : goal.loop-number-preserved
loop-number-preserved c =
    let a = c.args in
    let inv = c.loop-number.invariant in
    let s = c.requires in
    let room : a.count ≤ length c.loop-number.seen = omega (arith, inv.3) in (
      rw add-one
          (one_flag a.count a.order.now c.loop-number.seen c.loop-number.number-index c.loop-number-test.true room
          inv.0 c.if-end-m.false c.if-seen-m-ne0.false),
      omega (arith, c.loop-number-test.true),
      inv.2,
      length-set c.loop-number.seen _ _ ∙ inv.3,
    )

pub returns : goal.returns
returns c =
    let a = c.args in
    let inv = c.loop-number.invariant in
    let e : c.loop-number.number-index ≡ length a.order.now = omega (arith, c.loop-number-test.false, inv.1) in
    a_list a.count a.order.now (all_passed a.count a.order.now inv.2 (rw e at inv.0.passed))
