-- The circle of calls meets its contracts: sums, products, signed items, items and what their brackets hold.
use Rattle.std.proofs.Common.{sym, ◌∙◌, ℕ, ◌+◌, ◌-◌, ◌*◌, ◌<◌, List, length, arith}
use Rattle.std.proofs.lemmas.Result.{err_from_is_err_and}
use Rattle.formula_rules.specs.FormulaCalls.{Blank, SumUpTo, ProductRead, SignedRead}
use Rattle.formula.specs.declared.sheet.Sheet.{Sheet}
use Rattle.formula.specs.declared.steps.Binary.{Binary}
use Rattle.formula.specs.Joins.{SumJoinAt, ProductJoinAt}
use Rattle.formula.specs.Parts.{Room, Got, ProductSoFar, inside}
use Rattle.formula.proofs.Bytes.{is_other, is_here}
use Rattle.formula.proofs.PartLaws.{got_leaf, got_on, room_right, can_push, can_join, falls_later, Onward}
use Rattle.formula.proofs.PartsRead.{sum_first, sum_over, sum_joined, sum_broken, product_first, product_over}
use Rattle.formula.proofs.PartsRead.{product_next, product_broken, signed_plain, signed_minus, signed_broken}
use Rattle.formula.proofs.PartsRead.{sum_ended, one_own, one_called, one_stopped, two_stopped, second_stopped}
use Rattle.formula.proofs.PartsRead.{two_joined, one_item, two_item}
use Rattle.formula.proofs.parts.+enclosed_item_one_product_signed_sum_two.Goals as goal

-- A sum with the byte that ends it.
pub enclosed-returns-in_err-end : goal.enclosed-returns-in_err-end
enclosed-returns-in_err-end t c =
    let p = err_from_is_err_and c.from_residual.result c.from_residual.ensures.1 in
    rw (p.1, p.2) (inside _ c.in_err-end.ensures)

pub enclosed-returns : goal.enclosed-returns
enclosed-returns t c = sum_ended _ _ _ _ _ _ _ _ _ c.in_ok-end.ensures c.expect.ensures

-- Items, by what stands at their front.
pub item-returns-in-Leaf : goal.item-returns-in-Leaf
item-returns-in-Leaf t c =
    let f = rw c.in-Leaf.is at c.in_ok-front.ensures in got_leaf _ _ f (f.read _) c.push.ensures

pub item-returns-in_ok-inside-in-One : goal.item-returns-in_ok-inside-in-One
item-returns-in_ok-inside-in-One t c =
    let a = c.args in
    let d = c.in_ok-inside-in-One.ensures in
    one_item a.text.now a.depth _ a.slot a.from a.sheet.now c.one.new.sheet c.one.result _ d.shallow d.more _
    (rw c.in-One.is at c.in_ok-front.ensures) c.one.ensures

pub item-returns-in_ok-inside-in-Two : goal.item-returns-in_ok-inside-in-Two
item-returns-in_ok-inside-in-Two t c =
    let a = c.args in
    let d = c.in_ok-inside-in-Two.ensures in
    two_item a.text.now a.depth _ a.slot a.from a.sheet.now c.two.new.sheet c.two.result _ d.shallow d.more _
    (rw c.in-Two.is at c.in_ok-front.ensures) c.two.ensures

-- What a bracket of one sum holds.
pub one-returns-in_err-end : goal.one-returns-in_err-end
one-returns-in_err-end t c =
    let p = err_from_is_err_and c.from_residual.result c.from_residual.ensures.1 in
    rw (p.1, p.2) (one_stopped _ _ _ _ _ _ _ _ c.in_err-end.ensures)

pub one-push-requires : goal.one-push-requires
one-push-requires t c =
    can_push (c.args.from + 1) _ c.requires (omega arith) c.in_ok-end.ensures tt (omega (arith, c.well_formed.0.1))

pub one-returns-in-Some : goal.one-returns-in-Some
one-returns-in-Some t c = rw c.in-Some.is (one_called _ _ _ _ _ _ _ _ _ c.in_ok-end.ensures c.push.ensures)

pub one-returns-in_default : goal.one-returns-in_default
one-returns-in_default t c = rw c.in_default.is (one_own _ _ _ _ _ _ _ c.in_ok-end.ensures)

-- A product: what was read up to the loop's turn, and room for the right operand.
product_here : {text : List ℕ} {d slot n f e l : ℕ} {s s₁ s₂ : Sheet} → Got (SignedRead text n d) text n slot s s₁ f
    → Blank text f e → Onward (λ k. ProductSoFar text k d) text slot s₁ e s₂ l
    → Got (ProductSoFar text n d) text n slot s s₂ l
product_here g b o = o.got _ _ (product_first _ _ _ _ _ _ _ _ g b)

product_room : {text : List ℕ} {d slot n l : ℕ} {s s₂ : Sheet} {b : Binary} → Room text s n slot d
    → Got (ProductSoFar text n d) text n slot s s₂ l → ProductJoinAt text l b
    → Room text s₂ (l + 1) (slot + 1) d
product_room {n = n} {l = l} r g j = room_right n (l + 1) r (omega arith) g (omega arith) (omega (arith, j.here.within))

pub product-signed-requires-in-Some : goal.product-signed-requires-in-Some
product-signed-requires-in-Some t c =
    let a = c.args in
    let n = c.loop-operation.end + 1 in
    let h = product_here c.in_ok-first.ensures c.skip-end.ensures c.loop-operation.invariant in
    let room = product_room c.requires h c.in-Some.ensures in
    let less : 6 * (length a.text.now - n) + 1 < t =
    falls_later _ a.from n t 1 2 c.decreases (omega (arith, got_on h)) room.within (omega arith) in
    (less, room)

pub product-returns-in_err-next : goal.product-returns-in_err-next
product-returns-in_err-next t c =
    let h = product_here c.in_ok-first.ensures c.skip-end.ensures c.loop-operation.invariant in
    let p = err_from_is_err_and c.from_residual-in_err-next.result c.from_residual-in_err-next.ensures.1 in
    rw (p.1, p.2) (product_broken _ _ _ _ _ _ _ h _ _ c.in-Some.ensures c.in_err-next.ensures)

pub product-push-requires : goal.product-push-requires
product-push-requires t c =
    let h = product_here c.in_ok-first.ensures c.skip-end.ensures c.loop-operation.invariant in
    can_join (c.loop-operation.end + 1) _ (product_room c.requires h c.in-Some.ensures) (omega arith)
    c.in_ok-next.ensures tt (omega (arith, c.well_formed.0.1))

pub product-loop-operation-preserved : goal.product-loop-operation-preserved
product-loop-operation-preserved t c =
    let a = c.args in
    let l = c.loop-operation in
    record {
      got = λ x z g. product_next a.text.now a.depth a.slot x z l.sheet _ _ l.end _ _ _ (l.invariant.got x z g)
          c.in-Some.ensures c.in_ok-next.ensures c.push.ensures c.skip-end-in-Some.ensures;
    }

pub product-returns : goal.product-returns
product-returns t c =
    product_over _ _ _ _ _ _ _ (product_here c.in_ok-first.ensures c.skip-end.ensures c.loop-operation.invariant)
    c.in_default.ensures

-- A signed item.
pub signed-returns-then-ne : goal.signed-returns-then-ne
signed-returns-then-ne t c =
    let a = c.args in
    signed_plain a.text.now a.depth a.slot a.from a.sheet.now c.item.new.sheet c.skip-front.result
    c.skip-front.ensures c.item.result (is_other _ _ 45 _ c.peek.ensures (sym c.ne.ensures ∙ c.if-ne.true))
    c.item.ensures

pub signed-returns-in_err-end : goal.signed-returns-in_err-end
signed-returns-in_err-end t c =
    let a = c.args in
    let m = is_here _ _ 45 _ c.peek.ensures (sym c.ne.ensures ∙ c.if-ne.false) in
    let p = err_from_is_err_and c.from_residual.result c.from_residual.ensures.1 in
    rw (p.1, p.2)
    (signed_broken a.text.now a.depth a.slot a.from a.sheet.now a.sheet.now _ c.skip-front.ensures m _
    c.skip-after.ensures _ c.in_err-end.ensures)

pub signed-push-requires : goal.signed-push-requires
signed-push-requires t c =
    can_push c.skip-after.result _ c.requires (omega (arith, c.skip-front.ensures.from, c.skip-after.ensures.from))
    c.in_ok-end.ensures tt (omega (arith, c.well_formed.0.1))

pub signed-returns : goal.signed-returns
signed-returns t c =
    let m = is_here _ _ 45 _ c.peek.ensures (sym c.ne.ensures ∙ c.if-ne.false) in
    signed_minus _ _ _ _ _ _ _ c.skip-front.ensures m _ c.skip-after.ensures _ _ c.in_ok-end.ensures c.push.ensures

-- A sum: what was read up to the loop's turn, and room for the right operand.
sum_here : {text : List ℕ} {d slot n f l : ℕ} {s s₁ s₂ : Sheet} → Got (ProductRead text n d) text n slot s s₁ f
    → Onward (λ k. SumUpTo text k d) text slot s₁ f s₂ l → Got (SumUpTo text n d) text n slot s s₂ l
sum_here g o = o.got _ _ (sum_first _ _ _ _ _ _ _ g)

sum_room : {text : List ℕ} {d slot n l : ℕ} {s s₂ : Sheet} {b : Binary} → Room text s n slot d
    → Got (SumUpTo text n d) text n slot s s₂ l → SumJoinAt text l b → Room text s₂ (l + 1) (slot + 1) d
sum_room {n = n} {l = l} r g j = room_right n (l + 1) r (omega arith) g (omega arith) (omega (arith, j.here.within))

pub sum-product-requires-in-Some : goal.sum-product-requires-in-Some
sum-product-requires-in-Some t c =
    let a = c.args in
    let n = c.loop-operation.end + 1 in
    let h = sum_here c.in_ok-end.ensures c.loop-operation.invariant in
    let room = sum_room c.requires h c.in-Some.ensures in
    let less : 6 * (length a.text.now - n) + 2 < t =
    falls_later _ a.from n t 2 3 c.decreases (omega (arith, got_on h)) room.within (omega arith) in
    (less, room)

pub sum-returns-in_err-end-2 : goal.sum-returns-in_err-end-2
sum-returns-in_err-end-2 t c =
    let h = sum_here c.in_ok-end.ensures c.loop-operation.invariant in
    let p = err_from_is_err_and c.from_residual-in_err-end-2.result c.from_residual-in_err-end-2.ensures.1 in
    rw (p.1, p.2) (sum_broken _ _ _ _ _ _ _ h _ _ c.in-Some.ensures c.in_err-end-2.ensures)

pub sum-push-requires : goal.sum-push-requires
sum-push-requires t c =
    let h = sum_here c.in_ok-end.ensures c.loop-operation.invariant in
    can_join (c.loop-operation.end + 1) _ (sum_room c.requires h c.in-Some.ensures) (omega arith)
    c.in_ok-end-2.ensures tt (omega (arith, c.well_formed.0.1))

pub sum-loop-operation-preserved : goal.sum-loop-operation-preserved
sum-loop-operation-preserved t c =
    let a = c.args in
    let l = c.loop-operation in
    record {
      got = λ x z g. sum_joined a.text.now a.depth a.slot x z l.sheet l.end (l.invariant.got x z g) _ _ _ _
          c.in-Some.ensures c.in_ok-end-2.ensures c.push.ensures;
    }

pub sum-returns : goal.sum-returns
sum-returns t c =
    sum_over _ _ _ _ _ _ _ (sum_here c.in_ok-end.ensures c.loop-operation.invariant) c.in_default.ensures

-- The two sums of a minimum or a maximum.
pub two-returns-in_err-second : goal.two-returns-in_err-second
two-returns-in_err-second t c =
    let p = err_from_is_err_and c.from_residual.result c.from_residual.ensures.1 in
    rw (p.1, p.2) (two_stopped _ _ _ _ _ _ _ _ c.in_err-second.ensures)

pub two-enclosed-requires-2 : goal.two-enclosed-requires-2
two-enclosed-requires-2 t c =
    let a = c.args in
    let n = c.in_ok-second.second in
    let g = c.in_ok-second.ensures in
    let room = room_right (a.from + 1) n c.requires (omega arith) g (omega arith) g.within in
    let less : 6 * (length a.text.now - n) + 4 < t =
    falls_later _ a.from n t 4 5 c.decreases (omega (arith, got_on g)) room.within (omega arith) in
    (less, room)

pub two-returns-in_err-end : goal.two-returns-in_err-end
two-returns-in_err-end t c =
    let p = err_from_is_err_and c.from_residual-in_err-end.result c.from_residual-in_err-end.ensures.1 in
    rw (p.1, p.2) (second_stopped _ _ _ _ _ _ _ _ c.in_ok-second.ensures _ _ c.in_err-end.ensures)

pub two-push-requires : goal.two-push-requires
two-push-requires t c =
    let n = c.in_ok-second.second in
    let g = c.in_ok-second.ensures in
    let room = room_right (c.args.from + 1) n c.requires (omega arith) g (omega arith) g.within in
    can_join (n + 1) _ room (omega arith) c.in_ok-end.ensures tt (omega (arith, c.well_formed.0.1))

pub two-returns : goal.two-returns
two-returns t c =
    two_joined _ _ _ _ _ _ _ _ c.in_ok-second.ensures _ _ _ c.in_ok-end.ensures c.push.ensures
