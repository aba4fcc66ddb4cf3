-- What document 02 asks of merging, of what the call returns.
use mathlib.Core.Path.{◌≡◌, sym, ◌∙◌}
use mathlib.Core.List.{List}
use Prim.Native.Nat.{ℕ}
use lib.ListN.{length}
use borrow.Author.Tests.{eq-eqb, ne_eqb}
use Rattle.answers.specs.declared.Answer.{Answer}
use Rattle.merge_rules.specs.Merging.{merged_bytes, merge_fault}
use Rattle.merge_rules.proofs.MergeCalls.{MergedInto, bytes_merged}
use Rattle.promises.specs.Says.{MergeSays}

-- "At every sample it has the smaller of the two values": the tape that a done call leaves in the output is accepted,
-- its edition is that of its counts, it has the smaller value at every sample, material where either has it, and on
-- every grid the larger of both heights.
pub merge_shown : {s v o o' : List ℕ} {r : Answer} → MergeSays s v o o' r → r.number ≡ 0 → MergedInto s v o'
merge_shown {s} {v} {o} {o'} {r} m e =
    let z : merge_fault s v (length o) ≡ 0 = sym m.answer.number ∙ e in
    let k : o' ≡ merged_bytes s v = m.out ∙ rw (eq-eqb (merge_fault s v (length o)) 0 z) in
    rw k (bytes_merged s v (length o) z)

-- And a refused call leaves it as it came.
pub merge_refused : {s v o o' : List ℕ} {r : Answer} → MergeSays s v o o' r → (r.number ≡ 0 → ⊥) → o' ≡ o
merge_refused {s} {v} {o} {o'} {r} m e =
    m.out ∙ rw (ne_eqb (merge_fault s v (length o)) 0 (λ z. e (m.answer.number ∙ z)))
