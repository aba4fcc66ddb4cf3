-- The answers of packing and unpacking, and what the type of a lent slice says of it.
use mathlib.Core.Path.{◌≡◌, refl}
use mathlib.Core.Bool.{true}
use mathlib.Core.List.{List, [], ◌∷◌}
use Prim.Native.Nat.{ℕ, suc, ◌<◌}
use lib.ListN.{get_or}
use borrow.Author.Tests.{lt-ltb}
use Rattle.rules.specs.Tapes.{Got, all_bytes}
use Rattle.answers.specs.declared.Answer.{Answer}
use Rattle.answers.specs.Says.{Answered, answer_in}
use Rattle.std.specs.Prelude.{Result, Ok, Err}
use Rattle.std.specs.Result.{result_unwrap_or}
use Rattle.answers.proofs.Ends.{answer, uncounted}
use Rattle.promises.specs.Faults.{copy_fault}
use Rattle.faults.specs.declared.Refusal.{Refusal}
use Rattle.packing.specs.Packing.{Copies, slots_of}

pub copy_answer : {A : Type 0} {g : Got} {b o o' : List A} {p : Result ℕ Refusal} {r : Answer} → Copies g b o o' p
    → r ≡ answer (answer_in p).number (answer_in p).place 0 → Answered (copy_fault g b o) g.place 0 r
copy_answer f e = uncounted e f.number f.place

-- The slot count that is returned.
pub slots_given : (p : Result ℕ Refusal) → result_unwrap_or p 0 ≡ slots_of p
slots_given (Ok n) = refl
slots_given (Err r) = refl

-- The bytes of a lent slice are bytes.
pub bytes_lent : (s : List ℕ) → ((j : ℕ) → get_or s j 0 < 256) → all_bytes s ≡ true
unfolding all_bytes
bytes_lent [] h = refl
bytes_lent (b ∷ bs) h = rw (lt-ltb b 256 (h 0)) (bytes_lent bs (λ j. h (suc j)))
