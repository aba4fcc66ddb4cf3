-- What every call promises of its answer and of what it is lent.
use Rattle.std.specs.Prelude.{◌≡◌, List, ℕ, eqb, Result, Ok, Err}
use Rattle.faults.specs.declared.Refusal.{Refusal}
use Rattle.faults.specs.Numbers.{number_of}
use Rattle.rules.specs.Values.{pick, first_fault}
use Rattle.rules.specs.Tapes.{place_of, read_tape}
use Rattle.answers.specs.declared.Answer.{Answer}

-- "A call returns number, place, count. Place is the clause index, from 0, in the tape or list at fault for 5 to 9,
-- otherwise 0. A number other than 0 has count 0".
pub record Answered (n p c : ℕ) (r : Answer) : Type 0 where
  pub number : r.number ≡ n
  pub place : r.place ≡ place_of n p
  pub count : r.count ≡ pick (eqb n 0) c 0

-- "every lent byte unchanged. A 0 overwrites the whole picture or output".
abbrev pub written : {A : Type 0} → ℕ → List A → List A → List A
written f b o = pick (eqb f 0) b o

-- What a call's checks on the tape s come to: the first line that holds, and the tape's place, which is 0 where the
-- tape is accepted.
abbrev pub checked_by : List ℕ → List ℕ → Answer
checked_by lines s = record { number = first_fault lines; place = (read_tape s).place; count = 0 }

-- The answer of a refused call, of one that ends with a count or a refusal, and of checks: they count nothing.
abbrev pub refused : Refusal → Answer
refused r = record { number = number_of r.fault; place = r.place; count = 0 }

abbrev pub answer_of : Result ℕ Refusal → Answer
answer_of (Ok n) = record { number = 0; place = 0; count = n }
answer_of (Err r) = refused r

abbrev pub answer_in : {A : Type 0} → Result A Refusal → Answer
answer_in (Ok a) = record { number = 0; place = 0; count = 0 }
answer_in (Err r) = refused r

-- What checks say that these lines are about, with a tape s: which of them is the first that holds, and the tape's place.
pub record Checked {A : Type 0} (lines s : List ℕ) (r : Result A Refusal) : Type 0 where
  pub answer : answer_in r ≡ checked_by lines s
