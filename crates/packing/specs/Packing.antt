-- What packing and unpacking write and answer.
use Rattle.std.specs.Prelude.{◌≡◌, List, ℕ, eqb, ℤ, length, Result, Ok, Err}
use Rattle.rules.specs.Values.{pick}
use Rattle.rules.specs.Tapes.{Got, place_of, read_list, read_tape, tape_bytes, list_of}
use Rattle.promises.specs.Faults.{copy_fault}
use Rattle.faults.specs.declared.Refusal.{Refusal}
use Rattle.answers.specs.Says.{answer_in}

-- A list as a tape's bytes, and a tape's bytes as a list.
abbrev pub bytes_of : ℕ → List ℤ → List ℕ
bytes_of n zs = tape_bytes (read_list n zs).tape

abbrev pub numbers_of : List ℕ → List ℤ
numbers_of s = list_of (read_tape s).tape.clauses

-- A tape of k clauses was read, and what it is written as, b, has the length of the output.
pub record Fills {A : Type 0} (g : Got) (k : ℕ) (b o : List A) : Type 0 where
  pub accepted : g.number ≡ 0
  pub clauses : k ≡ length g.tape.clauses
  pub size : length o ≡ length b

-- The slot count that is returned, 0 for a refusal.
abbrev pub slots_of : Result ℕ Refusal → ℕ
slots_of (Ok n) = n
slots_of (Err r) = 0

-- What is returned, where g was read, is written as b and the output o has become o': all of b, or as it was.
pub record Copies {A : Type 0} (g : Got) (b o o' : List A) (r : Result ℕ Refusal) : Type 0 where
  pub number : (answer_in r).number ≡ copy_fault g b o
  pub place : (answer_in r).place ≡ place_of (copy_fault g b o) g.place
  pub slots : slots_of r ≡ pick (eqb (copy_fault g b o) 0) g.tape.slots 0
  pub out : o' ≡ pick (eqb (copy_fault g b o) 0) b o

abbrev pub Packs : ℕ → List ℤ → List ℕ → List ℕ → Result ℕ Refusal → Type 0
Packs n zs o o' r = Copies (read_list n zs) (bytes_of n zs) o o' r

abbrev pub Unpacks : List ℕ → List ℤ → List ℤ → Result ℕ Refusal → Type 0
Unpacks s o o' r = Copies (read_tape s) (numbers_of s) o o' r
