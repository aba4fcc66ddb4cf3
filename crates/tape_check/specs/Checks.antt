-- What the checks answer, as the rules have it.
use Rattle.std.specs.Prelude.{◌≡◌, List, ◌∷◌, ℕ, ◌+◌, ◌≤◌, ◌<◌, length, drop, Result, Ok, Err}
use Rattle.rules.specs.Tapes.{slot_limit, clause_limit, Raw, Got}
use Rattle.faults.specs.declared.Refusal.{Refusal}
use Rattle.faults.specs.Numbers.{number_of}
use Rattle.tape.specs.declared.Fields.{Fields}
use Rattle.tape.specs.Clauses.{raw_of}
use Rattle.tape_check.specs.declared.Counts.{Counts}

-- Reading gives a tape with these counts; or the number and the place of the refusal, and no tape.
pub record Accepts (c : Counts) (g : Got) : Type 0 where
  pub number : g.number ≡ 0
  pub place : g.place ≡ 0
  pub slots : c.slots ≡ g.tape.slots
  pub clauses : c.clauses ≡ length g.tape.clauses

pub record Refuses (r : Refusal) (g : Got) : Type 0 where
  pub number : number_of r.fault ≡ g.number
  pub place : r.place ≡ g.place
  pub slots : g.tape.slots ≡ 0
  pub clauses : length g.tape.clauses ≡ 0

abbrev pub Answers : Result Counts Refusal → Got → Type 0
Answers (Ok c) g = Accepts c g
Answers (Err r) g = Refuses r g

-- Counts within the limits.
pub record Limited (c : Counts) : Type 0 where
  pub slots : c.slots ≤ slot_limit
  pub clauses : c.clauses ≤ clause_limit

-- What a function of clause numbers returns is the clauses of this list, one after another.
pub record Reads (reads : ℕ → Fields → Type 0) (count : ℕ) (raws : List Raw) : Type 0 where
  pub size : count ≡ length raws
  pub each : (i : ℕ) → i < count → (f : Fields) → reads i f → drop i raws ≡ raw_of f ∷ drop (i + 1) raws
