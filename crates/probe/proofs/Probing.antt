-- The call: its lines, the sample that is run, and the answer by the side of the value.
use Rattle.std.proofs.Common.{◌≡◌, ℕ, zero, suc, Bool, true, false, ◌&&◌, List, take, ℤ, pos, negsuc, sym, refl, ap, ◌∙◌, subst, true≢false, arith, ltb-false, ltb-true, eq-eqb, ne_eqb}
use mathlib.Core.Bool.{false≢true}
use lib.Signed.{lt_z}
use lib.Ieee.{Float}
use Rattle.rules.specs.Values.{Sample}
use Rattle.rules.specs.Tapes.{read_tape, value_at}
use Rattle.rules.specs.Probes.{Point, coordinate_ok, point_fault, rounded_point, probe_lines, probe_fault, probed_value}
use Rattle.rules.specs.Probes.{rounded_down, stored_float}
use Rattle.rules.proofs.Lines.{first_here, first_none}
use Rattle.rules.proofs.Probes.{rounded_value}
use Rattle.code.specs.Words.{Runnable}
use Rattle.code.specs.Runs.{SampleOk, Evaluated}
use Rattle.code.specs.Unpacking.{Unpacked}
use Rattle.code.proofs.WordTapes.{words_runnable, unpacked_tape, unpacked_accepted}
use Rattle.answers.specs.declared.Answer.{Answer}
use Rattle.answers.specs.Says.{Answered, answer_in}
use Rattle.answers.proofs.Ends.{answer, uncounted, tape_place}
use Rattle.promises.specs.declared.Point as declared-point
use Rattle.promises.specs.declared.Probe.{Probe}
use Rattle.promises.specs.declared.Probe.TheVariants.{Inside, Outside, Surface, Refused}
use Rattle.promises.specs.Sides.{point_in}
use Rattle.promises.specs.Sides.{side_of}
use Rattle.promises.proofs.Probes.{coordinates}
use Rattle.std.specs.Prelude.{Result, Ok, Err}
use Rattle.std.specs.Result.{result_unwrap_or}
use Rattle.faults.specs.declared.Fault.{Fault}
use Rattle.faults.specs.declared.Refusal.{Refusal}
use Rattle.faults.specs.Numbers.{number_of}
use Rattle.faults.proofs.NumberLaws.{some_number}
use Rattle.tape_check.specs.Checks.{Accepts, Refuses}
use Rattle.tape_check.specs.declared.Counts.{Counts}
use Rattle.probe.specs.Answers.{Found, probe_given}

-- Line 20, by its test.
pub point_taken : (p : Point) {t : Bool}
    → t ≡ (coordinate_ok p.x && (coordinate_ok p.y && coordinate_ok p.z)) → t ≡ true → 0 ≡ point_fault p
unfolding point_fault
point_taken p e h = rw (sym e ∙ h)

pub point_refused : (p : Point) {t : Bool}
    → t ≡ (coordinate_ok p.x && (coordinate_ok p.y && coordinate_ok p.z)) → t ≡ false → 20 ≡ point_fault p
unfolding point_fault
point_refused p e h = rw (sym e ∙ h)

pub sample_is : (p : Point) {a b c : ℤ} → a ≡ rounded_down p.x → b ≡ rounded_down p.y → c ≡ rounded_down p.z
    → ◌≡◌ {A = Sample} (record { x = a; y = b; z = c }) (rounded_point p)
sample_is p e h k = rw (e, h, k)

pub rounded_sample : (p : Point) {s : Sample} → s ≡ rounded_point p → point_fault p ≡ 0 → SampleOk s
rounded_sample p e h =
    let k = coordinates p h in
    subst SampleOk (sym e)
    (record {
      x = rounded_value p.x k.x;
      y = rounded_value p.y k.y;
      z = rounded_value p.z k.z;
    })

-- The words of an unpacked tape, run.
module _ {s ws ws' : List ℕ} {k : ℕ} (u : Unpacked s ws ws' k) (e : (read_tape s).number ≡ 0) where
  pub runnable : Runnable (take k ws')
  runnable = words_runnable (read_tape s).tape.slots (take k ws') (unpacked_accepted s ws ws' k u e)

  pub evaluated : {p : Sample} {r : ℤ} → Evaluated (take k ws') p r → r ≡ value_at (read_tape s).tape p
  evaluated {p} v =
      v.value (read_tape s).tape.slots (unpacked_accepted s ws ws' k u e) ∙ ap (λ t. value_at t p) (unpacked_tape s ws ws' k u)

-- The sides.
pub inside : (v : ℤ) {x : Float} → lt_z v (pos 0) ≡ true → x ≡ stored_float v → Inside x ≡ side_of v
inside (pos a) h e = absurd (omega (arith, ltb-true a 0 h))
inside (negsuc a) h e = ap Inside e

pub outside : (v : ℤ) {x : Float} → lt_z (pos 0) v ≡ true → x ≡ stored_float v → Outside x ≡ side_of v
outside (pos zero) h e = absurd (false≢true h)
outside (pos (suc a)) h e = ap Outside e
outside (negsuc a) h e = absurd (false≢true h)

pub on_surface : (v : ℤ) → lt_z v (pos 0) ≡ false → lt_z (pos 0) v ≡ false → Surface ≡ side_of v
on_surface (pos zero) h k = refl
on_surface (pos (suc a)) h k = absurd (omega (arith, ltb-false 0 (suc a) k))
on_surface (negsuc a) h k = absurd (true≢false h)

-- The answer.
refused : (s : List ℕ) (p : declared-point.Point) (r : Refusal) → number_of r.fault ≡ probe_fault s (point_in p)
    → r.place ≡ (read_tape s).place → Found s p (Err r)
refused s p r e k =
    let z = ne_eqb (probe_fault s (point_in p)) 0 (λ y. some_number r.fault (e ∙ y)) in
    record { number = e; place = k; side = rw z }

pub tape_refused : (s : List ℕ) (p : declared-point.Point) (r : Refusal) → Refuses r (read_tape s) → Found s p (Err r)
tape_refused s p r e =
    let k : (read_tape s).number ≡ 0 → ⊥ = λ z. some_number r.fault (e.number ∙ z) in
    refused s p r (e.number ∙ sym (first_here (read_tape s).number _ k)) e.place

module _ (s : List ℕ) (p : declared-point.Point) {c : Counts} (a : Accepts c (read_tape s)) where
  -- The tape is accepted, so line 20 decides.
  twenty : probe_fault s (point_in p) ≡ point_fault (point_in p)
  twenty = rw a.number (first_none (point_fault (point_in p)))

  pub point_at_fault : (f : Fault) → number_of f ≡ point_fault (point_in p)
      → Found s p (Err (record { fault = f; place = 0 }))
  point_at_fault f e = refused s p (record { fault = f; place = 0 }) (e ∙ sym twenty) (sym a.place)

  pub none : 0 ≡ point_fault (point_in p) → probe_fault s (point_in p) ≡ 0
  none e = twenty ∙ sym e

  pub answered : {r : Probe} → 0 ≡ point_fault (point_in p) → r ≡ side_of (probed_value s (point_in p)) → Found s p (Ok r)
  answered e h =
      let z = eq-eqb (probe_fault s (point_in p)) 0 (none e) in
      record { number = sym (none e); place = sym a.place; side = h ∙ rw z }

-- The place of a tape that is accepted is 0, and so the place of line 20.
pub probe_answer : {s : List ℕ} {p : declared-point.Point} {f : Result Probe Refusal} {r : Answer} → Found s p f
    → r ≡ answer (answer_in f).number (answer_in f).place 0 → Answered (probe_fault s (point_in p)) (read_tape s).place 0 r
probe_answer {s} {p} f e =
    uncounted e f.number (f.place ∙ tape_place s (probe_lines s (point_in p)) refl)

-- The side that is returned.
pub side_given : (p : Result Probe Refusal) → result_unwrap_or p Refused ≡ probe_given p
side_given (Ok x) = refl
side_given (Err r) = refl
