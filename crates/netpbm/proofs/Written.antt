-- Writing behind what is written already: nothing, a byte, a list after a list, a copy, and the whole.
use mathlib.Core.Path.{◌≡◌, refl, sym, ap, ap₂, ◌∙◌}
use mathlib.Core.List.{List, [], ◌∷◌, ◌++◌, append_assoc, append-nil}
use Prim.Native.Nat.{ℕ, ◌+◌, ◌<◌, ◌≤◌}
use native.Mathlib.Numerals.{add-one}
use native.Mathlib.Omega.{arith}
use lib.ListN.{length, get_or, take, drop, set, length-set, length-append, take-append-drop}
use lib.Seq.{take-suc-set, take-length, drop-drop, drop-set-lt}
use borrow.Rule.Slice.PartMut.{put_mid}
use Rattle.std.proofs.Common.{◌-◌, rules}
use Rattle.std.proofs.lemmas.Slice.{overwrites}
use Rattle.netpbm.specs.Appending.{Appends}

pub nothing : (o : List ℕ) (at : ℕ) → Appends o at [] o at
nothing o at = record { next = omega arith; front = sym (append-nil (take at o)); size = refl; rest = refl }

pub nothing_of : (o s : List ℕ) (at : ℕ) → length s ≡ 0 → Appends o at s o at
nothing_of o [] at h = nothing o at
nothing_of o (v ∷ s) at h = absurd (omega arith)

pub one : (o : List ℕ) (at v : ℕ) → at < length o → Appends o at (v ∷ []) (set o at v) (at + 1)
one o at v h =
    record {
      next = refl;
      front = rw (add-one, take-suc-set) refl;
      size = length-set o at v;
      rest = drop-set-lt (at + 1) o at v (omega arith);
    }

pub one_of : (o s : List ℕ) (at : ℕ) → length s ≡ 1 → at + length s ≤ length o
    → Appends o at s (set o at (get_or s 0 0)) (at + 1)
one_of o [] at h k = absurd (omega arith)
one_of o (v ∷ []) at h k = one o at v (omega arith)
one_of o (v ∷ (w ∷ s)) at h k = absurd (omega arith)

-- What is as it was from b on, is so from further on.
behind : (b k : ℕ) (o o' : List ℕ) → drop b o' ≡ drop b o → drop (b + k) o' ≡ drop (b + k) o
behind b k o o' e = sym (drop-drop k b o') ∙ ap (drop k) e ∙ drop-drop k b o

pub then : {o s o' t o'' : List ℕ} {a b r : ℕ} → Appends o a s o' b → Appends o' b t o'' r → Appends o a (s ++ t) o'' r
then {o} {s} {o'} {t} {o''} {a} {b} {r} p q =
    let k : drop r o' ≡ drop r o = rw q.next (behind b (length t) o o' p.rest) in
    record {
      next = simp length-append (omega arith);
      front = q.front ∙ ap (λ l. l ++ t) p.front ∙ append_assoc (take a o) s t;
      size = q.size ∙ p.size;
      rest = q.rest ∙ k;
    }

-- Written from the start to the end, the bytes are the list.
pub whole : {o s o' : List ℕ} {r : ℕ} → Appends o 0 s o' r → length o ≡ length s → o' ≡ s
whole {o} {s} {o'} {r} p e =
    let n : length o' ≡ r = omega arith in
    sym (take-length o') ∙ ap (λ k. take k o') n ∙ p.front

-- Written from the start, the list stands before what was there.
pub at_start : {o s o' : List ℕ} {r : ℕ} → Appends o 0 s o' r → o' ≡ s ++ drop (length s) o
at_start {o} {s} {o'} {r} p =
    let n : r ≡ length s = omega arith in
    sym (take-append-drop r o') ∙ ap₂ (λ x y. x ++ y) p.front (p.rest ∙ ap (λ k. drop k o) n)

-- A list copied.
pub copied : (o s : List ℕ) (at : ℕ) → at + length s ≤ length o
    → Appends o at s (put_mid at (at + length s - at) o s) (at + length s)
copied o s at h =
    record {
      next = refl;
      front = search (rules, overwrites);
      size = search (rules, overwrites);
      rest = search (rules, overwrites);
    }

-- The same bytes by another name.
pub renamed : {o s t o' : List ℕ} {a r : ℕ} → s ≡ t → Appends o a s o' r → Appends o a t o' r
renamed e p = rw e at p
