-- The part of a picture that a region has, of the picture after a look and by its side as a number.
use mathlib.Core.Path.{◌≡◌}
use mathlib.Core.List.{List}
use Prim.Native.Nat.{ℕ, ◌+◌}
use Rattle.picture.specs.Parts.{Blank, Apart}

pub same_blank : {w x xend y yend : ℕ} {b b' : List ℕ} → b' ≡ b → Blank w x xend y yend b → Blank w x xend y yend b'
same_blank e k = rw e k

pub looked_apart : {w x y m n : ℕ} {b b' : List ℕ} → m ≡ n → Apart w x (x + m) y (y + m) b b'
    → Apart w x (x + n) y (y + n) b b'
looked_apart e a = rw e at a
