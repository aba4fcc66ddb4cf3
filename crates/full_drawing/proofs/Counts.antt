-- The count of a full drawing, and that it fits a word.
use mathlib.Core.Path.{◌≡◌, sym, ap, ◌∙◌}
use mathlib.Core.List.{List}
use Prim.Native.Nat.{ℕ, ◌*◌, ◌≤◌}
use native.Mathlib.Nat.{mul-le-mul}
use lib.ListN.{length, length-map}
use Rattle.rules.specs.Tapes.{clause_limit}
use Rattle.rules.specs.Drawings.{Grid, size_limit, layers, full_count}
use Rattle.code.specs.Words.{clauses_in, tape_in}

pub record CountFits (k w h d : ℕ) : Type 0 where
  pub column : h * d ≤ 262144
  pub samples : w * (h * d) ≤ 134217728
  pub clauses : k * (w * (h * d)) ≤ 824633720832

pub count_fits : (k w h d : ℕ) → k ≤ clause_limit → w ≤ size_limit → h ≤ size_limit → d ≤ size_limit → CountFits k w h d
count_fits k w h d lk lw lh ld =
    let a : h * d ≤ 512 * 512 = mul-le-mul lh ld in
    let b : w * (h * d) ≤ 512 * 262144 = mul-le-mul lw a in
    let c : k * (w * (h * d)) ≤ 6144 * 134217728 = mul-le-mul lk b in
    record { column = a; samples = b; clauses = c }

pub full_count_lem : (n : ℕ) (ws : List ℕ) (g : Grid) (c : ℕ) → c ≡ length ws * (g.width * (g.height * layers g))
    → c ≡ full_count (tape_in n ws) g
unfolding full_count clauses_in
full_count_lem n ws g c e = e ∙ ap (λ k. k * (g.width * (g.height * layers g))) (sym (length-map ws _))
