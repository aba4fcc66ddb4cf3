-- The lines of merging that are its own.
use Rattle.std.specs.Prelude.{not, ℕ, ◌+◌, ◌*◌, eqb}
use Rattle.rules.specs.Values.{when}
use Rattle.merge_rules.specs.Merging.{fits_merged}

-- Lines 21 and 14 by the counts of the two tapes: k and l clauses in n and m slots, and an output of a bytes.
abbrev pub limit_line : ℕ → ℕ → ℕ → ℕ → ℕ
limit_line k l n m = when (not (fits_merged k l n m)) 21

abbrev pub length_line : ℕ → ℕ → ℕ → ℕ
length_line k l a = when (not (eqb a (8 + 10 * (k + l + 1)))) 14
