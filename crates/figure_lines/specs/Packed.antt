-- What packing a list leaves of an output: the tape's bytes, or those that were there if it is refused.
use Rattle.std.specs.Prelude.{List, ℤ, ℕ}
use Rattle.rules.specs.Tapes.{read_list, tape_bytes}
use Rattle.answers.specs.Says.{written}
use Rattle.promises.specs.Faults.{copy_fault}

abbrev pub packed_onto : ℕ → List ℤ → List ℕ → List ℕ
packed_onto n zs o =
    let b = tape_bytes (read_list n zs).tape in
    written (copy_fault (read_list n zs) b o) b o
