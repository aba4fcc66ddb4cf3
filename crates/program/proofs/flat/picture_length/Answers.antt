-- The picture's length, on sizes of at most 512.
use Rattle.std.proofs.Common.{◌≡◌, refl, sym, ap, subst, ◌∙◌, ℕ, ◌*◌, ◌≤◌, false, arith}
use Rattle.rules.specs.Drawings as D
use Rattle.rules.specs.Pictures as P
use Rattle.faults.proofs.NumberLaws.{some_number}
use Rattle.picture.specs.Shapes.{grid_in}
use Rattle.picture.specs.declared.grid.Grid.{Grid}
use Rattle.picture.proofs.PictureSizes.{flat_size_lem}
use Rattle.netpbm.proofs.FileLaws.{most_bytes}
use Rattle.program.proofs.Layers.{sides}
use Rattle.program.proofs.flat.picture_length.Goals as goal

most : (g : Grid) (k : ℕ) → 0 ≡ D.grid_fault false (grid_in g false) → k ≡ P.stride g.width → g.height * k ≤ 32768
most g k e q = subst (λ k. g.height * k ≤ 32768) (sym q) (most_bytes (sides false g (sym e)))

pub returns-in-Err : goal.returns-in-Err
returns-in-Err c =
    record { size = λ e. absurd (some_number _ (c.in-Err.ensures ∙ e)); most = omega arith }

pub stride-requires : goal.stride-requires
stride-requires c = (sides false c.args.grid (sym c.in-Ok.ensures)).width_most

pub overflow_mul-result : goal.overflow_mul-result
overflow_mul-result c = record { fits = omega (arith, most c.args.grid _ c.in-Ok.ensures c.stride.ensures) }

pub returns-in-Ok : goal.returns-in-Ok
returns-in-Ok c =
    let g = c.args.grid in
    record {
      size = λ _. ap (λ k. g.height * k) c.stride.ensures ∙ flat_size_lem false _ refl;
      most = most g _ c.in-Ok.ensures c.stride.ensures;
    }
