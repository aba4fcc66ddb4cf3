-- Left alone outside the window, or the slopes at the visible sample.
use mathlib.Core.Path.{◌≡◌, refl, subst, ◌∙◌}
use mathlib.Core.Bool.{true}
use Prim.Native.Nat.{◌+◌, ◌-◌, ◌*◌, ◌<◌, ◌≤◌}
use native.Mathlib.Omega.{arith}
use lib.ListN.{get_or}
use mir.Syntax.{w32}
use Rattle.rules.specs.Values.{Sample}
use Rattle.rules.specs.Drawings.{sample_at}
use Rattle.rules.proofs.Words.{read, back}
use Rattle.picture.specs.Shapes.{grid_in}
use Rattle.picture.proofs.Grids.{accepted}
use Rattle.picture.proofs.GridWords.{InWords, value_fits}
use Rattle.slope_runs.specs.Shapes.{Sloping}
use Rattle.walk.proofs.CellLaws.{small}
use Rattle.walk.proofs.LookLaws.{sound_runs}
use Rattle.slope_pixels.specs.Shades.{Seen}
use Rattle.slope_pixels.proofs.ShadeLaws.{put_words, pixel_in, three_in, pixel_most, at_words, sample_same}
use Rattle.slope_pixels.proofs.ShadeLaws.{sample_ok_lem, pixel_low, pixel_high, sample_shaded}
use borrow.Author.Rules.{rules}
use Rattle.slope_pixels.proofs.pixels.shade_pixel.Goals as goal
use Rattle.slope_pixels.proofs.pixels.shade_pixel.Goals.{After-sample-3, Start, Else-window-height}
use Rattle.slope_pixels.proofs.pixels.shade_pixel.Goals.{then-height-window-via-then-height-window, then-height-window-via-else-height-window+then-window-height}

-- The grid's numbers as words.
told : (c : Start) → InWords c.args.grid
told c = search rules

-- The height lies in the window: it is not 0, and at most the depth.
in_window : (c : Else-window-height)
    → (let a = c.args in Seen a.grid a.picture.now a.window a.pixel.x a.pixel.y)
in_window c =
    record { above = omega (arith, c.if-height-window.false); most = omega (arith, c.if-window-height.false) }

high : (c : Else-window-height)
    → (let a = c.args in
    let h = get_or a.picture.now (a.pixel.y * a.grid.width + a.pixel.x) 0 in
    (1 ≤ h) × (h - 1 < a.grid.depth))
high c =
    let a = c.args in
    let m = c.requires.fits.heights.most (a.pixel.y * a.grid.width + a.pixel.x) in
    let n = (in_window c).above in
    (omega arith, omega arith)

-- The sample that is made.
abbrev given : After-sample-3 → Sample
given c =
    record {
      x = read w32 c.sample.result;
      y = read w32 c.sample-2.result;
      z = read w32 c.sample-3.result;
    }

made : (c : After-sample-3)
    → (let a = c.args in
    given c
    ≡ sample_at (grid_in a.grid true) a.pixel.x a.pixel.y
    (get_or a.picture.now (a.pixel.y * a.grid.width + a.pixel.x) 0 - 1))
made c =
    let f = (let inner : InWords c.args.grid = search rules in inner) in
    let u = c.sample in
    let v = c.sample-2 in
    let w = c.sample-3 in
    sample_same _ c.requires.fits.heights.fault _ _ _ _
    (back w32 _ u.type_inv (u.ensures ∙ at_words _ f.xorigin f.xstep))
    (back w32 _ v.type_inv (v.ensures ∙ at_words _ f.yorigin f.ystep))
    (back w32 _ w.type_inv (w.ensures ∙ at_words _ f.zorigin f.zstep))

pub overflow_mul-at : goal.overflow_mul-at
overflow_mul-at c =
    let p = c.requires in
    omega (arith, pixel_most _ _ _ p.x_in p.y_in p.fits.heights)

pub overflow_add-at : goal.overflow_add-at
overflow_add-at c = let p = c.requires in omega (arith, pixel_most _ _ _ p.x_in p.y_in p.fits.heights)

pub overflow_cast-at : goal.overflow_cast-at
overflow_cast-at c = let p = c.requires in omega (arith, pixel_most _ _ _ p.x_in p.y_in p.fits.heights)

pub offset_bounds-picture-at : goal.offset_bounds-picture-at
offset_bounds-picture-at c = let p = c.requires in omega (arith, pixel_most _ _ _ p.x_in p.y_in p.fits.heights)

pub bounds-picture-at : goal.bounds-picture-at
bounds-picture-at c = let p = c.requires in pixel_in _ _ _ p.x_in p.y_in p.fits.heights

pub overflow_cast-height : goal.overflow_cast-height
overflow_cast-height c =
    let a = c.args in
    let p = c.requires.fits.heights in
    let d = (small true _ p.fault).depth in
    omega (arith, d, p.most (a.pixel.y * a.grid.width + a.pixel.x))

-- Below the window, or above it.
pub returns-then-height-window : goal.returns-then-height-window
returns-then-height-window c = record {
  shading = elim c.then-height-window.branch [
    | then-height-window-via-then-height-window w ↦ pixel_low c.args.pixel.x c.args.pixel.y _ w.if-height-window.true
    | then-height-window-via-else-height-window+then-window-height w ↦
        pixel_high c.args.pixel.x c.args.pixel.y _ w.if-window-height.true
  ];
  sized = c.requires.sized;
}

pub sample-requires : goal.sample-requires
sample-requires c =
    let f = told (goal.at.sample-requires c).Start in
    let p = c.requires in
    rw (at_words _ f.xorigin f.xstep) ((accepted _ true p.fits.heights.fault).x_value _ p.x_in)

pub sample-requires-2 : goal.sample-requires-2
sample-requires-2 c =
    let f = told (goal.at.sample-requires-2 c).Start in
    let p = c.requires in
    rw (at_words _ f.yorigin f.ystep) ((accepted _ true p.fits.heights.fault).y_value _ p.y_in)

pub overflow_sub-height : goal.overflow_sub-height
overflow_sub-height c = (high (goal.at.overflow_sub-height c).Else-window-height).0

pub sample-requires-3 : goal.sample-requires-3
sample-requires-3 c =
    let f = told (goal.at.sample-requires-3 c).Start in
    let p = c.requires in
    rw (at_words _ f.zorigin f.zstep) ((accepted _ true p.fits.heights.fault).z_value refl _ (high (goal.at.sample-requires-3 c).Else-window-height).1)

pub run_slopes-found-requires : goal.run_slopes-found-requires
run_slopes-found-requires c = let p = c.requires in
    let s = sample_ok_lem _ p.fits.heights.fault _ _ _ p.x_in p.y_in (high (goal.at.run_slopes-found-requires c).Else-window-height).1 _ (made (goal.at.run_slopes-found-requires c).After-sample-3) in
    record {
      runnable = sound_runs p.sound;
      sample_ok = s;
      sized = p.sized;
    }

pub put-requires : goal.put-requires
put-requires c =
    let p = c.requires in
    record {
      three = three_in _ _ _ p.x_in p.y_in p.fits;
      few = pixel_most _ _ _ p.x_in p.y_in p.fits.heights;
    }

pub returns : goal.returns
returns c = let a = c.args in
    let p = c.requires in
    let f = c.run_slopes-found.ensures in
    let v = f.sloping.values p.sound.slots p.sound.accepted in
    let h = get_or a.picture.now (a.pixel.y * a.grid.width + a.pixel.x) 0 in
    record {
      shading = sample_shaded p.fits _ _ p.x_in p.y_in _ (h - 1) (in_window (goal.at.returns c).Else-window-height) (omega (arith, (high (goal.at.returns c).Else-window-height).0))
          c.run_slopes-found.result
          (subst (λ (s : Sample). Sloping a.code.now s c.run_slopes-found.result) (made (goal.at.returns c).After-sample-3) f.sloping)
          (c.put.ensures
          ∙ put_words a.slopes.now (a.pixel.y * a.grid.width + a.pixel.x) (value_fits _ v.x)
          (value_fits _ v.y) (value_fits _ v.z));
      sized = f.sized_after;
    }
