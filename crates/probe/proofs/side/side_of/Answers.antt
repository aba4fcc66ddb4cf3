-- By the sign of the value.
use Rattle.std.proofs.Common.{◌≡◌, pos, sym, ap, ◌∙◌, to_z-of_z, w32}
use lib.Signed.{lt_z}
use Rattle.rules.specs.Probes.{stored_float}
use Rattle.rules.proofs.Words.{read}
use Rattle.probe.proofs.Probing.{inside, outside, on_surface}
use Rattle.probe.proofs.side.side_of.Goals as goal
use Rattle.probe.proofs.side.side_of.Goals.{Start}

-- The value is what is read from its word.
same : (c : Start) → read w32 c.args.v ≡ c.args.v
same c = to_z-of_z c.ranges.v

pub returns-then-v-lt0 : goal.returns-then-v-lt0
returns-then-v-lt0 c =
    let s = same (goal.at.returns-then-v-lt0 c).Start in
    inside _ (ap (λ z. lt_z z (pos 0)) (sym s) ∙ c.if-v-lt0.true) (c.stored.ensures ∙ ap stored_float s)

pub returns-then-v-gt0 : goal.returns-then-v-gt0
returns-then-v-gt0 c =
    let s = same (goal.at.returns-then-v-gt0 c).Start in
    outside _ (ap (lt_z (pos 0)) (sym s) ∙ c.if-v-gt0.true) (c.stored-then-v-gt0.ensures ∙ ap stored_float s)

pub returns : goal.returns
returns c =
    let s = same (goal.at.returns c).Start in
    on_surface c.args.v (ap (λ z. lt_z z (pos 0)) (sym s) ∙ c.if-v-lt0.false)
    (ap (lt_z (pos 0)) (sym s) ∙ c.if-v-gt0.false)
