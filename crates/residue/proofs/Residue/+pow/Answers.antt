-- `residue::Residue::pow` meets its contract: the exponent falls by halves, and each branch is one law of powers.
-- Assumes nothing.
use Rattle.std.proofs.Common.{sym, ap, ap₂, ◌∙◌}
use Rattle.residue.specs.Field.{mulq, powq}
use Rattle.residue.proofs.PowerLaws.{powq_zero, powq_even, powq_odd}
use Rattle.residue.proofs.Residue.+pow.Goals as goal

pub returns-then-e-eq0 : goal.returns-then-e-eq0
returns-then-e-eq0 t c =
    let base = c.args.self.value in sym (ap (powq base) c.if-e-eq0.true ∙ powq_zero base)

pub returns-then-e-eq0-2 : goal.returns-then-e-eq0-2
returns-then-e-eq0-2 t c =
    let half = c.pow-half.ensures in
    c.mul-square.ensures ∙ ap₂ mulq half half ∙ sym (powq_even c.args.self.value c.args.e c.if-e-eq0-2.true)

pub returns-else-e-eq0-2 : goal.returns-else-e-eq0-2
returns-else-e-eq0-2 t c =
    let base = c.args.self.value in
    let half = c.pow-half.ensures in
    let square = c.mul-square.ensures ∙ ap₂ mulq half half in
    c.mul.ensures ∙ ap (λ x. mulq x base) square ∙ sym (powq_odd base c.args.e c.if-e-eq0-2.false)
