-- `body` hands back what stands after the name in a line that an LF ends.
-- Assumes nothing.
use Rattle.std.proofs.Common.{◌≡◌, Some, None, position, eqb, arith}
use Rattle.lists.proofs.FirstLaws.{position_none}
use Rattle.text.specs.Lines.{lf}
use Rattle.lines.proofs.InputLaws.{line_open, line_after}
use Rattle.lines.proofs.input.body.Goals as goal

pub returns-in_err-end : goal.returns-in_err-end
returns-in_err-end c =
    let none : position (eqb lf) c.args.s.now ≡ None = grind arith in
    rw c.from_residual.ensures (line_open c.args.name.now c.args.s.now (omega (arith, position_none (eqb lf) c.args.s.now none)))

pub returns : goal.returns
returns c =
    let found : position (eqb lf) c.args.s.now ≡ Some c.in_ok-end.end = grind arith in
    line_after c.args.name.now c.args.s.now found c.after.result c.after.ensures
