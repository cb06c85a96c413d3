-- `line` prints the refusal, or the lines of the product, for which there is room.
-- Assumes nothing.
use mathlib.Core.Path.{sym, refl}
use native.Mathlib.Omega.{arith}
use Rattle.print.proofs.WriteLaws.{writes_as}
use Rattle.line.specs.Line.{Line}
use Rattle.line.proofs.Exits.{refused_short}
use Rattle.line.proofs.line.Goals as goal

pub put_answer-requires : goal.put_answer-requires
put_answer-requires c =
    let short = refused_short c.in-Err.ensures in
    (short.0, omega (arith, short.1, c.told-output))

pub returns-in-Ok : goal.returns-in-Ok
unfolding Line
returns-in-Ok c = writes_as c.put_lines.ensures (sym c.in-Ok.ensures.said) refl

pub returns-in-Err : goal.returns-in-Err
unfolding Line
returns-in-Err c = writes_as c.put_answer.ensures (sym c.in-Err.ensures.said) refl
