-- `main` lends `line` the bytes that were read, and writes those that it printed: they lie in the output.
-- Assumes nothing.
use mathlib.Core.Path.{sym}
use native.Mathlib.Omega.{arith}
use lib.Seq.{length-take-le}
use Rattle.line.specs.Line.{Line}
use Rattle.print.proofs.WriteLaws.{writes_within}
use Rattle.ringline.proofs.main.Goals as goal

pub slice_bounds-output-end : goal.slice_bounds-output-end
unfolding Line
slice_bounds-output-end c = writes_within _ 0 _ _ _ (omega arith) c.line-printed.ensures

pub slice_bounds-write_all-end : goal.slice_bounds-write_all-end
unfolding Line
slice_bounds-write_all-end c = sym (length-take-le _ _ (writes_within _ 0 _ _ _ (omega arith) c.line-printed.ensures))
