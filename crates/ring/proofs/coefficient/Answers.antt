-- `coefficient` meets its contract: the places that count, below n and from n on.
-- Assumes nothing.
use mathlib.Core.Path.{◌∙◌}
use native.Mathlib.Omega.{arith}
use Rattle.ring.proofs.ProductLaws.{dot_all, dot_within}
use Rattle.ring.proofs.coefficient.Goals as goal

pub returns-then-m-n : goal.returns-then-m-n
returns-then-m-n c = c.dot.ensures ∙ dot_all c.args.a.now c.args.b.now c.args.m

pub returns-else-m-n : goal.returns-else-m-n
returns-else-m-n c = c.dot-else-m-n.ensures ∙ dot_within c.args.a.now c.args.b.now c.args.m c.requires.0.long (omega arith)
