-- `text::in_range` meets its contract: the same four comparisons.
-- Assumes nothing.
use Rattle.std.proofs.lemmas.Bool.Decides.{nat_tests}
use Rattle.std.proofs.Common.{arith}
use Rattle.text.specs.Terms.{allowed}
use Rattle.text.proofs.in_range.Goals as goal

pub returns-then-contains-clause-test : goal.returns-then-contains-clause-test
unfolding allowed
returns-then-contains-clause-test c = grind (arith, nat_tests)

pub returns-else-contains-clause-test : goal.returns-else-contains-clause-test
unfolding allowed
returns-else-contains-clause-test c = grind (arith, nat_tests)
