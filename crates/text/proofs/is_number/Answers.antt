-- `text::is_number` meets its contract: the same tests.
-- Assumes nothing.
use Rattle.std.proofs.lemmas.Bool.Decides.{nat_tests}
use Rattle.std.proofs.Common.{arith}
use Rattle.text.specs.Numerals.{is_number}
use Rattle.text.proofs.is_number.Goals as goal

pub returns-then-all_digits : goal.returns-then-all_digits
unfolding is_number
returns-then-all_digits c = grind (arith, nat_tests)

pub returns-else-all_digits : goal.returns-else-all_digits
unfolding is_number
returns-else-all_digits c = grind (arith, nat_tests)
