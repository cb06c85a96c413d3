-- `text::digit` meets its contract: a digit is 48 to 57.
-- Assumes nothing.
use native.Mathlib.Omega.{arith}
use Rattle.text.proofs.NumeralLaws.{digit_is}
use Rattle.text.proofs.digit.Goals as goal

pub overflow_sub-byte : goal.overflow_sub-byte
overflow_sub-byte c = omega (arith, digit_is _ c.requires)

pub returns : goal.returns
returns c = omega (arith, digit_is _ c.requires)
