-- `text::number` meets its contract: what passes the test is summed up.
-- Assumes nothing.
use Rattle.std.proofs.Common.{sym, ap, ◌∙◌, Some}
use Rattle.text.proofs.NumeralLaws.{number_is, number_not}
use Rattle.text.proofs.number.Goals as goal

pub returns-then-is_number : goal.returns-then-is_number
returns-then-is_number c = ap Some c.value.ensures ∙ sym (number_is _ (sym c.is_number.ensures ∙ c.if-is_number.true))

pub returns-else-is_number : goal.returns-else-is_number
returns-else-is_number c = sym (number_not _ (sym c.is_number.ensures ∙ c.if-is_number.false))
