-- `text::unpadded` meets its contract: one byte has no leading zero, and of more the first tells.
-- Assumes nothing.
use Rattle.std.proofs.Common.{sym, ◌∙◌}
use borrow.Author.Tests.{lt-ltb}
use Rattle.text.proofs.NumeralLaws.{unpadded_short, unpadded_long}
use Rattle.text.proofs.unpadded.Goals as goal

pub returns-then-s-lt2 : goal.returns-then-s-lt2
returns-then-s-lt2 c = lt-ltb _ _ c.if-s-lt2.true ∙ sym (unpadded_short _ c.if-s-lt2.true)

pub returns-else-s-lt2 : goal.returns-else-s-lt2
returns-else-s-lt2 c = sym (unpadded_long _ c.if-s-lt2.false)
