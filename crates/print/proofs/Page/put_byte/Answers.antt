-- `print::Page::put_byte` meets its contract: a store writes a text of one byte.
-- Assumes nothing.
use Rattle.std.proofs.Common.{refl, arith}
use Rattle.print.proofs.WriteLaws.{writes_byte}
use Rattle.print.proofs.Page.put_byte.Goals as goal

pub returns : goal.returns
returns c = record { same = refl; writes = writes_byte _ _ _ (omega (arith, c.requires.fits)) }
