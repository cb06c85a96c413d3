-- `print::Page::put_decimal` ends: a tenth is less.
-- Assumes nothing.
use Rattle.print.proofs.Page.+put_decimal.Given as goal

abbrev pub decreases-put_decimal : goal.decreases-put_decimal
decreases-put_decimal l = l.v
