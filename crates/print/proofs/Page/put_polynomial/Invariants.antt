-- `print::Page::put_polynomial` meets its contract: the terms of the places so far are printed.
-- Assumes nothing.
use Rattle.std.proofs.Common.{◌≤◌, length, take}
use Rattle.print.specs.Page.{Prints}
use Rattle.print.specs.Printing.{printed_polynomial}
use Rattle.print.proofs.Page.put_polynomial.Given as goal

abbrev pub invariant-loop-i : goal.invariant-loop-i
invariant-loop-i l = (l.i ≤ length l.list) × Prints l.initial.self (printed_polynomial (take l.i l.list)) l.self
