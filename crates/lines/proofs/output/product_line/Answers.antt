-- `product_line` prints the name, the polynomial and an LF, one after the other.
-- Assumes nothing.
use Rattle.std.proofs.Common.{[], ◌∷◌, ◌++◌}
use Rattle.print.specs.Printing.{printed_polynomial}
use Rattle.print.proofs.PageLaws.{then_prints, room_first, room_next}
use Rattle.text.specs.Lines.{lf}
use Rattle.lines.specs.Output.{line_of}
use Rattle.lines.proofs.output.product_line.Goals as goal

pub put-requires : goal.put-requires
unfolding line_of
put-requires c = room_first (printed_polynomial c.args.list.now ++ (lf ∷ [])) c.requires.1

pub put_polynomial-requires : goal.put_polynomial-requires
unfolding line_of
put_polynomial-requires c = (c.requires.0, room_first (lf ∷ []) (room_next c.put.ensures c.requires.1))

pub put_byte-requires : goal.put_byte-requires
unfolding line_of
put_byte-requires c = room_next c.put_polynomial.ensures (room_next c.put.ensures c.requires.1)

pub returns : goal.returns
unfolding line_of
returns c = then_prints c.put.ensures (then_prints c.put_polynomial.ensures c.put_byte.ensures (room_next c.put.ensures c.requires.1)) c.requires.1
