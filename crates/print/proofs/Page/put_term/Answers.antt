-- `print::Page::put_term` meets its contract: the index, the colon and the value, one after the other.
-- Assumes nothing.
use Rattle.std.proofs.Common.{◌∷◌, ap, sym, arith}
use Rattle.print.specs.Printing.{decimal, printed_term}
use Rattle.print.proofs.PageLaws.{prints_as, then_prints, room_as, room_first, room_next}
use Rattle.print.proofs.Page.put_term.Goals as goal

pub put_decimal-requires : goal.put_decimal-requires
unfolding printed_term
put_decimal-requires c = (c.requires.0, room_first (58 ∷ decimal c.args.v) c.requires.1)

pub put_byte-requires : goal.put_byte-requires
unfolding printed_term
put_byte-requires c = room_first (decimal c.args.v) (room_next c.put_decimal.ensures c.requires.1)

pub put_decimal-requires-2 : goal.put_decimal-requires-2
unfolding printed_term
put_decimal-requires-2 c =
    let room = room_next {t = decimal c.args.v} c.put_byte.ensures (room_next c.put_decimal.ensures c.requires.1) in
    (omega (arith, c.from.ensures), room_as room (ap decimal (sym c.from.ensures)))

pub returns : goal.returns
unfolding printed_term
returns c =
    let value = prints_as c.put_decimal-2.ensures (ap decimal c.from.ensures) in
    then_prints c.put_decimal.ensures (then_prints c.put_byte.ensures value (room_next c.put_decimal.ensures c.requires.1)) c.requires.1
