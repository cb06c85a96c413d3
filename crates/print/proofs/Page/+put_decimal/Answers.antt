-- `print::Page::put_decimal` meets its contract: the digits of a tenth, if there is any, and the last digit.
-- Assumes nothing.
use Rattle.std.proofs.Common.{sym, arith}
use Rattle.print.proofs.DecimalLaws.{decimal_one, decimal_more}
use Rattle.print.proofs.PageLaws.{prints_as, then_prints, room_as, room_first, room_next}
use Rattle.print.proofs.Page.+put_decimal.Goals as goal
use Rattle.print.proofs.Page.+put_decimal.Goals.{then-v-ge10, else-v-ge10}

pub put_decimal-requires : goal.put_decimal-requires
put_decimal-requires t c =
    let room = room_as c.requires.1 (decimal_more c.args.v c.if-v-ge10.true c.requires.0) in
    (omega arith, (omega arith, room_first _ room))

pub put_byte-requires : goal.put_byte-requires
put_byte-requires t c =
    elim c.if-v-ge10.branch [
      | then-v-ge10 w ↦ rw w.self-is (room_next w.put_decimal.ensures (room_as c.requires.1 (decimal_more c.args.v w.if-v-ge10.true c.requires.0)))
      | else-v-ge10 w ↦ rw w.self-is (room_as c.requires.1 (decimal_one c.args.v w.if-v-ge10.false))
    ]

pub returns : goal.returns
returns t c =
    elim c.if-v-ge10.branch [
      | then-v-ge10 w ↦
          let more = decimal_more c.args.v w.if-v-ge10.true c.requires.0 in
          prints_as (then_prints w.put_decimal.ensures (rw w.self-is at c.put_byte.ensures) (room_as c.requires.1 more)) (sym more)
      | else-v-ge10 w ↦ prints_as (rw w.self-is at c.put_byte.ensures) (sym (decimal_one c.args.v w.if-v-ge10.false))
    ]
