-- `print::Page::put_polynomial` meets its contract: the terms of the places so far are printed.
-- Assumes nothing.
use Rattle.std.proofs.Common.{◌+◌, sym, arith}
use Rattle.print.specs.Printing.{printed_terms, joined, printed_polynomial}
use Rattle.print.proofs.PageLaws.{prints_nothing, prints_as, then_prints, room_as, room_less, room_next}
use Rattle.print.proofs.PrintingLaws.{printed_more, printed_within}
use Rattle.print.proofs.Page.put_polynomial.Goals as goal

pub loop-i-init : goal.loop-i-init
unfolding printed_polynomial printed_terms joined
loop-i-init c = (omega arith, prints_nothing)

pub put_place-requires : goal.put_place-requires
put_place-requires c =
    let turn = printed_more c.args.list.now c.loop-i.i c.args.self.now.at c.loop-i.self.at c.loop-i-test.true c.loop-i.invariant.1.writes.end in
    let room = room_as (room_less c.requires.1 (printed_within c.args.list.now (c.loop-i.i + 1))) turn in
    (omega (arith, c.requires), room_next c.loop-i.invariant.1 room)

pub loop-i-preserved : goal.loop-i-preserved
loop-i-preserved c =
    let turn = printed_more c.args.list.now c.loop-i.i c.args.self.now.at c.loop-i.self.at c.loop-i-test.true c.loop-i.invariant.1.writes.end in
    let room = room_as (room_less c.requires.1 (printed_within c.args.list.now (c.loop-i.i + 1))) turn in
    (omega arith, prints_as (then_prints c.loop-i.invariant.1 c.put_place.ensures room) (sym turn))
