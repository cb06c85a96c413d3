-- `print::Page::put_place` meets its contract: nothing, a term, or a comma and a term.
-- Assumes nothing.
use Rattle.std.proofs.Common.{sym}
use Rattle.print.specs.Printing.{printed_term}
use Rattle.print.proofs.PageLaws.{prints_as, prints_nothing, then_prints, room_as, room_first, room_next}
use Rattle.print.proofs.PrintingLaws.{place_zero, place_first, place_next}
use Rattle.print.proofs.Page.put_place.Goals as goal
use Rattle.print.proofs.Page.put_place.Goals.{then-not-first, else-not-first}

pub returns-then-v-eq0 : goal.returns-then-v-eq0
returns-then-v-eq0 c = prints_as prints_nothing (sym (place_zero _ _ _ c.if-v-eq0.true))

pub put_byte-requires : goal.put_byte-requires
put_byte-requires c = room_first (printed_term c.args.i c.args.v) (room_as c.requires.1 (place_next _ _ _ c.if-v-eq0.false c.if-not-first.true))

pub put_term-requires : goal.put_term-requires
put_term-requires c = (
  c.requires.0,
  elim c.if-not-first.branch [
    | then-not-first w ↦ rw w.self-is (room_next w.put_byte.ensures (room_as c.requires.1 (place_next _ _ _ c.if-v-eq0.false w.if-not-first.true)))
    | else-not-first w ↦ rw w.self-is (room_as c.requires.1 (place_first _ _ _ c.if-v-eq0.false w.if-not-first.false))
  ],
)

pub returns : goal.returns
returns c =
    elim c.if-not-first.branch [
      | then-not-first w ↦
          let next = place_next c.args.first c.args.i c.args.v c.if-v-eq0.false w.if-not-first.true in
          prints_as (then_prints w.put_byte.ensures (rw w.self-is at c.put_term.ensures) (room_as c.requires.1 next)) (sym next)
      | else-not-first w ↦ prints_as (rw w.self-is at c.put_term.ensures) (sym (place_first _ _ _ c.if-v-eq0.false w.if-not-first.false))
    ]
