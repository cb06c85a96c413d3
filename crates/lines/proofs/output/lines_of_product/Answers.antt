-- `lines_of_product` prints the answer, the set and the product, one after the other.
-- Assumes nothing.
use Rattle.std.proofs.Common.{◌++◌, arith}
use Rattle.print.specs.Printing.{decimal, printed_polynomial}
use Rattle.print.proofs.PageLaws.{then_prints, room_first, room_next}
use Rattle.lines.specs.Names.{set_name, product_name}
use Rattle.lines.specs.Output.{line_of, product_lines}
use Rattle.lines.proofs.output.lines_of_product.Goals as goal

pub lines_of_answer-requires : goal.lines_of_answer-requires
unfolding product_lines
lines_of_answer-requires c =
    let others = line_of set_name (decimal c.args.set) ++ line_of product_name (printed_polynomial c.args.list.now) in
    (omega arith, room_first others c.requires.room)

pub number_line-requires : goal.number_line-requires
unfolding product_lines
number_line-requires c =
    let product = line_of product_name (printed_polynomial c.args.list.now) in
    (c.requires.few_digits.0, room_first product (room_next c.lines_of_answer.ensures c.requires.room))

pub product_line-requires : goal.product_line-requires
unfolding product_lines
product_line-requires c = (c.requires.few_digits.1, room_next c.number_line.ensures (room_next c.lines_of_answer.ensures c.requires.room))

pub returns : goal.returns
unfolding product_lines
returns c =
    let rest = then_prints c.number_line.ensures c.product_line.ensures (room_next c.lines_of_answer.ensures c.requires.room) in
    then_prints c.lines_of_answer.ensures rest c.requires.room
