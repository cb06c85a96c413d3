-- `lines_of_answer` prints the answer's number and its place, a line each.
-- Assumes nothing.
use Rattle.std.proofs.Common.{ap, sym, arith}
use Rattle.answers.specs.Answers.{place_of}
use Rattle.answers.proofs.AnswerLaws.{number_small}
use Rattle.print.specs.Printing.{decimal}
use Rattle.print.proofs.PageLaws.{prints_as, then_prints, room_as, room_first, room_next}
use Rattle.lines.specs.Names.{code_name, place_name}
use Rattle.lines.specs.Output.{line_of, answer_lines}
use Rattle.lines.proofs.output.lines_of_answer.Goals as goal

pub number_line-requires : goal.number_line-requires
unfolding answer_lines
number_line-requires c =
    let room = room_first (line_of place_name (decimal (place_of c.args.answer))) c.requires.1 in
    (omega (arith, c.number.ensures, number_small c.args.answer), room_as room (ap (λ k. line_of code_name (decimal k)) (sym c.number.ensures)))

pub number_line-requires-2 : goal.number_line-requires-2
unfolding answer_lines
number_line-requires-2 c =
    let code = prints_as c.number_line.ensures (ap (λ k. line_of code_name (decimal k)) c.number.ensures) in
    (omega (arith, c.place.ensures, c.requires), room_as (room_next code c.requires.1) (ap (λ k. line_of place_name (decimal k)) (sym c.place.ensures)))

pub returns : goal.returns
unfolding answer_lines
returns c =
    let code = prints_as c.number_line.ensures (ap (λ k. line_of code_name (decimal k)) c.number.ensures) in
    let place = prints_as c.number_line-2.ensures (ap (λ k. line_of place_name (decimal k)) c.place.ensures) in
    then_prints code place c.requires.1
