-- `open_2_in` owes 5 at the first mark above 2, and otherwise the message.
-- Assumes nothing.
use mathlib.Core.Path.{refl, sym}
use Prim.Native.Nat.{◌≤◌}
use native.Mathlib.Omega.{arith}
use lib.ListN.{length}
use Rattle.std.proofs.Common.{Ok, Err}
use Rattle.lists.specs.First.{first_where}
use Rattle.marks.specs.Marks.{no_mark}
use Rattle.answers.specs.declared.Refusal.TheVariants.{BadMark}
use Rattle.answers.specs.Replies.{leaves}
use Rattle.stages.specs.Opening.{opened_message}
use Rattle.lists.proofs.FirstLaws.{position_none}
use Rattle.marks.proofs.MarkLaws.{marks_of_lem}
use Rattle.answers.proofs.Counting.{counted_one}
use Rattle.answers.proofs.Exits.{done, found_at, found_nowhere}
use Rattle.calls_open_2.proofs.open_2_in.Goals as goal

pub returns-in-Some : goal.returns-in-Some
unfolding leaves
returns-in-Some c = found_at _ 5 no_mark _ _ (Err (BadMark _)) _ refl refl (counted_one no_mark c.args.marks.now c.in-Some.ensures) refl

pub decode-requires-clause-message_len : goal.decode-requires-clause-message_len
decode-requires-clause-message_len c =
    let none : length c.args.marks.now ≤ first_where no_mark c.args.marks.now = omega (arith, position_none no_mark c.args.marks.now (sym c.in_default.ensures)) in
    (c.requires.0, c.requires.3, c.requires.2, marks_of_lem c.args.marks.now none)

pub returns : goal.returns
unfolding leaves opened_message
returns c = found_nowhere _ 5 no_mark _ _ (counted_one no_mark c.args.marks.now c.in_default.ensures) (Ok tt) (done _ c.decode.ensures)
