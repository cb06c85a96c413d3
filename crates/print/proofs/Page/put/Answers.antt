-- `print::Page::put` meets its contract: the part of the buffer from the place on is the text.
-- Assumes nothing.
use Rattle.std.proofs.Common.{◌+◌, ◌++◌, length, take, refl, ap₂, arith}
use borrow.Rule.Slice.PartMut.{Post-is}
use Rattle.print.specs.Write.{write}
use Rattle.print.proofs.Page.put.Goals as goal

pub returns : goal.returns
unfolding write
returns c =
    let before = c.args.self.now.out.now in
    let at = c.args.self.now.at in
    let after = Post-is at (at + length c.args.text.now) before (omega arith) in
    record { same = refl; writes = record { content = ap₂ (λ s rest. take at before ++ (s ++ rest)) c.copy_from_slice.ensures.after after; end = refl } }
