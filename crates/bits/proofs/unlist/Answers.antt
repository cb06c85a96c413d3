-- `bits::unlist` meets its contract: block by block, each written after those before it.
-- Assumes nothing.
use Rattle.std.proofs.Common.{refl, ◌∙◌, ◌+◌, ◌/◌, ◌≤◌, length, arith}
use Rattle.bits.specs.Listing.{unlisted}
use Rattle.bits.proofs.Blockwise.{progress_start, progress_turn, progress_end}
use Rattle.bits.proofs.unlist.Goals as goal
use borrow.Rule.Slice.PartMut.{mid_len}

pub loop-at-init : goal.loop-at-init
unfolding unlisted
loop-at-init c = progress_start _ refl refl

pub loop-at-preserved : goal.loop-at-preserved
loop-at-preserved c =
    let f = c.first_block.ensures in
    let bits = c.args.bits.now in
    let at = c.loop-at.at in
    let B = c.first_block.result in
    let fits : (at + B) / 8 ≤ length c.loop-at.bytes = omega arith in
    let read = mid_len at (at + B) bits (omega arith) in
    let lent = mid_len (at / 8) ((at + B) / 8) c.loop-at.bytes fits in
    progress_turn c.loop-at.invariant B _ ((at + B) / 8) _ _ _ f.0 f.2 f.3 refl (omega arith) fits (read ∙ omega arith) (omega arith)
    c.unlist_block.ensures (c.unlist_block.auto.bytes ∙ lent)

pub returns : goal.returns
returns c = progress_end c.loop-at.invariant c.loop-at-test.false (omega arith)
