-- `bits::list` meets its contract: block by block, each written after those before it.
-- Assumes nothing.
use Rattle.std.proofs.Common.{refl, sym, ap, ◌∙◌, ◌+◌, ◌/◌, ◌≤◌, length, arith}
use Rattle.bits.specs.Blocks.{blocks, blockwise}
use Rattle.bits.specs.Listing.{listed_block, listed}
use Rattle.bits.proofs.Blockwise.{progress_start, progress_turn, progress_end}
use Rattle.bits.proofs.list.Goals as goal
use borrow.Rule.Slice.PartMut.{mid_len}

pub loop-at-init : goal.loop-at-init
unfolding listed
loop-at-init c = progress_start _ refl (ap (λ n. blockwise listed_block (λ B. B / 8) (blocks n) c.args.bytes.now) (sym c.requires.0))

pub loop-at-preserved : goal.loop-at-preserved
loop-at-preserved c =
    let f = c.first_block.ensures in
    let at = c.loop-at.at in
    let B = c.first_block.result in
    let fits : at + B ≤ length c.loop-at.bits = omega arith in
    let lent = mid_len at (at + B) c.loop-at.bits fits in
    progress_turn c.loop-at.invariant B _ (at + B) _ _ _ f.0 f.2 f.3 (omega arith) (omega arith) fits (lent ∙ omega arith) (omega arith)
    c.list_block.ensures (c.list_block.auto.bits ∙ lent)

pub returns : goal.returns
returns c = progress_end c.loop-at.invariant c.loop-at-test.false c.loop-at-test.false
