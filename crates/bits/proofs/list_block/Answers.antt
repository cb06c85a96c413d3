-- `bits::list_block` meets its contract: the block is filled by rows, row l from place l (B/16) on.
-- Assumes nothing.
use Rattle.std.proofs.Common.{◌≡◌, refl, ◌+◌, ◌-◌, ◌*◌, ◌/◌, ◌≤◌, length, arith}
use Rattle.lists.proofs.Fill.{fill_part, fill_end}
use Rattle.bits.specs.Listing.{listed_block}
use Rattle.bits.proofs.Places.{row_ends}
use Rattle.bits.proofs.BlockLaws.{row_is}
use Rattle.bits.proofs.list_block.Goals as goal
use borrow.Rule.Slice.PartMut.{mid_len}

pub loop-l-preserved : goal.loop-l-preserved
loop-l-preserved c =
    let B = length c.args.bits.now in
    let l = c.loop-l.l in
    let at = l * (B / 16) in
    let end = (l + 1) * (B / 16) in
    let fits : end ≤ B = omega (arith, row_ends B l c.requires.1 (omega arith)) in
    let wide : end - at ≡ B / 16 = omega arith in
    let same = mid_len at end c.loop-l.bits (omega arith) in
    fill_part c.loop-l.invariant end _ (omega arith) fits (row_is c.args.bytes.now _ B _ _ at l refl same wide c.list_row.ensures)

pub returns : goal.returns
unfolding listed_block
returns c =
    let last : c.loop-l.l ≡ 16 = omega arith in
    fill_end c.loop-l.invariant (rw last (omega arith))
