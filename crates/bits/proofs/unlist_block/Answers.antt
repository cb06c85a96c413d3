-- `bits::unlist_block` meets its contract: the bytes are filled two by two, one half word a turn.
-- Assumes nothing.
use Rattle.std.proofs.Common.{◌≡◌, ap, ◌∙◌, ℕ, ◌+◌, ◌*◌, ◌/◌, ◌<◌, length, get_or, arith}
use Rattle.lists.specs.Tab.{tab}
use Rattle.lists.proofs.Fill.{fill_turn, fill_as, fill_end}
use Rattle.bits.specs.Bits.{number}
use Rattle.bits.specs.Listing.{goes_to, unlisted_block}
use Rattle.bits.proofs.BlockLaws.{byte_is}
use Rattle.bits.proofs.unlist_block.Goals as goal

pub loop-u-preserved : goal.loop-u-preserved
loop-u-preserved c =
    let v = c.args.bits.now in
    let B = length v in
    let k = c.loop-u.u in
    let r : 2 * k + 1 < length c.args.bytes.now = omega arith in
    let f : ℕ → ℕ = λ i. number 8 (λ b. get_or v (goes_to B (8 * i + b)) 0) in
    let z : 2 * k + 0 ≡ 2 * k = omega arith in
    let low = fill_turn c.loop-u.invariant _ (omega arith) (c.gather.ensures ∙ byte_is v B k 0 k (omega arith) (omega arith) ∙ ap f z) in
    let high = fill_turn low _ r (c.gather-in-loop-u.ensures ∙ byte_is v B k 1 (8 * (B / 16) + k) (omega arith) (omega arith)) in
    fill_as high (2 * (k + 1)) (omega arith)

pub returns : goal.returns
unfolding unlisted_block
returns c =
    let v = c.args.bits.now in
    let e : length c.args.bytes.now ≡ length v / 8 = omega arith in
    fill_end c.loop-u.invariant (omega arith) ∙ ap (λ m. tab m (λ i. number 8 (λ b. get_or v (goes_to (length v) (8 * i + b)) 0))) e
