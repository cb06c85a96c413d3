-- `encoding::encode` meets its contract: the bits of the message and of the two halves, then the coefficients.
-- Assumes nothing.
use mathlib.Core.Path.{◌≡◌, sym, ap, ◌∙◌, subst}
use Prim.Native.Nat.{◌%◌}
use native.Mathlib.Omega.{arith}
use lib.ListN.{length}
use Rattle.lists.specs.Below.{Below}
use Rattle.bits.proofs.ListingLaws.{length_listed, below_listed}
use Rattle.small.proofs.Halves.{halves_long, halves_low}
use Rattle.encoding.proofs.Steps.{encoded_is}
use Rattle.encoding.proofs.encode.Goals as goal

pub encode_bits-requires : goal.encode_bits-requires
encode_bits-requires c =
    let block = c.args.block.now in
    let message = c.args.message.now in
    let words : length block % 8 ≡ 0 = omega (arith, c.requires.message_len) in (
      ap length c.list.ensures ∙ length_listed message c.requires.message_len.0 ∙ sym c.requires.bits_len.2,
      halves_long block words _ c.list_halves.ensures ∙ omega (arith, c.requires),
      subst (Below 2) (sym c.list.ensures) (below_listed message),
      halves_low block words _ c.list_halves.ensures,
    )

pub returns : goal.returns
returns c =
    let n = length c.args.coefficients.now in
    c.encode_bits.ensures
    ∙ encoded_is c.args.block.now (omega (arith, c.requires.message_len)) c.list_halves.new.halves c.list_halves.ensures
    c.args.message.now c.list.new.bits n (omega (arith, c.requires)) c.requires.bits_len.2 c.list.ensures
