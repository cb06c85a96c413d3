-- `encoding::encode_bit` meets its contract: the machine's exclusive or is that of the bits.
-- Assumes nothing.
use mathlib.Core.Path.{ap, ◌∙◌}
use lib.IntN.{pos, ◌-ℤ◌}
use Rattle.residue.specs.Signed.{residue_of}
use Rattle.encoding.specs.Encoding.{encode_bit}
use Rattle.encoding.proofs.XorLaws.{bit_xor_xor}
use Rattle.encoding.proofs.encode_bit.Goals as goal

pub returns : goal.returns
unfolding encode_bit
returns c =
    c.difference.ensures
    ∙ ap (λ x. residue_of (pos x -ℤ pos c.args.second)) (bit_xor_xor c.args.message c.args.first c.requires.0 c.requires.1)
