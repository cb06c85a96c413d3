-- `encoding::decode_bit` meets its contract: by trying all marks and bits.
-- Assumes nothing.
use Rattle.encoding.proofs.XorLaws.{decode_bit_mark}
use Rattle.encoding.proofs.decode_bit.Goals as goal

pub returns : goal.returns
returns c = decode_bit_mark c.args.mark c.args.first c.args.second c.requires.0 c.requires.1 c.requires.2
