-- `bits::half_word_bit` meets its contract: a half word is its two bytes, the low one first.
-- Assumes nothing.
use Rattle.std.proofs.Common.{arith}
use Rattle.bits.proofs.Digits.{bit_of_half}
use Rattle.bits.proofs.half_word_bit.Goals as goal

pub returns : goal.returns
returns c = bit_of_half c.args.bytes.now (record { low = λ i. (c.type_inv.bytes i).fits }) c.args.u c.args.l _ c.requires.1 (omega arith)
