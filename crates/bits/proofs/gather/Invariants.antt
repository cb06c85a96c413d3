-- The loop of `bits::gather`: before the turn of bit b - 1, the byte is the number of the eight bits from bit b on.
-- Assumes nothing.
use Rattle.std.proofs.Common.{◌≡◌, ◌+◌, ◌-◌, ◌*◌, get_or}
use Rattle.bits.specs.Bits.{number}
use Rattle.bits.proofs.gather.Given as goal

abbrev pub invariant-loop-b : goal.invariant-loop-b
invariant-loop-b l = l.byte ≡ number (8 - l.b) (λ i. get_or l.bits (l.at + (l.b + i) * l.stride) 0)
