-- `bits::gather` meets its contract: the byte has room for the bit of each turn, which goes below those before it.
-- Assumes nothing.
use Rattle.std.proofs.Common.{◌≡◌, sym, ap, ◌∙◌, ℕ, ◌+◌, ◌-◌, ◌*◌, ◌^◌, ◌≤◌, ◌<◌, get_or, arith}
use Rattle.std.proofs.Math.Nat.{pow-le-pow_right}
use Rattle.bits.specs.Bits.{number}
use Rattle.bits.proofs.Digits.{number_zero, number_more, number_lt}
use Rattle.bits.proofs.gather.Goals as goal

-- before the turn of bit b - 1, the byte has room for another bit
has_room : (f : ℕ → ℕ) (b byte : ℕ) → ((i : ℕ) → f i < 2) → 0 < b → byte ≡ number (8 - b) f → byte < 128
has_room f b byte bits h e =
    let few : 8 - b ≤ 7 = omega arith in
    let p : 2 ^ (8 - b) ≤ 2 ^ 7 = pow-le-pow_right (omega arith) few in omega (arith, number_lt (8 - b) f bits, p)

pub loop-b-init : goal.loop-b-init
loop-b-init c = sym (number_zero _)

pub overflow_mul-byte : goal.overflow_mul-byte
overflow_mul-byte c = omega (arith, has_room _ c.loop-b.b c.loop-b.byte (λ i. c.requires.1.low _) c.loop-b-test.true c.loop-b.invariant)

pub overflow_add-byte-in-loop-b : goal.overflow_add-byte-in-loop-b
overflow_add-byte-in-loop-b c =
    omega (
      arith,
      has_room _ c.loop-b.b c.loop-b.byte (λ i. c.requires.1.low _) c.loop-b-test.true c.loop-b.invariant,
      c.requires.1.low (c.args.at + (c.loop-b.b - 1) * c.args.stride),
    )

pub loop-b-preserved : goal.loop-b-preserved
loop-b-preserved c =
    let f : ℕ → ℕ = λ b. get_or c.args.bits.now (c.args.at + b * c.args.stride) 0 in
    ap (λ x. 2 * x + f (c.loop-b.b - 1)) c.loop-b.invariant ∙ number_more f 8 c.loop-b.b c.loop-b-test.true c.loop-b.auto.b
