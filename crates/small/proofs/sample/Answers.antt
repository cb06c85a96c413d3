-- `small::sample` meets its contract: the bits of the two halves, then their differences.
-- Assumes nothing.
use mathlib.Core.Path.{◌∙◌}
use native.Mathlib.Omega.{arith}
use lib.ListN.{length}
use Rattle.small.proofs.Halves.{halves_long, halves_low, sampled_is}
use Rattle.small.proofs.sample.Goals as goal

pub sample_bits-requires : goal.sample_bits-requires
sample_bits-requires c =
    let block = c.args.block.now in
    let words = c.requires.0 in
    (halves_long block words _ c.list_halves.ensures ∙ omega (arith, c.requires), halves_low block words _ c.list_halves.ensures)

pub returns : goal.returns
returns c =
    c.sample_bits.ensures
    ∙ sampled_is c.args.block.now c.requires.0 c.list_halves.new.halves c.list_halves.ensures (length c.args.coefficients.now) c.requires.2
