-- `powers::power` meets its contract: entry i of the lent table is 7^i.
-- Assumes nothing.
use mathlib.Core.Path.{◌≡◌}
use native.Mathlib.Omega.{arith}
use lib.ListN.{get_or}
use Rattle.residue.specs.Field.{generator, powq}
use Rattle.residue.proofs.FieldLaws.{powq_lt}
use Rattle.powers.proofs.TableLaws.{powers_at}
use Rattle.powers.proofs.power.Goals as goal

pub returns : goal.returns
returns c = powers_at c.requires.1 c.args.i c.requires.0

pub invariant_of-result : goal.invariant_of-result
invariant_of-result c =
    let e : get_or c.args.powers.now c.args.i 0 ≡ powq generator c.args.i = powers_at c.requires.1 c.args.i c.requires.0 in
    omega (arith, e, powq_lt generator c.args.i)
