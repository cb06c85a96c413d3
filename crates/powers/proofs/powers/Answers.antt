-- `powers::powers` meets its contract: the rule, by one computed test of the whole table.
-- Assumes nothing.
use mathlib.Core.Path.{refl}
use Rattle.residue.specs.Field.{mulq}
use Rattle.powers.proofs.TableLaws.{chain, powers_of}
use Rattle.powers.proofs.powers.Goals as goal

pub returns : goal.returns
unfolding chain mulq
returns c = powers_of _ _ _ refl refl
