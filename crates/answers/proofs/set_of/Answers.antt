-- `set_of` yields the set's parameters: each arm of the match is a case of the definition.
-- Assumes nothing.
use mathlib.Core.Path.{sym, ap}
use Rattle.std.proofs.Common.{rules}
use Rattle.answers.specs.Sets.{parameters_of, set_of}
use Rattle.answers.proofs.set_of.Goals as goal

pub returns-in-576 : goal.returns-in-576
unfolding set_of parameters_of
returns-in-576 c = sym (ap set_of c.in-576.is)

pub returns-in-1152 : goal.returns-in-1152
unfolding set_of parameters_of
returns-in-1152 c = sym (ap set_of c.in-1152.is)

pub returns-in_default : goal.returns-in_default
unfolding set_of
returns-in_default c = search rules
