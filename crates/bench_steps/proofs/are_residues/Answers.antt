-- `are_residues`: a list of n numbers in which none is above 3456 is one of n residues.
-- Assumes nothing.
use Rattle.std.proofs.Common.{◌≡◌, ℕ, Bool, true, false, Option, Some, None, IsTrue, is_some, not, refl, sym, ◌∙◌}
use Rattle.lists.proofs.FirstLaws.{position_none}
use Rattle.residue.specs.Large.{too_large, first_large}
use Rattle.residue.proofs.LargeLaws.{residues_of}
use Rattle.bench_steps.proofs.are_residues.Goals as goal

none_found : (o : Option ℕ) (b : Bool) → is_some o ≡ not b → IsTrue b → o ≡ None
none_found None b e h = refl
none_found (Some x) true e h = cc
none_found (Some x) false e h = cc

pub returns-then-list-n : goal.returns-then-list-n
unfolding first_large
returns-then-list-n c = λ h.
    residues_of c.args.list.now c.if-list-n.true
    (position_none too_large c.args.list.now (sym c.first_large.ensures ∙ none_found _ _ c.is_none.ensures h) ∙ c.if-list-n.true)
