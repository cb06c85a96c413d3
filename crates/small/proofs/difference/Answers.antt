-- `small::difference` meets its contract: the residue of a difference is the difference of the residues.
-- Assumes nothing.
use mathlib.Core.Path.{◌≡◌, sym, ap₂, ◌∙◌}
use Prim.Native.Nat.{◌%◌}
use native.Mathlib.Omega.{arith}
use lib.IntN.{pos}
use Rattle.residue.specs.Field.{q, subq}
use Rattle.residue.specs.Signed.{residue_of}
use Rattle.residue.proofs.SignedLaws.{residue_of_sub}
use Rattle.small.proofs.difference.Goals as goal

pub returns : goal.returns
unfolding residue_of
returns c =
    let a : c.args.first % q ≡ c.args.first = omega (arith, c.requires) in
    let b : c.args.second % q ≡ c.args.second = omega (arith, c.requires) in
    c.sub.ensures ∙ ap₂ subq (c.from.ensures ∙ sym a) (c.from-2.ensures ∙ sym b) ∙ sym (residue_of_sub (pos c.args.first) (pos c.args.second))
