-- `open_1_in` owes 3 at the first group above 3456, and otherwise the marks and the packed image of r.
-- Assumes nothing.
use mathlib.Core.List.{List, [], ◌∷◌}
use mathlib.Core.Path.{◌≡◌, refl, ◌∙◌}
use Prim.Native.Nat.{ℕ, ◌+◌, ◌*◌}
use native.Mathlib.Omega.{arith}
use lib.ListN.{length}
use Rattle.std.proofs.Common.{Ok, rules}
use Rattle.residue.specs.Large.{too_large}
use Rattle.residue.specs.Residues.{Residues}
use Rattle.small.specs.Sampling.{first_half, second_half}
use Rattle.packing.specs.Packing.{groups}
use Rattle.answers.specs.Replies.{leaves}
use Rattle.stages.specs.Opening.{opened_r, opened_marks, opened_image}
use Rattle.lists.proofs.FirstLaws.{through_clear}
use Rattle.residue.proofs.LargeLaws.{residues_through}
use Rattle.algebra.proofs.Lists.{times_residues}
use Rattle.packing.proofs.PackingLaws.{length_groups}
use Rattle.answers.proofs.Exits.{nowhere, done, too_large_at, too_large_nowhere}
use Rattle.stages.proofs.ImageLaws.{residues_as}
use Rattle.calls_open_1.proofs.KeyGroups.{halves_residues}
use Rattle.calls_open_1.proofs.open_1_in.Goals as goal

pub returns-in-Some : goal.returns-in-Some
unfolding leaves
returns-in-Some c = too_large_at _ _ _ _ c.in-Some.ensures.place (refl, refl)

pub open-requires-clause-residues : goal.open-requires-clause-residues
open-requires-clause-residues c =
    let private : List ℕ = c.args.private.now in
    let cipher : List ℕ = c.args.cipher.now in
    let h = c.args.engine.now.half in
    let none = nowhere too_large (groups private ∷ groups cipher ∷ []) c.in_default.ensures.place in
    let halves = halves_residues h private c.requires.inputs.0 (groups cipher ∷ []) none in
    let third : Residues (h + h) (groups cipher) = residues_through (groups cipher) [] (length_groups cipher ∙ omega (arith, c.requires.inputs.1)) (through_clear too_large (groups private) (groups cipher ∷ []) none).1 in
    let two : h + h ≡ 2 * h = omega arith in
    (residues_as halves.0 c.in_default.ensures.f_after two, residues_as halves.1 c.in_default.ensures.inverse_after two, residues_as third c.in_default.ensures.c_after refl)

pub pack-requires-clause-residues : goal.pack-requires-clause-residues
unfolding opened_r
pack-requires-clause-residues c =
    let n = c.args.engine.now.half + c.args.engine.now.half in
    let long : length c.open.new.r ≡ n = search rules in
    residues_as (times_residues n _ _) c.open.ensures.r_after long

pub returns : goal.returns
unfolding leaves opened_marks opened_image
returns c =
    let f : c.unpack_all.new.f ≡ groups (first_half c.args.private.now) = c.in_default.ensures.f_after in
    let inverse : c.unpack_all.new.inverse ≡ groups (second_half c.args.private.now) = c.in_default.ensures.inverse_after in
    let third : c.unpack_all.new.c ≡ groups c.args.cipher.now = c.in_default.ensures.c_after in
    too_large_nowhere _ _ _ c.in_default.ensures.place (Ok tt) (done _ (cc, cc))
