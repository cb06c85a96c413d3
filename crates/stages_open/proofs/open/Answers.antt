-- `open` meets its contract: the marks stand for m, whose image is taken from c before the product with 1/h.
-- Assumes nothing.
use mathlib.Core.List.{map}
use mathlib.Core.Path.{◌≡◌, refl, sym, subst}
use Prim.Native.Nat.{◌+◌}
use lib.ListN.{length}
use Rattle.std.proofs.Common.{rules}
use Rattle.lists.specs.Below.{Below}
use Rattle.residue.specs.Field.{generator, powq}
use Rattle.residue.specs.Signed.{residue_of}
use Rattle.stages.specs.Images.{image_of}
use Rattle.stages.specs.Opening.{opened_m, opened_r}
use Rattle.algebra.proofs.Lists.{minus_residues, image_residues}
use Rattle.stages.proofs.ImageLaws.{residues_as, whole_residues}
use Rattle.stages_open.proofs.OpeningLaws.{length_opened_m, opened_low, element_is}
use Rattle.stages_open.proofs.open.Goals as goal

pub unmark-requires : goal.unmark-requires
unmark-requires c = (search rules, subst (Below 3) (sym c.open_marks.ensures) (opened_low _ _ _ _))

pub transform-requires : goal.transform-requires
transform-requires c =
    (residues_as (whole_residues _ (length_opened_m _ _ _ _)) (element_is _ _ _ _ c.open_marks.ensures c.unmark.ensures) refl, search rules)

pub minus-requires : goal.minus-requires
minus-requires c =
    let h = c.args.engine.now.half in
    let long : length c.unmark.new.list ≡ h + h = search rules in
    let ciphertext = residues_as c.requires.residues.2 refl long in
    let image = residues_as (image_residues h _ _) c.transform.ensures long in
    search rules

pub times-requires : goal.times-requires
times-requires c =
    let long : length c.args.r.now ≡ length c.unmark.new.list = search rules in
    (residues_as (minus_residues _ _ _) c.minus.ensures long, residues_as c.requires.residues.1 refl c.requires.lengths.1)

pub returns-clause-r_after : goal.returns-clause-r_after
unfolding opened_r image_of
returns-clause-r_after c =
    let h = c.args.engine.now.half in
    let w = powq generator c.args.engine.now.step in
    let long : length c.unmark.new.list ≡ h + h = search rules in
    let element : c.unmark.new.list ≡ map residue_of (opened_m h w c.args.f.now c.args.c.now) = element_is _ _ _ _ c.open_marks.ensures c.unmark.ensures in
    cc
