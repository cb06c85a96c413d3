-- `open_marks` meets its contract: the product by slots, its reverse, the marks.
-- Assumes nothing.
use mathlib.Core.List.{map}
use mathlib.Core.Path.{◌≡◌, sym, ap, ◌∙◌}
use Prim.Native.Nat.{◌+◌}
use lib.ListN.{length, take}
use Rattle.std.proofs.Common.{rules}
use Rattle.std.proofs.lemmas.Simd.{map-map}
use Rattle.residue.specs.Field.{generator, powq}
use Rattle.residue.specs.Signed.{centred_by_three}
use Rattle.algebra.specs.SlotBySlot.{times}
use Rattle.algebra.specs.Transform.{reverse}
use Rattle.marks.specs.Marks.{mark_of}
use Rattle.stages.specs.Opening.{opened_m}
use Rattle.algebra.proofs.Lists.{times_residues, reverse_residues}
use Rattle.stages.proofs.ImageLaws.{residues_as}
use Rattle.stages_open.proofs.open_marks.Goals as goal

pub reverse-requires : goal.reverse-requires
reverse-requires c =
    let long : length (take (length c.args.c.now) c.numbers-first.result) ≡ c.args.engine.now.half + c.args.engine.now.half = search rules in
    (residues_as (times_residues _ c.args.c.now c.args.f.now) c.times.ensures (sym long), search rules)

pub mark-requires : goal.mark-requires
mark-requires c = residues_as (reverse_residues _ _ _) c.reverse.ensures c.requires.2

pub returns : goal.returns
unfolding opened_m
returns c =
    let h = c.args.engine.now.half in
    let w = powq generator c.args.engine.now.step in
    let long : length (take (length c.args.c.now) c.numbers-first.result) ≡ h + h = search rules in
    let element : c.reverse.new.out ≡ reverse h w (times (h + h) c.args.c.now c.args.f.now) = cc in
    c.mark.ensures ∙ ap (map (λ a. mark_of (centred_by_three a))) element ∙ sym (map-map mark_of centred_by_three _)
