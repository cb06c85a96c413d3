-- `write_keys` meets its contract: h and 1/h slot by slot, each packed.
-- Assumes nothing.
use mathlib.Core.Path.{refl, sym, ◌∙◌}
use lib.ListN.{length}
use Rattle.rooms.proofs.RoomLaws.{part_long}
use Rattle.residue.proofs.ResiduesLaws.{own_length}
use Rattle.stages.proofs.ImageLaws.{residues_as}
use Rattle.stages_make.proofs.MakingLaws.{inverted, multiplied}
use Rattle.stages_make.proofs.write_keys.Goals as goal

pub times-requires : goal.times-requires
times-requires c =
    let first = part_long (length c.args.f.now) 1152 _ c.numbers-first.ensures c.requires.images.1 in
    let second = part_long (length c.args.f.now) 1152 _ c.numbers-second.ensures c.requires.images.1 in
    (residues_as c.requires.images.3 refl second, inverted _ _ c.invert.ensures (first ∙ sym second))

pub pack-requires-clause-residues : goal.pack-requires-clause-residues
pack-requires-clause-residues c = own_length (multiplied _ _ _ c.times.ensures refl)

pub invert-requires-2 : goal.invert-requires-2
invert-requires-2 c =
    let first = part_long (length c.args.f.now) 1152 _ c.numbers-first.ensures c.requires.images.1 in
    let second = part_long (length c.args.f.now) 1152 _ c.numbers-second.ensures c.requires.images.1 in
    multiplied _ _ _ c.times.ensures (second ∙ sym first ∙ sym c.invert.auto.out)

pub write_private-requires : goal.write_private-requires
write_private-requires c =
    let first = part_long (length c.args.f.now) 1152 _ c.numbers-first.ensures c.requires.images.1 in
    (c.requires.images.0, c.requires.images.2, inverted _ _ c.invert-2.ensures (c.invert.auto.out ∙ first), c.requires.key_lengths.1)
