-- `make_in` owes 4 at the first zero slot of f and g, and otherwise the two keys.
-- Assumes nothing.
use mathlib.Core.Path.{refl, ◌∙◌}
use native.Mathlib.Omega.{arith}
use Rattle.std.proofs.Common.{Ok, Err}
use Rattle.algebra.specs.SlotBySlot.{is_zero}
use Rattle.answers.specs.declared.Refusal.TheVariants.{ZeroSlot}
use Rattle.answers.specs.Replies.{reply, leaves}
use Rattle.slots.specs.Engines.{root}
use Rattle.residue.proofs.ResiduesLaws.{own_length}
use Rattle.answers.proofs.Exits.{done, found_at, found_nowhere}
use Rattle.stages.proofs.ImageLaws.{residues_as}
use Rattle.slots.proofs.ReadyLaws.{half_small}
use Rattle.calls_make.proofs.Makes.{Holds, f_residues, g_residues, zero_slot, public_is, private_is}
use Rattle.calls_make.proofs.make_in.Goals as goal

pub returns-in-Some : goal.returns-in-Some
unfolding leaves
returns-in-Some c =
    let engine = c.args.engine.now in
    let images = c.pair_images.ensures in
    found_at _ 4 is_zero _ (reply 0 0) (Err (ZeroSlot c.in-Some.at)) _ refl refl
    (zero_slot engine.half (root engine) c.args.seed.now images.f_after images.g_after c.first_zero.ensures c.first_zero-2.ensures c.in-Some.ensures)
    (refl, refl)

pub write_keys-requires-clause-images : goal.write_keys-requires-clause-images
write_keys-requires-clause-images c =
    let engine = c.args.engine.now in
    let f = f_residues engine.half (root engine) c.args.seed.now c.pair_images.ensures.f_after c.pair_images.ensures.g_after in
    let g = g_residues engine.half (root engine) c.args.seed.now c.pair_images.ensures.f_after c.pair_images.ensures.g_after in
    (omega (arith, f.long), omega (arith, f.long, half_small engine.ready), own_length f, residues_as g refl f.long)

pub returns : goal.returns
unfolding leaves
returns c =
    let engine = c.args.engine.now in
    let w = root engine in
    let images = c.pair_images.ensures in
    let seed = c.args.seed.now in
    found_nowhere _ 4 is_zero _ (reply 0 0)
    (zero_slot engine.half w seed images.f_after images.g_after c.first_zero.ensures c.first_zero-2.ensures c.in_default.ensures)
    (Ok tt)
    (done (Holds seed c.args.public.now c.args.private.now _ _ engine.half w) (
      c.write_keys.ensures.public_after ∙ public_is engine.half w seed images.f_after images.g_after,
      c.write_keys.ensures.private_after ∙ private_is engine.half w seed images.f_after images.g_after,
    ))
