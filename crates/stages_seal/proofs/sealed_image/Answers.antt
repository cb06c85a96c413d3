-- `sealed_image` meets its contract: the image of r, its product with h, the image of m, and the sum.
-- Assumes nothing.
use mathlib.Core.List.{List}
use mathlib.Core.Path.{◌≡◌, refl, ap, ap₂, ◌∙◌}
use Prim.Native.Nat.{ℕ, ◌+◌}
use Rattle.residue.specs.Field.{generator, powq}
use Rattle.algebra.specs.SlotBySlot.{plus, times}
use Rattle.stages.specs.Images.{image_of}
use Rattle.stages.specs.Sealing.{small_r, r_image, sealed_image}
use Rattle.algebra.proofs.Lists.{times_residues}
use Rattle.stages.proofs.EngineRooms.{engine_part}
use Rattle.stages.proofs.ImageLaws.{residues_as, image_of_residues}
use Rattle.stages_seal.proofs.sealed_image.Goals as goal

pub times-requires : goal.times-requires
unfolding r_image
times-requires c =
    let h_residues = c.requires.h_residues.0 in
    let room = engine_part _ c.args.engine.now.ready c.numbers-second.ensures h_residues.long in
    (residues_as h_residues refl room, residues_as (image_of_residues _ _ _) c.r_image.ensures room)

pub plus-requires : goal.plus-requires
plus-requires c =
    let n = c.requires.h_residues.1 in
    let room = engine_part _ c.args.engine.now.ready c.numbers-second.ensures c.requires.h_residues.0.long in (
      residues_as (times_residues _ _ _) (c.times.ensures ∙ ap (λ k. times k c.args.h.now c.r_image.new.out) room) n,
      residues_as (image_of_residues _ _ _) c.encoded_image.ensures n,
    )

pub returns : goal.returns
unfolding sealed_image r_image
returns c =
    let h : ℕ = c.args.engine.now.half in
    let R : List ℕ = image_of h (powq generator c.args.engine.now.step) (small_r c.args.hblock.now) in
    let room = engine_part _ c.args.engine.now.ready c.numbers-second.ensures c.requires.h_residues.0.long in
    let product : c.times.new.out ≡ times (h + h) c.args.h.now R = c.times.ensures ∙ ap₂ (λ k l. times k c.args.h.now l) room c.r_image.ensures in
    c.plus.ensures
    ∙ ap (λ k. plus k c.times.new.out c.encoded_image.new.out) c.requires.h_residues.1
    ∙ ap₂ (plus (h + h)) product c.encoded_image.ensures
