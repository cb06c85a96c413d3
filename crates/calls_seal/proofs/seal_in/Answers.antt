-- `seal_in` owes 3 at the first group above 3456, and otherwise the ciphertext and the key.
-- Assumes nothing.
use mathlib.Core.List.{List, [], ◌∷◌}
use mathlib.Core.Path.{refl}
use Prim.Native.Nat.{ℕ}
use Rattle.std.proofs.Common.{Ok}
use Rattle.residue.specs.Large.{too_large}
use Rattle.packing.specs.Packing.{groups}
use Rattle.answers.specs.Replies.{Reply, reply, leaves}
use Rattle.answers.proofs.Counting.{counted_one}
use Rattle.answers.proofs.Exits.{done, too_large_at, too_large_nowhere}
use Rattle.stages.proofs.EngineRooms.{engine_part}
use Rattle.calls_seal.proofs.Seals.{unpacked, sealed_residues, packed_is, Holds}
use Rattle.calls_seal.proofs.seal_in.Goals as goal

pub returns-in-Some : goal.returns-in-Some
unfolding leaves
returns-in-Some c =
    let a = c.args in
    let lent : List ℕ = groups a.public.now in
    let Kept : Reply → Type 0 = Holds a.public.now a.message.now a.hblock.now a.gblock.now a.cipher.now a.key.now a.cipher.now a.key.now _ _ in
    too_large_at Kept (lent ∷ []) (reply 0 0) _ (counted_one too_large lent c.in-Some.ensures.value) (refl, refl)

pub sealed_image-requires-clause-h_residues : goal.sealed_image-requires-clause-h_residues
sealed_image-requires-clause-h_residues c = (
  unpacked c.args.public.now _ c.requires.buffers.0 c.in_default.ensures.value c.unpack.ensures.list_after,
  engine_part _ c.args.engine.now.ready c.numbers-second.ensures refl,
)

pub pack-requires-clause-residues : goal.pack-requires-clause-residues
pack-requires-clause-residues c = sealed_residues _ _ _ _ _ _ c.unpack.ensures.list_after c.sealed_image.ensures

pub returns : goal.returns
unfolding leaves
returns c =
    let a = c.args in
    let Written : Reply → Type 0 = Holds a.public.now a.message.now a.hblock.now a.gblock.now a.cipher.now a.key.now _ _ _ _ in
    too_large_nowhere Written (groups a.public.now ∷ []) (reply 0 0) (counted_one too_large _ c.in_default.ensures.value) (Ok tt)
    (done Written (packed_is _ _ _ _ _ _ c.unpack.ensures.list_after c.sealed_image.ensures c.pack.ensures, c.copy_key.ensures))
