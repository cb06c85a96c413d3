-- What `seal` owes, and to what it calls, where the set is known and the lengths are right.
-- Assumes nothing.
use mathlib.Core.Bool.{Bool, true, ◌&&◌}
use mathlib.Core.List.{List, [], ◌∷◌}
use mathlib.Core.Path.{◌≡◌, refl, ap, ◌∙◌}
use Prim.Native.Nat.{ℕ, ◌+◌, ◌*◌, ◌%◌}
use native.Mathlib.Omega.{arith}
use lib.Dec.{eqb}
use lib.ListN.{length}
use borrow.Author.Tests.{eq-eqb}
use Rattle.std.proofs.Common.{Some, None, position}
use Rattle.residue.specs.Field.{generator, powq}
use Rattle.residue.specs.Large.{too_large}
use Rattle.residue.specs.Residues.{Residues}
use Rattle.encoding.specs.Encoding.{encoded}
use Rattle.packing.specs.Packing.{packed, groups}
use Rattle.answers.specs.Answers.{Answer}
use Rattle.answers.specs.declared.Parameters.{Parameters}
use Rattle.answers.specs.Replies.{Reply, reply, leaves, Outcome}
use Rattle.answers.specs.Sets.{set_of, for_set}
use Rattle.answers.specs.Tests.{in_range}
use Rattle.stages.specs.Sealing.{key_bytes, small_r, sealed_image, ciphertext}
use Rattle.residue.proofs.LargeLaws.{residues_through}
use Rattle.algebra.proofs.Lists.{plus_residues}
use Rattle.packing.proofs.PackingLaws.{length_groups}
use Rattle.answers.proofs.Counting.{counted_one}
use Rattle.answers.proofs.Exits.{nowhere, right_lengths}
use Rattle.answers.proofs.Lengths.{first_length, three_lengths}
use Rattle.answers.proofs.SetLaws.{IsSet, known_set}
use Rattle.stages.proofs.ImageLaws.{residues_as}
use Rattle.calls_seal.specs.Seal.{seal_reply, cipher_of, Seal}

module _ (public message hblock gblock cipher key : ℕ) where
  -- the test of the lengths
  abbrev pub fits : Parameters → Bool
  fits s =
      eqb public s.packed && (eqb message s.message && (eqb hblock s.hblock && (eqb gblock s.gblock && (eqb cipher s.packed && eqb key s.key))))

  pub right : (s : Parameters) → fits s ≡ true
      → (public ≡ s.packed) × (message ≡ s.message) × (hblock ≡ s.hblock) × (gblock ≡ s.gblock) × (cipher ≡ s.packed) × (key ≡ s.key)
  right s e =
      let a = first_length public s.packed _ e in
      let b = first_length message s.message _ a.1 in
      let c = first_length hblock s.hblock _ b.1 in
      let d = three_lengths gblock s.gblock cipher s.packed key s.key c.1 in
      (a.0, b.0, c.0, d.0, d.1, d.2)

  -- the lengths that `seal_in` asks, at the set's own half
  pub lengths : (set : ℕ) (s : Parameters) → set_of set ≡ Some s
      → (public ≡ s.packed) × (message ≡ s.message) × (hblock ≡ s.hblock) × (gblock ≡ s.gblock) × (cipher ≡ s.packed) × (key ≡ s.key) → {h : ℕ} → h ≡ s.half
      → (message % 4 ≡ 0) × (h ≡ 4 * message) × (hblock ≡ 32 + gblock) × (gblock ≡ 2 * message) × (public ≡ 3 * h) × (cipher ≡ 3 * h) × (key ≡ 32)
  lengths set s known l e =
      let is_set : IsSet set s = known_set set s known in
      (omega (arith, l), omega (arith, l), omega (arith, l), omega (arith, l), omega (arith, l), omega (arith, l), omega (arith, l))

-- the public key's groups, where none is too large, as they stand unpacked
pub unpacked : (public : List ℕ) (h : ℕ) {list : List ℕ} → length public ≡ 3 * h → None ≡ position too_large (groups public) → list ≡ groups public
    → Residues (h + h) list
unpacked public h long none e =
    let count : length (groups public) ≡ h + h = omega (arith, length_groups public, long) in
    rw e (residues_through (groups public) [] count (nowhere too_large (groups public ∷ []) (counted_one too_large (groups public) none)))

-- what is packed, as it is sealed from the unpacked list, with h = n/2 and the root w
module _ (public message hblock gblock : List ℕ) (h w : ℕ) {list sealed : List ℕ}
    (u : list ≡ groups public) (e : sealed ≡ sealed_image h w list (small_r hblock) (encoded message gblock)) where
  from_groups : sealed ≡ sealed_image h w (groups public) (small_r hblock) (encoded message gblock)
  from_groups = rw (← u) e

  pub sealed_residues : Residues (length sealed) sealed
  unfolding sealed_image
  sealed_residues = let r : Residues (h + h) sealed = residues_as (plus_residues (h + h) _ _) e refl in residues_as r refl r.long

  pub packed_is : {bytes : List ℕ} → bytes ≡ packed sealed → bytes ≡ ciphertext h w public message hblock gblock
  unfolding ciphertext
  packed_is x = x ∙ ap packed from_groups

module _ (public message hblock gblock cipher key cipher' key' : List ℕ) where
  -- what the buffers hold where R is answered, with h = n/2 and the root w
  abbrev pub Holds : ℕ → ℕ → Reply → Type 0
  Holds h w R = (cipher' ≡ leaves R (ciphertext h w public message hblock gblock) cipher) × (key' ≡ leaves R (key_bytes hblock) key)

  -- the promise, from what is owed with the set's own half and root
  pub owed : (set : ℕ) (s : Parameters) → set_of set ≡ Some s
      → (length public ≡ s.packed) × (length message ≡ s.message) × (length hblock ≡ s.hblock) × (length gblock ≡ s.gblock) × (length cipher ≡ s.packed) × (length key ≡ s.key)
      → {h step : ℕ} → (h ≡ s.half) × (step ≡ s.step)
      → (r : Answer) → Outcome (in_range (groups public ∷ []) (reply 0 0)) r (Holds h (powq generator step))
      → Seal set public message hblock gblock cipher key r cipher' key'
  unfolding Seal seal_reply cipher_of for_set
  owed set s known long e r x =
      right_lengths _ set _ _ s known
      (simp (eq-eqb _ _ long.0, eq-eqb _ _ long.1, eq-eqb _ _ long.2, eq-eqb _ _ long.3, eq-eqb _ _ long.4, eq-eqb _ _ long.5)) r (rw (known, ← (known_set set s known).root, ← e.0, ← e.1) x)
