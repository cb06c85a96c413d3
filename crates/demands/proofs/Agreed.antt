-- Opening what was sealed, for a pair and a sealing of a known set: each stage answers 0 on what the one before wrote, and the message and the
-- key come back. The theorems of `agreement` on keys and ciphertexts, put together with the stages' tests. Assumes nothing.
use mathlib.Core.List.{List, [], map}
use mathlib.Core.Path.{◌≡◌, refl, sym, ap, ap₂, ◌∙◌, subst}
use Prim.Native.Nat.{ℕ, ◌+◌, ◌*◌}
use native.Mathlib.Omega.{arith}
use lib.ListN.{length, length-map}
use Rattle.lists.specs.Below.{Below}
use Rattle.residue.specs.Residues.{Residues}
use Rattle.marks.specs.Marks.{mark_of}
use Rattle.small.specs.Sampling.{first_half, second_half}
use Rattle.encoding.specs.Encoding.{encoded}
use Rattle.packing.specs.Packing.{packed, groups}
use Rattle.answers.specs.declared.Parameters.{Parameters}
use Rattle.std.specs.Prelude.{Some}
use Rattle.answers.specs.Answers.{number_of}
use Rattle.answers.specs.Replies.{leaves}
use Rattle.answers.specs.Sets.{set_of}
use Rattle.stages.specs.Making.{small_f, small_g, public_key}
use Rattle.stages.specs.Opening.{opened_marks, opened_image, opened_message}
use Rattle.stages.specs.Sealing.{small_r, r_image, ciphertext}
use Rattle.agreement.specs.Opened.{opened, InRange}
use Rattle.calls_open_1.specs.OpenOne.{marks_of, opened_image_of, OpenOne}
use Rattle.calls_open_2.specs.OpenTwo.{OpenTwo}
use Rattle.calls_open_3.specs.OpenThree.{OpenThree}
use Rattle.encoding.proofs.EncodingLaws.{length_encoded, smalls_encoded}
use Rattle.packing.proofs.PackingLaws.{length_packed, unpack_pack}
use Rattle.answers.proofs.Exits.{for_known}
use Rattle.answers.proofs.SetLaws.{IsSet, known_set}
use Rattle.stages.proofs.ImageLaws.{image_of_residues, residues_as}
use Rattle.agreement.proofs.Bytes.{length_private_key, private_f_residues, private_k_residues, length_ciphertext, ciphertext_residues, marks_below, opens_marks, opens_image, opens_message, opens_bytes_once}
use Rattle.demands.specs.Opening.{Opening}
use Rattle.demands.proofs.AgreementLaws.{IsPair, IsSealing}
use Rattle.demands.proofs.Answered.{outcome_done}
use Rattle.demands.proofs.Images.{set_root}
use Rattle.demands.proofs.Stages.{both_clear, open_one_zero, open_two_zero, open_three_zero}

module _ (set : ℕ) (s : Parameters) (known : set_of set ≡ Some s) {seed public private : List ℕ} (p : IsPair s seed public private) where
  -- h = n/2, the root w, and the facts of the set
  abbrev h : ℕ
  h = s.half

  abbrev w : ℕ
  w = s.root

  abbrev i : IsSet set s
  i = known_set set s known

  size : h + h ≡ 8 * s.message
  size = omega (arith, i.eighth)

  seed_size : length seed ≡ 4 * s.message
  seed_size = p.seed_long ∙ i.seed

  module _ {message hblock gblock cipher key : List ℕ} (q : IsSealing s public message hblock gblock cipher key) (bytes : Below 256 message)
      (near : InRange (opened h (small_f seed) (small_g seed) (small_r hblock) (encoded message gblock))) where
    hblock_size : length hblock ≡ 32 + 2 * s.message
    hblock_size = omega (arith, q.hblock_long, i.hblock, i.gblock)

    -- the ciphertext is of the public key that make wrote
    cipher_is : cipher ≡ ciphertext h w (public_key h w seed) message hblock gblock
    cipher_is = q.cipher_is ∙ ap (λ k. ciphertext h w k message hblock gblock) p.public_is

    module _ {message' key' : List ℕ} (o : Opening set private cipher hblock gblock message' key') where
      -- ---- the first stage

      first_zero : (number_of o.first ≡ 0) × ((o.marks ≡ marks_of set private cipher) × (o.image ≡ opened_image_of set private cipher))
      unfolding OpenOne leaves
      first_zero =
          let lp : length private ≡ 3 * h + 3 * h = ap length p.private_is ∙ length_private_key h w seed in
          let lc : length cipher ≡ 3 * h = ap length cipher_is ∙ length_ciphertext h w (public_key h w seed) message hblock gblock in
          outcome_done o.one
          (open_one_zero set s known private cipher (length o.marks₀) (length o.image₀) (omega (arith, lp, i.private, i.packed)) (lc ∙ sym i.packed)
          (o.rooms.0 ∙ sym i.size) (omega (arith, o.rooms.1, i.packed, i.whole, i.size))
          (both_clear h private cipher lp
          (subst (λ k. Residues (h + h) (groups (first_half k))) (sym p.private_is) (private_f_residues h w seed))
          (subst (λ k. Residues (h + h) (groups (second_half k))) (sym p.private_is) (private_k_residues h w seed))
          (subst (λ c. Residues (h + h) (groups c)) (sym cipher_is) (ciphertext_residues h w (public_key h w seed) message hblock gblock))))

      -- the marks of m
      marks_is : o.marks ≡ map mark_of (encoded message gblock)
      unfolding marks_of
      marks_is =
          first_zero.1.0 ∙ for_known set s [] (λ k. opened_marks k.half k.root private cipher) known ∙ ap₂ (opened_marks h w) p.private_is cipher_is
          ∙ opens_marks h w (set_root i) s.message size seed seed_size p.pair message hblock gblock q.message_long hblock_size near

      -- and the packed image of r
      image_is : o.image ≡ packed (r_image h w hblock)
      unfolding opened_image_of
      image_is =
          first_zero.1.1 ∙ for_known set s [] (λ k. opened_image k.half k.root private cipher) known ∙ ap₂ (opened_image h w) p.private_is cipher_is
          ∙ opens_image h w (set_root i) s.message size seed seed_size p.pair message hblock gblock q.message_long hblock_size near

      -- ---- the second

      second_zero : (number_of o.second ≡ 0) × (message' ≡ opened_message o.marks gblock)
      unfolding OpenTwo leaves
      second_zero =
          outcome_done o.two
          (open_two_zero set s known o.marks gblock (length o.message₀)
          (omega (arith, ap length marks_is, length-map (encoded message gblock) mark_of, length_encoded message gblock, q.message_long, size, i.whole))
          q.gblock_long (omega (arith, o.rooms.2, i.whole, i.size, i.eighth))
          (subst (Below 3) (sym marks_is) (marks_below (encoded message gblock) (smalls_encoded message gblock))))

      message_is : message' ≡ message
      message_is =
          second_zero.1 ∙ ap (λ m. opened_message m gblock) marks_is
          ∙ opens_message message gblock (omega (arith, q.message_long, i.words)) bytes

      -- ---- the third

      R_residues : Residues (h + h) (r_image h w hblock)
      unfolding r_image
      R_residues = image_of_residues h w (small_r hblock)

      groups_is : groups o.image ≡ r_image h w hblock
      groups_is = ap groups image_is ∙ (unpack_pack h (residues_as R_residues refl (omega arith))).0

      third_zero : (number_of o.third ≡ 0) × (key' ≡ key)
      unfolding OpenThree leaves
      third_zero =
          let t =
          outcome_done o.three
          (open_three_zero set s known o.image hblock (length o.key₀)
          (omega (arith, ap length image_is, length_packed (r_image h w hblock), R_residues.long, i.packed))
          q.hblock_long (o.rooms.3 ∙ sym i.key)
          (subst (Residues (h + h)) (sym groups_is) R_residues) groups_is) in
          (t.0, t.1 ∙ sym q.key_is)

      pub agreed : (number_of o.first ≡ 0) × (number_of o.second ≡ 0) × (number_of o.third ≡ 0) × (message' ≡ message) × (key' ≡ key)
      agreed = (first_zero.0, second_zero.0, third_zero.0, message_is, third_zero.1)

  -- two sealings in range with the same ciphertext
  pub agreed_once : {message hblock gblock message₂ hblock₂ gblock₂ cipher key key₂ : List ℕ}
      → IsSealing s public message hblock gblock cipher key → IsSealing s public message₂ hblock₂ gblock₂ cipher key₂
      → InRange (opened h (small_f seed) (small_g seed) (small_r hblock) (encoded message gblock))
      → InRange (opened h (small_f seed) (small_g seed) (small_r hblock₂) (encoded message₂ gblock₂))
      → (encoded message gblock ≡ encoded message₂ gblock₂) × (small_r hblock ≡ small_r hblock₂)
  agreed_once {message} {hblock} {gblock} {message₂} {hblock₂} {gblock₂} q q₂ near near₂ =
      let same = sym q.cipher_is ∙ q₂.cipher_is in
      opens_bytes_once h w (set_root i) s.message size seed seed_size p.pair message hblock gblock message₂ hblock₂ gblock₂
      q.message_long q₂.message_long (omega (arith, q.hblock_long, i.hblock, i.gblock)) (omega (arith, q₂.hblock_long, i.hblock, i.gblock)) near near₂
      (ap (λ k. ciphertext h w k message hblock gblock) (sym p.public_is) ∙ same ∙ ap (λ k. ciphertext h w k message₂ hblock₂ gblock₂) p.public_is)
