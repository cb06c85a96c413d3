-- What a pair made here and a sealing with it are, by the definitions: the set is known, no slot is zero, and the keys, the ciphertext
-- and the key are what document 01's rules give. Assumes nothing.
use mathlib.Core.Bool.{false}
use mathlib.Core.List.{List, [], ◌∷◌, flatten}
use mathlib.Core.Path.{◌≡◌, sym, ◌∙◌}
use Prim.Native.Nat.{ℕ, ◌≤◌, ◌<◌}
use native.Mathlib.Nat.{pos_of_ne-zero}
use native.Mathlib.Omega.{arith}
use lib.Dec.{eqb}
use lib.ListN.{length, get_or}
use borrow.Author.Tests.{eqb-false}
use Rattle.lists.specs.First.{first_through}
use Rattle.algebra.specs.SlotBySlot.{is_zero}
use Rattle.answers.specs.declared.Parameters.{Parameters}
use Rattle.std.specs.Prelude.{Some}
use Rattle.answers.specs.Replies.{reply}
use Rattle.answers.specs.Sets.{set_of}
use Rattle.stages.specs.Images.{tripled, plus_one}
use Rattle.stages.specs.Making.{small_f, small_g, f_image, g_image, public_key, private_key}
use Rattle.stages.specs.Sealing.{key_bytes, ciphertext}
use Rattle.agreement.specs.Opened.{Pair}
use Rattle.calls_make.specs.Make.{make_reply, public_of, private_of, Make}
use Rattle.calls_seal.specs.Seal.{seal_reply, cipher_of, Seal}
use Rattle.lists.proofs.FirstLaws.{first_before, through_clear, through_one, length_one}
use Rattle.answers.proofs.Exits.{for_known}
use Rattle.answers.proofs.Lengths.{three_lengths}
use Rattle.stages.proofs.ImageLaws.{image_of_residues}
use Rattle.calls_seal.proofs.Seals as S
use Rattle.demands.specs.Agreement.{Made, Sealed}
use Rattle.demands.proofs.Answered.{written, passed, is_known, nowhere}

-- where a list has no zero at all, its numbers are positive
positive : (l : List ℕ) → length (flatten (l ∷ [])) ≤ first_through is_zero (l ∷ []) → (k : ℕ) → k < length l → 0 < get_or l k 0
unfolding is_zero
positive l h k b =
    let e : eqb (get_or l k 0) 0 ≡ false = first_before is_zero l k (omega (arith, h, b, length_one l, through_one is_zero l)) in
    pos_of_ne-zero (eqb-false (get_or l k 0) 0 e)

-- no slot of f and none of g is zero
pair_of : (h w : ℕ) (seed : List ℕ)
    → length (flatten (f_image h w (small_f seed) ∷ g_image h w (small_g seed) ∷ [])) ≤ first_through is_zero (f_image h w (small_f seed) ∷ g_image h w (small_g seed) ∷ [])
    → Pair h w (small_f seed) (small_g seed)
unfolding f_image g_image
pair_of h w seed none =
    let f = image_of_residues h w (plus_one (tripled (small_f seed))) in
    let g = image_of_residues h w (tripled (small_g seed)) in
    let t = through_clear is_zero (f_image h w (small_f seed)) (g_image h w (small_g seed) ∷ []) none in
    record {
      f_slots = λ k l. positive (f_image h w (small_f seed)) (omega (arith, t.0, length_one (f_image h w (small_f seed)), through_one is_zero (f_image h w (small_f seed)))) k (omega (arith, l, f.long));
      g_slots = λ k l. positive (g_image h w (small_g seed)) t.1 k (omega (arith, l, g.long));
    }

-- the keys that make wrote for a known set
pub record IsPair (s : Parameters) (seed public private : List ℕ) : Type 0 where
  pub seed_long : length seed ≡ s.seed
  pub pair : Pair s.half s.root (small_f seed) (small_g seed)
  pub public_is : public ≡ public_key s.half s.root seed
  pub private_is : private ≡ private_key s.half s.root seed

-- and what seal wrote
pub record IsSealing (s : Parameters) (public message hblock gblock cipher key : List ℕ) : Type 0 where
  pub message_long : length message ≡ s.message
  pub hblock_long : length hblock ≡ s.hblock
  pub gblock_long : length gblock ≡ s.gblock
  pub cipher_is : cipher ≡ ciphertext s.half s.root public message hblock gblock
  pub key_is : key ≡ key_bytes hblock

module _ {set : ℕ} where
  -- the set of a pair made here is known
  pub made_known : {seed public private : List ℕ} → Made set seed public private → (s : Parameters) × (set_of set ≡ Some s)
  unfolding Make make_reply
  made_known m = is_known set _ _ (sym m.call.number ∙ m.done)

  module _ (s : Parameters) (known : set_of set ≡ Some s) where
    pub made_pair : {seed public private : List ℕ} → Made set seed public private → IsPair s seed public private
    unfolding Make make_reply public_of private_of
    made_pair {seed} m =
        let zero = sym m.call.number ∙ m.done in
        let a = passed set _ _ s known zero in
        record {
          seed_long = (three_lengths (length seed) s.seed (length m.public₀) s.packed (length m.private₀) s.private a.0).0;
          pair = pair_of s.half s.root seed (nowhere 4 is_zero _ (reply 0 0) (λ e. omega (arith, e)) a.1);
          public_is = m.call.content.0 ∙ written _ _ m.public₀ zero ∙ for_known set s [] (λ p. public_key p.half p.root seed) known;
          private_is = m.call.content.1 ∙ written _ _ m.private₀ zero ∙ for_known set s [] (λ p. private_key p.half p.root seed) known;
        }

    pub sealed_text : {public message hblock gblock cipher key : List ℕ} → Sealed set public message hblock gblock cipher key
        → IsSealing s public message hblock gblock cipher key
    unfolding Seal seal_reply cipher_of
    sealed_text {public} {message} {hblock} {gblock} m =
        let zero = sym m.call.number ∙ m.done in
        let a = passed set _ _ s known zero in
        let l = S.right (length public) (length message) (length hblock) (length gblock) (length m.cipher₀) (length m.key₀) s a.0 in
        record {
          message_long = l.1;
          hblock_long = l.2;
          gblock_long = l.3;
          cipher_is =
              m.call.content.0 ∙ written _ _ m.cipher₀ zero
              ∙ for_known set s [] (λ p. ciphertext p.half p.root public message hblock gblock) known;
          key_is = m.call.content.1 ∙ written _ _ m.key₀ zero;
        }
