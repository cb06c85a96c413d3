-- Making, sealing and opening on bytes: unpacking takes back what was packed, so the theorems on polynomials are theorems on keys and
-- ciphertexts. Over n = 2h = 8e, e being the length of a message. Assumes nothing.
use mathlib.Core.Path.{◌≡◌, sym, ap, ap₂, ◌∙◌, subst}
use mathlib.Core.List.{List, ◌++◌, map}
use Prim.Native.Nat.{ℕ, ◌+◌, ◌*◌, ◌/◌, ◌%◌, ◌<◌}
use native.Mathlib.Omega.{arith}
use lib.IntN.{ℤ, pos}
use lib.ListN.{length, drop, length-append, length-drop, get_or-map}
use lib.Seq.{length-take-le, take_at, drop_at}
use Rattle.lists.specs.Below.{Below}
use Rattle.residue.specs.Residues.{Residues}
use Rattle.algebra.specs.Roots.{IsRoot}
use Rattle.algebra.specs.SlotBySlot.{inverses}
use Rattle.marks.specs.Marks.{mark_of, Smalls}
use Rattle.small.specs.Sampling.{first_half, second_half}
use Rattle.encoding.specs.Encoding.{encoded, decoded}
use Rattle.packing.specs.Packing.{packed, groups}
use Rattle.stages.specs.Making.{small_f, small_g, f_image, h_image, public_key, private_key}
use Rattle.stages.specs.Sealing.{small_r, r_image, sealed_image, ciphertext}
use Rattle.stages.specs.Opening.{opened_m, opened_r, opened_marks, opened_image, opened_message}
use Rattle.algebra.proofs.Lists.{plus_residues, inverses_residues}
use Rattle.marks.proofs.MarkLaws.{mark_of_lt, map_of_mark_mark_of}
use Rattle.small.proofs.SmallLaws.{length_sampled, smalls_sampled}
use Rattle.encoding.proofs.EncodingLaws.{length_encoded, smalls_encoded, decoded_encoded}
use Rattle.packing.proofs.PackingLaws.{length_packed, unpack_pack}
use Rattle.agreement.specs.Opened.{opened, InRange, Pair}
use Rattle.agreement.proofs.Slots.{f_image_residues, h_image_residues}
use Rattle.agreement.proofs.Opens.{opens_r_of, opens_m, opens_once}

-- ---- packed residues

module _ (h : ℕ) {v : List ℕ} (r : Residues (h + h) v) where
  -- n residues come back
  unpacked : groups (packed v) ≡ v
  unpacked = (unpack_pack h (subst (λ n. Residues n v) (omega arith) r)).0

  -- and take 3n/2 bytes
  packed_long : length (packed v) ≡ 3 * h
  packed_long = omega (arith, length_packed v, r.long)

module _ (k : ℕ) (a b : List ℕ) (la : length a ≡ k) (lb : length b ≡ k) where
  -- two parts as long as each other are the halves
  middle : length (a ++ b) / 2 ≡ k
  middle = omega (arith, length-append a b)

  first_part : first_half (a ++ b) ≡ a
  unfolding first_half
  first_part = take_at a b _ (la ∙ sym middle)

  second_part : second_half (a ++ b) ≡ b
  unfolding second_half
  second_part = drop_at a b _ (la ∙ sym middle)

-- ---- the keys

module _ (h w : ℕ) (seed : List ℕ) where
  -- F, H and K of a seed block
  abbrev f_seed : List ℕ
  f_seed = f_image h w (small_f seed)

  abbrev h_seed : List ℕ
  h_seed = h_image h w (small_f seed) (small_g seed)

  abbrev k_seed : List ℕ
  k_seed = inverses (h + h) h_seed

  -- the public key is 3n/2 bytes, and unpacks to H
  pub length_public_key : length (public_key h w seed) ≡ 3 * h
  unfolding public_key
  length_public_key = packed_long h (h_image_residues h w _ _)

  pub groups_public_key : groups (public_key h w seed) ≡ h_seed
  unfolding public_key
  groups_public_key = unpacked h (h_image_residues h w _ _)

  -- the halves of the private key are the packed F and K
  private_first : first_half (private_key h w seed) ≡ packed f_seed
  unfolding private_key
  private_first = first_part (3 * h) (packed f_seed) (packed k_seed) (packed_long h (f_image_residues h w _)) (packed_long h (inverses_residues (h + h) _))

  private_second : second_half (private_key h w seed) ≡ packed k_seed
  unfolding private_key
  private_second = second_part (3 * h) (packed f_seed) (packed k_seed) (packed_long h (f_image_residues h w _)) (packed_long h (inverses_residues (h + h) _))

  -- each of 3n/2 bytes
  pub length_private_key : length (private_key h w seed) ≡ 3 * h + 3 * h
  unfolding private_key
  length_private_key =
      length-append (packed f_seed) (packed k_seed)
      ∙ ap₂ ◌+◌ (packed_long h (f_image_residues h w _)) (packed_long h (inverses_residues (h + h) _))

  -- and they unpack to F and K
  pub groups_private_f : groups (first_half (private_key h w seed)) ≡ f_seed
  groups_private_f = ap groups private_first ∙ unpacked h (f_image_residues h w _)

  pub groups_private_k : groups (second_half (private_key h w seed)) ≡ k_seed
  groups_private_k = ap groups private_second ∙ unpacked h (inverses_residues (h + h) _)

  -- so no group of a key is refused
  pub public_key_residues : Residues (h + h) (groups (public_key h w seed))
  public_key_residues = subst (Residues (h + h)) (sym groups_public_key) (h_image_residues h w _ _)

  pub private_f_residues : Residues (h + h) (groups (first_half (private_key h w seed)))
  private_f_residues = subst (Residues (h + h)) (sym groups_private_f) (f_image_residues h w _)

  pub private_k_residues : Residues (h + h) (groups (second_half (private_key h w seed)))
  private_k_residues = subst (Residues (h + h)) (sym groups_private_k) (inverses_residues (h + h) _)

-- ---- the ciphertext

module _ (h w : ℕ) where
  -- the image of h*r + m is n residues
  sealed_image_residues : (H : List ℕ) (r m : List ℤ) → Residues (h + h) (sealed_image h w H r m)
  unfolding sealed_image
  sealed_image_residues H r m = plus_residues (h + h) _ _

  module _ (public message hblock gblock : List ℕ) where
    -- a ciphertext is 3n/2 bytes, and unpacks to that image
    pub length_ciphertext : length (ciphertext h w public message hblock gblock) ≡ 3 * h
    unfolding ciphertext
    length_ciphertext = packed_long h (sealed_image_residues _ _ _)

    pub groups_ciphertext : groups (ciphertext h w public message hblock gblock) ≡ sealed_image h w (groups public) (small_r hblock) (encoded message gblock)
    unfolding ciphertext
    groups_ciphertext = unpacked h (sealed_image_residues _ _ _)

    -- so no group of it is refused
    pub ciphertext_residues : Residues (h + h) (groups (ciphertext h w public message hblock gblock))
    ciphertext_residues = subst (Residues (h + h)) (sym groups_ciphertext) (sealed_image_residues _ _ _)

  -- with a public key that make wrote: the image of h*r + m
  sealed : (seed message hblock gblock : List ℕ) → groups (ciphertext h w (public_key h w seed) message hblock gblock)
      ≡ sealed_image h w (h_seed h w seed) (small_r hblock) (encoded message gblock)
  sealed seed message hblock gblock =
      groups_ciphertext (public_key h w seed) message hblock gblock
      ∙ ap (λ H. sealed_image h w H (small_r hblock) (encoded message gblock)) (groups_public_key h w seed)

-- ---- marks and messages

-- the marks of a small polynomial are below 3
pub marks_below : (l : List ℤ) → Smalls l → Below 3 (map mark_of l)
unfolding mark_of
marks_below l s = record { low = λ i. subst (λ x. x < 3) (sym (get_or-map mark_of l i (pos 0))) (mark_of_lt _ (s.small i)) }

-- the marks of an encoded message give it back, with the same block
pub opens_message : (message gblock : List ℕ) → length message % 4 ≡ 0 → Below 256 message
    → opened_message (map mark_of (encoded message gblock)) gblock ≡ message
unfolding opened_message
opens_message message gblock words bytes =
    ap (λ c. decoded c gblock) (map_of_mark_mark_of _ (smalls_encoded message gblock)) ∙ decoded_encoded message gblock words bytes

-- ---- what is sampled and encoded

-- r is small
small_r_small : (hblock : List ℕ) → Smalls (small_r hblock)
unfolding small_r
small_r_small hblock = smalls_sampled _

module _ (h e : ℕ) (size : h + h ≡ 8 * e) where
  -- n coefficients from each half of a seed block
  small_f_long : (seed : List ℕ) → length seed ≡ 4 * e → length (small_f seed) ≡ h + h
  unfolding small_f first_half
  small_f_long seed ls = omega (arith, length_sampled (first_half seed), length-take-le (length seed / 2) seed (omega arith), ls, size)

  small_g_long : (seed : List ℕ) → length seed ≡ 4 * e → length (small_g seed) ≡ h + h
  unfolding small_g second_half
  small_g_long seed ls = omega (arith, length_sampled (second_half seed), length-drop (length seed / 2) seed, ls, size)

  -- from an H block
  small_r_long : (hblock : List ℕ) → length hblock ≡ 32 + 2 * e → length (small_r hblock) ≡ h + h
  unfolding small_r
  small_r_long hblock lh = omega (arith, length_sampled (drop 32 hblock), length-drop 32 hblock, lh, size)

  -- and from a message
  encoded_long : (message gblock : List ℕ) → length message ≡ e → length (encoded message gblock) ≡ h + h
  encoded_long message gblock lm = omega (arith, length_encoded message gblock, lm, size)

-- ---- opening

module _ (h w : ℕ) (ρ : IsRoot h w) (e : ℕ) (size : h + h ≡ 8 * e) (seed : List ℕ) (ls : length seed ≡ 4 * e) (pair : Pair h w (small_f seed) (small_g seed)) where
  module _ (message hblock gblock : List ℕ) (lm : length message ≡ e) (lh : length hblock ≡ 32 + 2 * e)
      (near : InRange (opened h (small_f seed) (small_g seed) (small_r hblock) (encoded message gblock))) where
    -- what sealing writes
    abbrev cipher : List ℕ
    cipher = ciphertext h w (public_key h w seed) message hblock gblock

    -- m comes back
    m_back : opened_m h w (f_seed h w seed) (sealed_image h w (h_seed h w seed) (small_r hblock) (encoded message gblock)) ≡ encoded message gblock
    m_back =
        opens_m h w _ _ ρ (small_f_long h e size seed ls) (small_g_long h e size seed ls) pair _ _ (small_r_long h e size hblock lh)
        (encoded_long h e size message gblock lm) (smalls_encoded message gblock) near

    -- as its marks
    pub opens_marks : opened_marks h w (private_key h w seed) cipher ≡ map mark_of (encoded message gblock)
    unfolding opened_marks
    opens_marks = ap (map mark_of) (ap₂ (opened_m h w) (groups_private_f h w seed) (sealed h w seed message hblock gblock) ∙ m_back)

    -- and the packed image of r comes back
    pub opens_image : opened_image h w (private_key h w seed) cipher ≡ packed (r_image h w hblock)
    unfolding opened_image r_image
    opens_image =
        ap packed (ap₂ (λ F K. opened_r h w F K (groups cipher)) (groups_private_f h w seed) (groups_private_k h w seed)
        ∙ ap (opened_r h w _ _) (sealed h w seed message hblock gblock) ∙ opens_r_of h w _ _ pair _ _ m_back)

  -- two sealings in range with the same ciphertext had the same m and the same r
  pub opens_bytes_once : (message hblock gblock message₂ hblock₂ gblock₂ : List ℕ) → length message ≡ e → length message₂ ≡ e
      → length hblock ≡ 32 + 2 * e → length hblock₂ ≡ 32 + 2 * e
      → InRange (opened h (small_f seed) (small_g seed) (small_r hblock) (encoded message gblock))
      → InRange (opened h (small_f seed) (small_g seed) (small_r hblock₂) (encoded message₂ gblock₂))
      → ciphertext h w (public_key h w seed) message hblock gblock ≡ ciphertext h w (public_key h w seed) message₂ hblock₂ gblock₂
      → (encoded message gblock ≡ encoded message₂ gblock₂) × (small_r hblock ≡ small_r hblock₂)
  opens_bytes_once message hblock gblock message₂ hblock₂ gblock₂ lm lm₂ lh lh₂ near near₂ same =
      opens_once h w _ _ ρ (small_f_long h e size seed ls) (small_g_long h e size seed ls) pair _ _ _ _
      (small_r_long h e size hblock lh) (encoded_long h e size message gblock lm)
      (small_r_long h e size hblock₂ lh₂) (encoded_long h e size message₂ gblock₂ lm₂)
      (small_r_small hblock) (smalls_encoded message gblock) (small_r_small hblock₂) (smalls_encoded message₂ gblock₂) near near₂
      (sym (sealed h w seed message hblock gblock) ∙ ap groups same ∙ sealed h w seed message₂ hblock₂ gblock₂)
