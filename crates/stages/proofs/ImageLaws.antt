-- The coefficients of a polynomial as residues, and those of small ones that are sampled or encoded.
-- Assumes nothing.
use mathlib.Core.List.{List, map}
use mathlib.Core.Path.{◌≡◌, sym, ◌∙◌, subst}
use Prim.Native.Nat.{ℕ, ◌+◌, ◌*◌, ◌<◌}
use lib.IntN.{ℤ, pos}
use lib.ListN.{length, get_or, length-map, get_or-map}
use Rattle.residue.specs.Field.{q}
use Rattle.residue.specs.Residues.{Residues}
use Rattle.residue.specs.Signed.{residue_of}
use Rattle.small.specs.Sampling.{sampled}
use Rattle.encoding.specs.Encoding.{encoded}
use Rattle.residue.proofs.SignedLaws.{residue_of_lt}
use Rattle.algebra.proofs.Lists.{image_residues}
use Rattle.small.proofs.SmallLaws.{length_sampled}
use Rattle.encoding.proofs.EncodingLaws.{length_encoded}
use Rattle.stages.specs.Images.{image_of}

-- the same list, and the same length, written in another way
pub residues_as : {m n : ℕ} {k l : List ℕ} → Residues n l → k ≡ l → m ≡ n → Residues m k
residues_as r e h = rw (e, h) r

-- coefficient i, as a residue
pub whole_at : (p : List ℤ) (i : ℕ) → get_or (map residue_of p) i 0 ≡ residue_of (get_or p i (pos 0))
unfolding residue_of
whole_at p i = get_or-map residue_of p i (pos 0)

-- n whole numbers are n residues
pub whole_residues : {n : ℕ} (p : List ℤ) → length p ≡ n → Residues n (map residue_of p)
whole_residues p e =
    record { long = length-map p residue_of ∙ e; low = λ i h. subst (λ x. x < q) (sym (whole_at p i)) (residue_of_lt (get_or p i (pos 0))) }

pub sampled_residues : {n : ℕ} (block : List ℕ) → n ≡ 4 * length block → Residues n (map residue_of (sampled block))
sampled_residues block e = whole_residues (sampled block) (length_sampled block ∙ sym e)

pub encoded_residues : {n : ℕ} (message block : List ℕ) → n ≡ 8 * length message → Residues n (map residue_of (encoded message block))
encoded_residues message block e = whole_residues (encoded message block) (length_encoded message block ∙ sym e)

-- an image is n residues
pub image_of_residues : (h w : ℕ) (p : List ℤ) → Residues (h + h) (image_of h w p)
unfolding image_of
image_of_residues h w p = image_residues h w (map residue_of p)
