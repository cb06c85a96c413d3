-- Polynomials with whole coefficients, and the image of one, over n = 2h with the root w.
-- Assumes nothing: these are definitions.
use Rattle.std.specs.Prelude.{List, [], ◌∷◌, map, ℕ, ℤ, pos, ◌+ℤ◌, ◌*ℤ◌}
use Rattle.residue.specs.Signed.{residue_of}
use Rattle.algebra.specs.Transform.{image}

-- three times a polynomial, and a polynomial plus 1
unfoldable pub tripled : List ℤ → List ℤ
tripled p = map (λ z. pos 3 *ℤ z) p

unfoldable pub plus_one : List ℤ → List ℤ
plus_one [] = []
plus_one (z ∷ p) = (z +ℤ pos 1) ∷ p

-- the image, each coefficient by its residue, -1 as 3456
unfoldable pub image_of : ℕ → ℕ → List ℤ → List ℕ
image_of h w p = image h w (map residue_of p)
