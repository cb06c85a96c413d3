-- Making a pair from a seed block, over n = 2h with the root w.
-- Assumes nothing: these are definitions.
use Rattle.std.specs.Prelude.{List, ◌++◌, ℕ, ◌+◌, ℤ}
use Rattle.algebra.specs.SlotBySlot.{times, inverses}
use Rattle.small.specs.Sampling.{first_half, second_half, sampled}
use Rattle.packing.specs.Packing.{packed}
use Rattle.stages.specs.Images.{tripled, plus_one, image_of}

-- "Make samples f' from the first half of its block and g' from the second"
unfoldable pub small_f : List ℕ → List ℤ
small_f seed = sampled (first_half seed)

unfoldable pub small_g : List ℕ → List ℤ
small_g seed = sampled (second_half seed)

-- "f = 3f' + 1, g = 3g', h = g/f slot by slot": their images
unfoldable pub f_image : ℕ → ℕ → List ℤ → List ℕ
f_image h w f' = image_of h w (plus_one (tripled f'))

unfoldable pub g_image : ℕ → ℕ → List ℤ → List ℕ
g_image h w g' = image_of h w (tripled g')

unfoldable pub h_image : ℕ → ℕ → List ℤ → List ℤ → List ℕ
h_image h w f' g' = times (h + h) (g_image h w g') (inverses (h + h) (f_image h w f'))

-- "Public key: packed image of h."
unfoldable pub public_key : ℕ → ℕ → List ℕ → List ℕ
public_key h w seed = packed (h_image h w (small_f seed) (small_g seed))

-- "Private key: packed image of f, then packed image of 1/h."
unfoldable pub private_key : ℕ → ℕ → List ℕ → List ℕ
private_key h w seed = packed (f_image h w (small_f seed)) ++ packed (inverses (h + h) (h_image h w (small_f seed) (small_g seed)))
