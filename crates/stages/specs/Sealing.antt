-- Sealing a message, over n = 2h with the root w.
-- Assumes nothing: these are definitions.
use Rattle.std.specs.Prelude.{List, ℕ, ◌+◌, ℤ, take, drop}
use Rattle.algebra.specs.SlotBySlot.{plus, times}
use Rattle.small.specs.Sampling.{sampled}
use Rattle.encoding.specs.Encoding.{encoded}
use Rattle.packing.specs.Packing.{packed, groups}
use Rattle.stages.specs.Images.{image_of}

-- "H block: 32 key bytes, then n/4 bytes from which r is sampled."
unfoldable pub key_bytes : List ℕ → List ℕ
key_bytes hblock = take 32 hblock

unfoldable pub small_r : List ℕ → List ℤ
small_r hblock = sampled (drop 32 hblock)

unfoldable pub r_image : ℕ → ℕ → List ℕ → List ℕ
r_image h w hblock = image_of h w (small_r hblock)

-- the image of "h*r + m", h being given by its own image
unfoldable pub sealed_image : ℕ → ℕ → List ℕ → List ℤ → List ℤ → List ℕ
sealed_image h w H r m = plus (h + h) (times (h + h) H (image_of h w r)) (image_of h w m)

-- "m = encoding of the message with the G block; ciphertext = packed image of h*r + m"
unfoldable pub ciphertext : ℕ → ℕ → List ℕ → List ℕ → List ℕ → List ℕ → List ℕ
ciphertext h w public message hblock gblock = packed (sealed_image h w (groups public) (small_r hblock) (encoded message gblock))
