-- The call `r_image`: "H block 32 + n/4", "packed image of r, 3n/2".
-- Assumes nothing: these are definitions.
use Rattle.std.specs.Prelude.{◌&&◌, List, [], ◌≡◌, ℕ, eqb, length}
use Rattle.packing.specs.Packing.{packed}
use Rattle.answers.specs.Answers.{Answer}
use Rattle.answers.specs.Replies.{Reply, reply, leaves, Outcome}
use Rattle.answers.specs.Sets.{set_of, for_set}
use Rattle.answers.specs.Tests.{in_order}
use Rattle.stages.specs.Sealing.{r_image}

-- 1, 2 or 0, in that order
unfoldable pub r_image_reply : ℕ → List ℕ → ℕ → Reply
r_image_reply set hblock image = in_order set (λ s. eqb (length hblock) s.hblock && eqb image s.packed) (λ s. reply 0 0)

-- "packed image of r"
unfoldable pub r_image_of : ℕ → List ℕ → List ℕ
r_image_of set hblock = for_set (set_of set) [] (λ s. packed (r_image s.half s.root hblock))

-- the promise of `r_image`: r is answered, and the buffer that held `image` holds `image'`
unfoldable pub RImage : ℕ → List ℕ → List ℕ → Answer → List ℕ → Type 0
RImage set hblock image r image' =
    Outcome (r_image_reply set hblock (length image)) r (λ R. image' ≡ leaves R (r_image_of set hblock) image)
