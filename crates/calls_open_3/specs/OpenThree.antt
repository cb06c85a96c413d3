-- The call `open_3`: "packed image of r, H block", "key".
-- Assumes nothing: these are definitions.
use Rattle.std.specs.Prelude.{cond, ◌&&◌, List, [], ◌∷◌, ◌≡◌, ℕ, eqb, length}
use Rattle.lists.specs.Every.{equal}
use Rattle.packing.specs.Packing.{groups}
use Rattle.answers.specs.Answers.{Answer}
use Rattle.answers.specs.Replies.{Reply, reply, leaves, Outcome}
use Rattle.answers.specs.Tests.{in_order, in_range}
use Rattle.stages.specs.Sealing.{key_bytes, r_image}

-- 1, 2, 3, 6 or 0, in that order; 6: "the images differ", the lent one and "the image of the r sampled from the H block"
unfoldable pub open_three_reply : ℕ → List ℕ → List ℕ → ℕ → Reply
open_three_reply set image hblock key =
    in_order set (λ s. eqb (length image) s.packed && (eqb (length hblock) s.hblock && eqb key s.key))
    (λ s. in_range (groups image ∷ []) (cond (equal (groups image) (r_image s.half s.root hblock)) (reply 0 0) (reply 6 0)))

-- the promise of `open_3`: r is answered, and the buffer that held `key` holds `key'`
unfoldable pub OpenThree : ℕ → List ℕ → List ℕ → List ℕ → Answer → List ℕ → Type 0
OpenThree set image hblock key r key' =
    Outcome (open_three_reply set image hblock (length key)) r (λ R. key' ≡ leaves R (key_bytes hblock) key)
