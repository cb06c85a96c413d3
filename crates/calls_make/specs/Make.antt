-- The call `make`: "seed block n/2", "public key 3n/2, private key 3n".
-- Assumes nothing: these are definitions.
use Rattle.std.specs.Prelude.{◌&&◌, List, [], ◌∷◌, ◌≡◌, ℕ, eqb, length}
use Rattle.algebra.specs.SlotBySlot.{is_zero}
use Rattle.answers.specs.Answers.{Answer}
use Rattle.answers.specs.Replies.{Reply, reply, leaves, Outcome}
use Rattle.answers.specs.Sets.{set_of, for_set}
use Rattle.answers.specs.Tests.{in_order, at_first}
use Rattle.stages.specs.Making.{small_f, small_g, f_image, g_image, public_key, private_key}

-- 1, 2, 4 or 0, in that order; 4: "a slot of f or g is zero", "slot for f; n + slot for g; f first"
unfoldable pub make_reply : ℕ → List ℕ → ℕ → ℕ → Reply
make_reply set seed public private =
    in_order set (λ s. eqb (length seed) s.seed && (eqb public s.packed && eqb private s.private))
    (λ s. at_first 4 is_zero (f_image s.half s.root (small_f seed) ∷ g_image s.half s.root (small_g seed) ∷ []) (reply 0 0))

-- "packed image of h"; "packed image of f, then packed image of 1/h"
unfoldable pub public_of : ℕ → List ℕ → List ℕ
public_of set seed = for_set (set_of set) [] (λ s. public_key s.half s.root seed)

unfoldable pub private_of : ℕ → List ℕ → List ℕ
private_of set seed = for_set (set_of set) [] (λ s. private_key s.half s.root seed)

-- the promise of `make`: r is answered, and the buffers that held `public` and `private` hold `public'` and `private'`
unfoldable pub Make : ℕ → List ℕ → List ℕ → List ℕ → Answer → List ℕ → List ℕ → Type 0
Make set seed public private r public' private' =
    Outcome (make_reply set seed (length public) (length private)) r
    (λ R. (public' ≡ leaves R (public_of set seed) public) × (private' ≡ leaves R (private_of set seed) private))
