-- The call `transform`: "list of n", "list of n".
-- Assumes nothing: these are definitions.
use Rattle.std.specs.Prelude.{◌&&◌, List, [], ◌∷◌, ◌≡◌, ℕ, eqb, length}
use Rattle.algebra.specs.Transform.{image}
use Rattle.answers.specs.Answers.{Answer}
use Rattle.answers.specs.Replies.{Reply, reply, leaves, Outcome}
use Rattle.answers.specs.Sets.{set_of, for_set}
use Rattle.answers.specs.Tests.{in_order, in_range}

-- 1, 2, 3 or 0, in that order, for a call that takes one list to another; `room` is the length of the list that is written
unfoldable pub list_reply : ℕ → List ℕ → ℕ → Reply
list_reply set a room =
    in_order set (λ s. eqb (length a) s.n && eqb room s.n) (λ s. in_range (a ∷ []) (reply 0 0))

-- "Slot k of the image of a polynomial is its value at w^e": all slots
unfoldable pub transform_of : ℕ → List ℕ → List ℕ
transform_of set a = for_set (set_of set) [] (λ s. image s.half s.root a)

-- the promise of `transform`: r is answered, and the list that held `before` holds `after`
unfoldable pub Transform : ℕ → List ℕ → List ℕ → Answer → List ℕ → Type 0
Transform set a before r after =
    Outcome (list_reply set a (length before)) r (λ R. after ≡ leaves R (transform_of set a) before)
