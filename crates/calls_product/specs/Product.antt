-- The call `product`: "two lists of n numbers", "list of n".
-- Assumes nothing: these are definitions.
use Rattle.std.specs.Prelude.{◌&&◌, List, [], ◌∷◌, ◌≡◌, ℕ, eqb, length}
use Rattle.algebra.specs.Numbers.{residues}
use Rattle.algebra.specs.Product.{product}
use Rattle.answers.specs.Answers.{Answer}
use Rattle.answers.specs.Replies.{Reply, reply, leaves, Outcome}
use Rattle.answers.specs.Sets.{set_of, for_set}
use Rattle.answers.specs.Tests.{in_order, in_range}

-- 1, 2, 3 or 0, in that order; `room` is the length of the list that is written
unfoldable pub product_reply : ℕ → List ℕ → List ℕ → ℕ → Reply
product_reply set a b room =
    in_order set (λ s. eqb (length a) s.n && (eqb (length b) s.n && eqb room s.n)) (λ s. in_range (a ∷ b ∷ []) (reply 0 0))

-- "the schoolbook product with x^n = x^(n/2) - 1"
unfoldable pub product_of : ℕ → List ℕ → List ℕ → List ℕ
product_of set a b = for_set (set_of set) [] (λ s. product residues s.half a b)

-- the promise of `product`: r is answered, and the list that held `before` holds `after`
unfoldable pub Product : ℕ → List ℕ → List ℕ → List ℕ → Answer → List ℕ → Type 0
Product set a b before r after =
    Outcome (product_reply set a b (length before)) r (λ R. after ≡ leaves R (product_of set a b) before)
