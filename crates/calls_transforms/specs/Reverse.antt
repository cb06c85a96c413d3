-- The call `reverse`: "list of n", "list of n".
-- Assumes nothing: these are definitions.
use Rattle.std.specs.Prelude.{List, [], ◌≡◌, ℕ, length}
use Rattle.algebra.specs.Transform.{reverse}
use Rattle.answers.specs.Answers.{Answer}
use Rattle.answers.specs.Replies.{leaves, Outcome}
use Rattle.answers.specs.Sets.{set_of, for_set}
use Rattle.calls_transforms.specs.Transform.{list_reply}

-- "The reverse transform gives the one element with that image."
unfoldable pub reverse_of : ℕ → List ℕ → List ℕ
reverse_of set a = for_set (set_of set) [] (λ s. reverse s.half s.root a)

-- the promise of `reverse`: r is answered, and the list that held `before` holds `after`
unfoldable pub Reverse : ℕ → List ℕ → List ℕ → Answer → List ℕ → Type 0
Reverse set a before r after =
    Outcome (list_reply set a (length before)) r (λ R. after ≡ leaves R (reverse_of set a) before)
