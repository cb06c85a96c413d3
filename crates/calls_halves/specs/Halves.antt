-- "Two further calls, one for each half, take the set and a private key".
-- Assumes nothing: these are definitions.
use Rattle.std.specs.Prelude.{Bool, false, cond, List, [], ◌≡◌, ℕ, ◌+◌, ◌/◌, eqb, length}
use Rattle.small.specs.Sampling.{first_half, second_half}
use Rattle.answers.specs.Sets.{set_of, for_set}

-- "for an unknown set or a key of another length than 3n they hand back the empty part, and otherwise never"
unfoldable pub handed : ℕ → List ℕ → Bool
handed set key = for_set (set_of set) false (λ s. eqb (length key) s.private)

-- a place so many bytes further on in the same block of memory
unfoldable pub further : ℕ × ℕ → ℕ → ℕ × ℕ
further p k = (p.0, k + p.1)

-- "the half is handed back as that part of the lent private key and not as a copy": its bytes, and the place at which they stand
pub record FHalf (set : ℕ) (key : List ℕ) (place : ℕ × ℕ) (part : List ℕ) (start : ℕ × ℕ) : Type 0 where
  pub content : part ≡ cond (handed set key) (first_half key) []
  pub lent : start ≡ place

-- the second half begins where the first one ends
pub record HHalf (set : ℕ) (key : List ℕ) (place : ℕ × ℕ) (part : List ℕ) (start : ℕ × ℕ) : Type 0 where
  pub content : part ≡ cond (handed set key) (second_half key) []
  pub lent : start ≡ further place (cond (handed set key) (length key / 2) 0)
