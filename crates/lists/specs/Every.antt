-- A test at every number below n, and by it whether two lists are equal.
-- Assumes nothing: these are definitions.
use Rattle.std.specs.Prelude.{Bool, true, ◌&&◌, List, ℕ, zero, suc, eqb, length, get_or}

-- the test holds at each number below n
unfoldable pub below : (ℕ → Bool) → ℕ → Bool
below p zero = true
below p (suc n) = p n && below p n

-- the lists agree at each of the first n places
unfoldable pub agree : ℕ → List ℕ → List ℕ → Bool
agree n a b = below (λ i. eqb (get_or a i 0) (get_or b i 0)) n

-- the lists are equal: as long as each other, and the same at each place
unfoldable pub equal : List ℕ → List ℕ → Bool
equal a b = eqb (length a) (length b) && agree (length a) a b
