-- The first place at which a test holds, in one list and counted through several.
-- Assumes nothing: these are definitions.
use Rattle.std.specs.Prelude.{Bool, cond, ℕ, suc}
use mathlib.Core.List.{List, [], ◌∷◌, flatten}

-- the first place of the list at which the test holds; the length where it holds at none
unfoldable pub first_where : (ℕ → Bool) → List ℕ → ℕ
first_where p [] = 0
first_where p (x ∷ xs) = cond (p x) 0 (suc (first_where p xs))

-- "first such, counted through the inputs as listed": the first place in the lists put one after the other
unfoldable pub first_through : (ℕ → Bool) → List (List ℕ) → ℕ
first_through p ls = first_where p (flatten ls)
