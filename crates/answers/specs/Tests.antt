-- The tests that every call makes, in order, and those of numbers that it may make then.
-- Assumes nothing: these are definitions.
use Rattle.std.specs.Prelude.{Bool, cond, ℕ, ltb, length}
use mathlib.Core.List.{List, flatten}
use Rattle.lists.specs.First.{first_through}
use Rattle.residue.specs.Large.{too_large}
use Rattle.answers.specs.declared.Parameters.{Parameters}
use Rattle.answers.specs.Replies.{Reply, reply}
use Rattle.answers.specs.Sets.{set_of, for_set}

-- "The library's calls test in the order of the numbers": 1, "set is not 576 or 1152"; 2, "some lent buffer hasn't its exact length"
unfoldable pub in_order : ℕ → (Parameters → Bool) → (Parameters → Reply) → Reply
in_order set fits rest = for_set (set_of set) (reply 1 0) (λ s. cond (fits s) (rest s) (reply 2 0))

-- a test of numbers, made through several inputs: this number is answered, and the first place at which the test holds; otherwise the rest decides
unfoldable pub at_first : ℕ → (ℕ → Bool) → List (List ℕ) → Reply → Reply
at_first number bad inputs rest =
    cond (ltb (first_through bad inputs) (length (flatten inputs))) (reply number (first_through bad inputs)) rest

-- 3: "a list number or packed group is above 3456", "first such, counted through the inputs as listed"; otherwise the rest decides
unfoldable pub in_range : List (List ℕ) → Reply → Reply
in_range inputs rest = at_first 3 too_large inputs rest
