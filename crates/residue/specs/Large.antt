-- Numbers too large for a residue: "a list number or packed group is above 3456", and the first such place.
-- Assumes nothing: these are definitions.
use Rattle.std.specs.Prelude.{Bool, List, ℕ, ltb}
use Rattle.lists.specs.First.{first_where}

-- "above 3456"
unfoldable pub too_large : ℕ → Bool
too_large x = ltb 3456 x

-- "first such": its place in the list; the length where there is none
unfoldable pub first_large : List ℕ → ℕ
first_large l = first_where too_large l
