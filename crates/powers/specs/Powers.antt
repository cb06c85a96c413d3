-- The rule of the table of powers: "entry 0 is 1, each next entry is 7 times the one before".
-- Assumes nothing: this is a definition.
use Rattle.std.specs.Prelude.{◌≡◌, List, ℕ, ◌+◌, ◌<◌, length, get_or}
use Rattle.residue.specs.Field.{mulq}

-- a table of 3,456 entries: the first is x, each next is g times the one before
pub record Powers (g x : ℕ) (l : List ℕ) : Type 0 where
  pub long : length l ≡ 3456
  pub first : get_or l 0 0 ≡ x
  pub next : (i : ℕ) → i + 1 < 3456 → get_or l (i + 1) 0 ≡ mulq g (get_or l i 0)
