-- Lists of small numbers.
-- Assumes nothing: this is a definition.
use Rattle.std.specs.Prelude.{List, ℕ, ◌<◌, get_or}

-- each number of the list is below m: bits at 2, bytes at 256
pub record Below (m : ℕ) (l : List ℕ) : Type 0 where
  pub low : (i : ℕ) → get_or l i 0 < m
