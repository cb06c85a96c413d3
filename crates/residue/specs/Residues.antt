-- "A ring element is n residues, coefficient i standing at x^i."
-- Assumes nothing: this is a definition.
use Rattle.std.specs.Prelude.{◌≡◌, List, ℕ, ◌<◌, length, get_or}
use Rattle.residue.specs.Field.{q}

-- n numbers, each below q; place i of the list is coefficient i
pub record Residues (n : ℕ) (l : List ℕ) : Type 0 where
  pub long : length l ≡ n
  pub low : (i : ℕ) → i < n → get_or l i 0 < q
