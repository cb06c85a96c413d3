-- What an engine's half, step and table of powers have to fit: its invariant.
-- Assumes nothing: this is a definition.
use Rattle.std.specs.Prelude.{◌≡◌, List, ℕ, ◌*◌}
use Rattle.residue.specs.Field.{one, generator}
use Rattle.powers.specs.Powers.{Powers}

-- w = 7^step has the order 6h = 3n, where n = 2h; and the table is that of the powers of 7
pub record Ready (h step : ℕ) (powers : List ℕ) : Type 0 where
  pub turns : step * (6 * h) ≡ 3456
  pub table : Powers generator one powers
