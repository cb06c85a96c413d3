-- The root of a set: "root w, order of w" of document 01's table, where n = 2h and the order is 3n = 6h.
-- Assumes nothing: this is a definition.
use Rattle.std.specs.Prelude.{◌≡◌, ℕ, ◌*◌}
use Rattle.residue.specs.Field.{generator, powq}

-- w = 7^r, and r times 6h is 3456, the order of 7
pub record IsRoot (h w : ℕ) : Type 0 where
  pub log : ℕ
  pub turns : log * (6 * h) ≡ 3456
  pub root : powq generator log ≡ w
