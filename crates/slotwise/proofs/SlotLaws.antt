-- A slot of two images holds a residue of each, as the steps of a residue ask.
-- Assumes nothing.
use mathlib.Core.List.{List}
use Prim.Native.Nat.{ℕ, ◌<◌}
use lib.ListN.{get_or}
use Rattle.residue.specs.Field.{q}
use Rattle.residue.specs.Residues.{Residues}

pub slots_low : {n : ℕ} {a b : List ℕ} → Residues n a × Residues n b → (k : ℕ) → k < n → (get_or a k 0 < q) × (get_or b k 0 < q)
slots_low r k h = (r.0.low k h, r.1.low k h)
