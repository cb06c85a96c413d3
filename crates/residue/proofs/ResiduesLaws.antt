-- A list of residues, by the length that it has.
-- Assumes nothing.
use mathlib.Core.Path.{sym, subst}
use mathlib.Core.List.{List}
use Prim.Native.Nat.{ℕ}
use lib.ListN.{length}
use Rattle.residue.specs.Residues.{Residues}

-- a list of n residues is one of as many as it has
pub own_length : {n : ℕ} {l : List ℕ} → Residues n l → Residues (length l) l
own_length {n} {l} r = subst (λ m. Residues m l) (sym r.long) r
