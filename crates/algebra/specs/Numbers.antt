-- Numbers that the coefficients of a polynomial may be: residues, or whole numbers that are never reduced. And their sums.
-- Assumes nothing: these are definitions.
use Rattle.std.specs.Prelude.{ℕ, zero, suc, ℤ, pos, ◌+ℤ◌, ◌-ℤ◌, ◌*ℤ◌}
use Rattle.residue.specs.Field.{addq, subq, mulq}

-- what a product of polynomials asks of its numbers
pub record Numbers : Type 1 where
  pub C : Type 0
  pub nil : C
  pub add : C → C → C
  pub sub : C → C → C
  pub mul : C → C → C

abbrev pub residues : Numbers
residues = record { C = ℕ; nil = 0; add = addq; sub = subq; mul = mulq }

abbrev pub wholes : Numbers
wholes = record { C = ℤ; nil = pos 0; add = ◌+ℤ◌; sub = ◌-ℤ◌; mul = ◌*ℤ◌ }

-- f 0 + f 1 + .. + f (n - 1)
unfoldable pub sum : (N : Numbers) → ℕ → (ℕ → N.C) → N.C
sum N zero f = N.nil
sum N (suc n) f = N.add (sum N n f) (f n)
