-- Residues and whole numbers: the centred remainder, the remainder by 3 into -1, 0, 1, and the residue of a whole number.
-- Assumes nothing: these are definitions.
use Rattle.std.specs.Prelude.{cond, ℕ, zero, suc, ◌-◌, ◌%◌, leb, ℤ, pos, negsuc, neg_ℤ}
use Rattle.residue.specs.Field.{q, negq}

-- "the value congruent to the residue in -1728..1728"
unfoldable pub centred : ℕ → ℤ
centred a = cond (leb a 1728) (pos a) (neg_ℤ (pos (q - a)))

-- a remainder 0, 1, 2 as 0, 1, -1
abbrev pub around_zero : ℕ → ℤ
around_zero zero = pos 0
around_zero (suc zero) = pos 1
around_zero (suc (suc n)) = negsuc 0

-- "the remainder by 3 is taken into -1, 0, 1": the one that differs from z by a multiple of 3
unfoldable pub by_three : ℤ → ℤ
by_three (pos n) = around_zero (n % 3)
by_three (negsuc n) = neg_ℤ (around_zero (suc n % 3))

-- "this signed pair of steps is done in that order"
unfoldable pub centred_by_three : ℕ → ℤ
centred_by_three a = by_three (centred a)

-- the residue of a whole number: -1 is 3456
unfoldable pub residue_of : ℤ → ℕ
residue_of (pos n) = n % q
residue_of (negsuc n) = negq (suc n)
