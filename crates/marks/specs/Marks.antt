-- Small whole numbers, and the marks that stand for them.
-- Assumes nothing: these are definitions.
use Rattle.std.specs.Prelude.{Bool, List, ℕ, ◌≤◌, ltb, ℤ, pos, negsuc, nat_abs, get_or}
use Rattle.residue.specs.Signed.{around_zero}

-- -1, 0 or 1
unfoldable pub Small : ℤ → Type 0
Small z = nat_abs z ≤ 1

-- "A mark is a byte: 0, 1, or 2 for -1."
unfoldable pub mark_of : ℤ → ℕ
mark_of (pos n) = n
mark_of (negsuc n) = 2

-- and what a mark stands for
unfoldable pub of_mark : ℕ → ℤ
of_mark m = around_zero m

-- "a mark above 2"
unfoldable pub no_mark : ℕ → Bool
no_mark m = ltb 2 m

-- each coefficient is small
pub record Smalls (l : List ℤ) : Type 0 where
  pub small : (i : ℕ) → Small (get_or l i (pos 0))
