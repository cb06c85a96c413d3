-- "Work out 3(g'r + mf') + m over whole numbers, folded but never reduced by 3457."
-- Assumes nothing: these are definitions.
use Rattle.std.specs.Prelude.{List, ℕ, ◌+◌, ◌≤◌, ◌<◌, ℤ, pos, nat_abs, ◌+ℤ◌, ◌*ℤ◌, get_or}
use Rattle.lists.specs.Tab.{tab}
use Rattle.algebra.specs.Numbers.{wholes}
use Rattle.algebra.specs.Product.{coefficient, product}
use Rattle.stages.specs.Making.{f_image, g_image}

-- 3(g'r + mf') + m, over n = 2h
unfoldable pub opened : ℕ → List ℤ → List ℤ → List ℤ → List ℤ → List ℤ
opened h f' g' r m =
    tab (h + h) (λ i. pos 3 *ℤ (coefficient wholes (product wholes h g' r) i +ℤ coefficient wholes (product wholes h m f') i) +ℤ coefficient wholes m i)

-- "each coefficient lies from -1728 to 1728"
pub record InRange (p : List ℤ) : Type 0 where
  pub near : (i : ℕ) → nat_abs (get_or p i (pos 0)) ≤ 1728

-- a pair that make takes: no slot of f and none of g is zero
pub record Pair (h w : ℕ) (f' g' : List ℤ) : Type 0 where
  pub f_slots : (k : ℕ) → k < h + h → 0 < get_or (f_image h w f') k 0
  pub g_slots : (k : ℕ) → k < h + h → 0 < get_or (g_image h w g') k 0
