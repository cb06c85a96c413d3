-- A fact of every number below n by one test that antt computes: `below` runs the test, `at-below` is the fact at each number.
-- Assumes nothing.
use mathlib.Core.Path.{◌≡◌, refl, sym, subst}
use mathlib.Core.Bool.{Bool, true, false, false≢true, ◌&&◌}
use Prim.Native.Nat.{ℕ, zero, suc, ◌<◌}
use native.Mathlib.Decide.{ℕ_discrete}
use native.Mathlib.Omega.{arith}
use lib.Dec.{T}
use Rattle.lists.specs.Every.{below}

-- what a passed test of two says of each
pub and_left : (a b : Bool) → T (a && b) → T a
and_left true b t = tt
and_left false b t = t

pub and_right : (a b : Bool) → T (a && b) → T b
and_right true b t = t
and_right false b t = absurd t

pub both_true : (a b : Bool) → (a && b) ≡ true → (a ≡ true) × (b ≡ true)
both_true true b e = (refl, e)
both_true false b e = absurd (false≢true e)

-- the test's fact at each of the numbers
pub at_below : (p : ℕ → Bool) (n : ℕ) → T (below p n) → (k : ℕ) → k < n → T (p k)
unfolding below
at_below p zero t k h = absurd (omega arith)
at_below p (suc n) t k h = by (ℕ_discrete k n) (λ l. at_below p n (and_right (p n) (below p n) t) k l)
  where
    by : Dec (k ≡ n) → (k < n → T (p k)) → T (p k)
    by (yes e) r = subst (λ i. T (p i)) (sym e) (and_left (p n) (below p n) t)
    by (no e) r = r (omega arith)
