-- "The product is the schoolbook product with x^n = x^(n/2) - 1, and so x^(3n/2) = -1": one definition for residues and for whole
-- numbers, over n = 2h. A ring element is a list of n numbers, place i standing at x^i. Assumes nothing: these are definitions.
use Rattle.std.specs.Prelude.{cond, List, ℕ, suc, ◌+◌, ◌-◌, eqb, ltb, get_or}
use Rattle.lists.specs.Tab.{tab}
use Rattle.algebra.specs.Numbers.{Numbers, sum}

-- coefficient i, 0 past the end
abbrev pub coefficient : (N : Numbers) → List N.C → ℕ → N.C
coefficient N a i = get_or a i N.nil

-- schoolbook: at x^m stands a_0 b_m + a_1 b_(m-1) + .. + a_m b_0
unfoldable pub schoolbook : (N : Numbers) → (ℕ → N.C) → (ℕ → N.C) → ℕ → N.C
schoolbook N a b m = sum N (suc m) (λ i. N.mul (a i) (b (m - i)))

-- folded, at x^i below x^h: c_i - c_(n + i) - c_(3h + i), by x^(n + i) = x^(h + i) - x^i and x^(3h + i) = -x^i
unfoldable pub fold_low : (N : Numbers) → ℕ → (ℕ → N.C) → ℕ → N.C
fold_low N h c i = N.sub (c i) (N.add (c (h + h + i)) (c (h + h + (h + i))))

-- folded, at x^(h + i): c_(h + i) + c_(n + i)
unfoldable pub fold_high : (N : Numbers) → ℕ → (ℕ → N.C) → ℕ → N.C
fold_high N h c i = N.add (c (h + i)) (c (h + h + i))

unfoldable pub fold : (N : Numbers) → ℕ → (ℕ → N.C) → ℕ → N.C
fold N h c i = cond (ltb i h) (fold_low N h c i) (fold_high N h c (i - h))

unfoldable pub product : (N : Numbers) → ℕ → List N.C → List N.C → List N.C
product N h a b = tab (h + h) (fold N h (schoolbook N (coefficient N a) (coefficient N b)))

-- x^i
unfoldable pub monomial : ℕ → ℕ → List ℕ
monomial n i = tab n (λ k. cond (eqb k i) 1 0)
