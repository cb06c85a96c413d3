-- Printed numbers and polynomials, as lists of bytes: 48 is `0`, 58 the colon, 44 the comma.
-- Assumes nothing: these are definitions.
use Rattle.std.specs.Prelude.{cond, List, [], ◌∷◌, ◌++◌, ℕ, zero, suc, ◌+◌, ◌/◌, ◌%◌, eqb, ltb}

-- the last k digits of v
unfoldable pub digits : ℕ → ℕ → List ℕ
digits zero v = []
digits (suc k) v = digits k (v / 10) ++ ((48 + v % 10) ∷ [])

-- how many digits a number below 100,000 has
unfoldable pub width : ℕ → ℕ
width v = cond (ltb v 10) 1 (cond (ltb v 100) 2 (cond (ltb v 1000) 3 (cond (ltb v 10000) 4 5)))

-- "no leading zeros anywhere (index 0 is `0`)"
unfoldable pub decimal : ℕ → List ℕ
decimal v = digits (width v) v

-- "`index:value`"
unfoldable pub printed_term : ℕ → ℕ → List ℕ
printed_term i v = decimal i ++ (58 ∷ decimal v)

-- "its nonzero terms by rising index", of a list whose first place is index i
unfoldable pub printed_terms : ℕ → List ℕ → List (List ℕ)
printed_terms i [] = []
printed_terms i (v ∷ vs) = cond (eqb v 0) (printed_terms (suc i) vs) (printed_term i v ∷ printed_terms (suc i) vs)

-- "joined by commas"
unfoldable pub joined : List (List ℕ) → List ℕ
joined [] = []
joined (t ∷ []) = t
joined (t ∷ u ∷ ts) = t ++ (44 ∷ joined (u ∷ ts))

-- "no terms means zero": nothing is printed for it
unfoldable pub printed_polynomial : List ℕ → List ℕ
printed_polynomial l = joined (printed_terms 0 l)
