-- The transform over n = 2h with the root w: the image of a polynomial, and the reverse by its sums.
-- Assumes nothing: these are definitions.
use Rattle.std.specs.Prelude.{cond, List, ℕ, ◌+◌, ◌*◌, ◌-◌, ◌%◌, eqb, ltb, get_or}
use Rattle.lists.specs.Tab.{tab}
use Rattle.residue.specs.Field.{addq, subq, mulq, powq, invq}
use Rattle.algebra.specs.Numbers.{residues, sum}

-- "e = 3k + 1 for even k, 3k + 2 for odd k"
unfoldable pub exponent : ℕ → ℕ
exponent k = cond (eqb (k % 2) 0) (3 * k + 1) (3 * k + 2)

-- a_0 + a_1 x + .. + a_(n-1) x^(n-1)
unfoldable pub value : ℕ → List ℕ → ℕ → ℕ
value n a x = sum residues n (λ i. mulq (get_or a i 0) (powq x i))

-- "Slot k of the image of a polynomial is its value at w^e"
unfoldable pub image : ℕ → ℕ → List ℕ → List ℕ
image h w a = tab (h + h) (λ k. value (h + h) a (powq w (exponent k)))

-- S_j: the sum over the slots of A_k w^(-e j)
unfoldable pub slot_sum : ℕ → ℕ → List ℕ → ℕ → ℕ
slot_sum h w A j = sum residues (h + h) (λ k. mulq (get_or A k 0) (powq (invq w) (exponent k * j)))

-- (j + h) mod n
unfoldable pub partner : ℕ → ℕ → ℕ
partner h j = cond (ltb j h) (h + j) (j - h)

-- "the one element with that image": coefficient j is (2 S_j - S_(j + h)) / 3h
unfoldable pub reverse : ℕ → ℕ → List ℕ → List ℕ
reverse h w A =
    tab (h + h) (λ j. mulq (invq (3 * h)) (subq (addq (slot_sum h w A j) (slot_sum h w A j)) (slot_sum h w A (partner h j))))
