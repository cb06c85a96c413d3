-- Every residue but 0 has its inverse: a^3456 = 1 by one computed test of all of them, with 3456 = 2^7 * 3^3 (Fermat).
-- Assumes nothing.
use mathlib.Core.Path.{◌≡◌, refl, sym, ap, ◌∙◌}
use mathlib.Core.Bool.{Bool}
use Prim.Native.Nat.{ℕ, zero, suc, ◌+◌, ◌<◌}
use native.Mathlib.Omega.{arith}
use lib.Dec.{T, eqb, eqb→eq}
use Rattle.lists.specs.Every.{below}
use Rattle.lists.proofs.Every.{at_below}
use Rattle.residue.specs.Field.{q, mulq, powq, invq}
use Rattle.residue.proofs.FieldLaws.{mulq_comm, mulq_assoc, mulq_one, one_mulq, invq_lt}
use Rattle.residue.proofs.PowerLaws.{powq_add, powq_one}

-- ---- a^3456 as squares of cubes, so that no number grows

square : ℕ → ℕ
square x = mulq x x

cube : ℕ → ℕ
cube x = mulq x (mulq x x)

turned : ℕ → ℕ
turned x = square (square (square (square (square (square (square (cube (cube (cube x)))))))))

is_one : ℕ → Bool
is_one k = eqb (turned (suc k)) 1

all_one : T (below is_one 3456)
unfolding below is_one turned square cube mulq
all_one = tt

square_powq : (a n : ℕ) {x : ℕ} → x ≡ powq a n → square x ≡ powq a (n + n)
unfolding square
square_powq a n e = ap square e ∙ sym (powq_add a n n)

cube_powq : (a n : ℕ) {x : ℕ} → x ≡ powq a n → cube x ≡ powq a (n + (n + n))
unfolding cube
cube_powq a n e = ap cube e ∙ ap (mulq (powq a n)) (sym (powq_add a n n)) ∙ sym (powq_add a n (n + n))

turned_powq : {a : ℕ} → a < q → turned a ≡ powq a 3456
unfolding turned
turned_powq {a} h =
    square_powq a 1728 (square_powq a 864 (square_powq a 432 (square_powq a 216 (square_powq a 108 (square_powq a 54 (square_powq a 27
    (cube_powq a 9 (cube_powq a 3 (cube_powq a 1 (sym (powq_one h)))))))))))

-- ---- the laws

-- a^3456 = 1
pub fermat : (a : ℕ) → 0 < a → a < q → powq a 3456 ≡ 1
unfolding is_one
fermat zero p h = absurd (omega arith)
fermat (suc k) p h = sym (turned_powq h) ∙ eqb→eq _ _ (at_below is_one 3456 all_one k (omega arith))

-- a (1/a) = 1
pub mulq_invq : (a : ℕ) → 0 < a → a < q → mulq a (invq a) ≡ 1
unfolding invq
mulq_invq a p h = ap (λ x. mulq x (powq a 3455)) (sym (powq_one h)) ∙ sym (powq_add a 1 3455) ∙ fermat a p h

-- only 1/a does that
pub invq_only : (a b : ℕ) → 0 < a → a < q → b < q → mulq a b ≡ 1 → b ≡ invq a
invq_only a b p ha hb e =
    sym (one_mulq hb) ∙ ap (λ x. mulq x b) (sym (mulq_invq a p ha) ∙ mulq_comm a (invq a)) ∙ mulq_assoc (invq a) a b
    ∙ ap (mulq (invq a)) e ∙ mulq_one (invq_lt a)

-- what is given at 0; no law above covers it
pub invq_zero : invq 0 ≡ 0
unfolding invq powq
invq_zero = refl
