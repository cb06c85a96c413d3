-- The generator 7 has order exactly 3456, by one computed test of the smaller exponents; so exponents of 7 count modulo 3456.
-- Assumes nothing.
use mathlib.Core.Path.{◌≡◌, refl, sym, ap, ◌∙◌, subst}
use mathlib.Core.Bool.{Bool, not}
use Prim.Native.Nat.{ℕ, zero, suc, ◌+◌, ◌*◌, ◌-◌, ◌/◌, ◌%◌, ◌<◌, ◌≤◌}
use native.Mathlib.Nat.{div-add-mod}
use native.Mathlib.Omega.{arith}
use lib.Dec.{T, eqb, T_not}
use Rattle.lists.specs.Every.{below}
use Rattle.lists.proofs.Every.{at_below}
use Rattle.residue.specs.Field.{generator, mulq, powq}
use Rattle.residue.proofs.FieldLaws.{one_mulq, powq_lt}
use Rattle.residue.proofs.PowerLaws.{powq_add, powq_mul, one_powq}

-- 7^3456 = 1
pub turn : powq generator 3456 ≡ 1
unfolding powq
turn = refl

not_one : ℕ → Bool
not_one k = not (eqb (powq generator (suc k)) 1)

none_is_one : T (below not_one 3455)
unfolding below not_one powq
none_is_one = tt

-- and no smaller power of 7 is
pub order : (k : ℕ) → 0 < k → k < 3456 → ¬ (powq generator k ≡ 1)
unfolding not_one
order zero p h e = omega arith
order (suc k) p h e =
    T_not (eqb (powq generator (suc k)) 1) (at_below not_one 3455 none_is_one k (omega arith)) (subst (λ x. T (eqb x 1)) (sym e) tt)

-- 7^(i mod 3456) = 7^i
pub powq_cycle : (i : ℕ) → powq generator (i % 3456) ≡ powq generator i
powq_cycle i =
    sym (ap (powq generator) (sym (div-add-mod i 3456)) ∙ powq_add generator (3456 * (i / 3456)) (i % 3456)
    ∙ ap (λ x. mulq x (powq generator (i % 3456))) turns ∙ one_mulq (powq_lt generator (i % 3456)))
  where
    turns : powq generator (3456 * (i / 3456)) ≡ 1
    turns = powq_mul generator 3456 (i / 3456) ∙ ap (λ x. powq x (i / 3456)) turn ∙ one_powq (i / 3456)

-- 7^i 7^(3456 - i) = 1
pub powq_opposite : (i : ℕ) → i ≤ 3456 → mulq (powq generator i) (powq generator (3456 - i)) ≡ 1
powq_opposite i h = sym (powq_add generator i (3456 - i)) ∙ ap (powq generator) whole ∙ turn
  where
    whole : i + (3456 - i) ≡ 3456
    whole = omega arith
