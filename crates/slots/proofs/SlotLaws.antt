-- The sums over the slots, two slots a turn: the exponents 6t + 1 and 6t + 5 of slots 2t and 2t + 1. And a coefficient of the reverse from two sums.
-- Assumes nothing.
use mathlib.Core.Path.{◌≡◌, sym, ap, ◌∙◌}
use mathlib.Core.List.{List}
use Prim.Native.Nat.{ℕ, ◌+◌, ◌*◌, ◌%◌}
use native.Mathlib.Nat.{mul_comm}
use native.Mathlib.Numerals.{add-one}
use native.Mathlib.Omega.{arith}
use lib.ListN.{get_or}
use Rattle.residue.specs.Field.{generator, addq, subq, mulq, powq, invq}
use Rattle.algebra.specs.Numbers.{residues, sum}
use Rattle.algebra.specs.Transform.{exponent, slot_sum, partner}
use Rattle.residue.proofs.PowerLaws.{powq_mul}
use Rattle.algebra.proofs.Exponent.{exponent_even, exponent_odd}
use Rattle.ring.proofs.Sums.{sum_more}
use Rattle.slots.proofs.Logs.{log_power}

-- the term of slot k in S_j: A_k (1/w)^(e j)
unfoldable pub slot_term : ℕ → List ℕ → ℕ → ℕ → ℕ
slot_term w A j k = mulq (get_or A k 0) (powq (invq w) (exponent k * j))

module _ (w : ℕ) (A : List ℕ) (j d : ℕ) (root : powq generator d ≡ powq (invq w) j) where
  -- A_k 7^(d e) is that term, where 7^d is (1/w)^j
  slot_term_lem : (k e : ℕ) {x : ℕ} → exponent k ≡ e → x ≡ d * e % 3456 → mulq (get_or A k 0) (powq generator x) ≡ slot_term w A j k
  unfolding slot_term
  slot_term_lem k e p r =
      ap (mulq (get_or A k 0))
      (log_power d e r ∙ ap (λ y. powq y e) root ∙ sym (powq_mul (invq w) j e) ∙ ap (powq (invq w)) (mul_comm j e ∙ ap (λ y. y * j) (sym p)))

  -- slots 2t and 2t + 1 more
  pub slots_more : (t : ℕ) {s even odd : ℕ} → s ≡ sum residues (t + t) (slot_term w A j)
      → even ≡ d * (6 * t + 1) % 3456 → odd ≡ d * (6 * t + 5) % 3456
      → addq (addq s (mulq (get_or A (t + t) 0) (powq generator even))) (mulq (get_or A (t + t + 1) 0) (powq generator odd))
      ≡ sum residues (t + 1 + (t + 1)) (slot_term w A j)
  slots_more t e p r =
      sum_more _ (t + t + 1) (sum_more _ (t + t) e (slot_term_lem (t + t) (6 * t + 1) (exponent_even t) p))
      (slot_term_lem (t + t + 1) (6 * t + 5) (ap exponent (add-one (t + t)) ∙ exponent_odd t) r)
      ∙ ap (λ n. sum residues n (slot_term w A j)) (omega arith)

-- coefficient j of the reverse
unfoldable pub reverse_at : ℕ → ℕ → List ℕ → ℕ → ℕ
reverse_at h w A j = mulq (invq (3 * h)) (subq (addq (slot_sum h w A j) (slot_sum h w A j)) (slot_sum h w A (partner h j)))

-- from S_j and the partner's sum
pub reverse_at_lem : (h w : ℕ) (A : List ℕ) (j k : ℕ) {r c x y : ℕ} → partner h j ≡ k → r ≡ mulq c (subq (addq x x) y)
    → c ≡ invq (3 * h) → x ≡ slot_sum h w A j → y ≡ slot_sum h w A k → r ≡ reverse_at h w A j
unfolding reverse_at
reverse_at_lem h w A j k p e ec ex ey = cc
