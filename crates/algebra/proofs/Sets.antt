-- The root of a set: w = 7^r, where r times 6h is 3456, the order of 7. All that the transform asks of w follows, once over h.
-- Assumes nothing.
use mathlib.Core.Path.{◌≡◌, refl, sym, ap, ◌∙◌, subst}
use Prim.Native.Nat.{ℕ, zero, suc, ◌*◌, ◌/◌, ◌≤◌, ◌<◌}
use native.Mathlib.Nat.{mul-lt-mul_of_pos_left, mul-le-mul_left, mul-le-mul_right}
use native.Mathlib.Omega.{arith}
use Rattle.residue.specs.Field.{q, generator, addq, mulq, powq, invq}
use Rattle.residue.proofs.FieldLaws as Q
use Rattle.residue.proofs.PowerLaws.{powq_mul}
use Rattle.residue.proofs.Order.{turn, order, powq_opposite}
use Rattle.algebra.specs.Roots.{IsRoot}
use Rattle.algebra.proofs.Ring.{pow, mul_comm}
use Rattle.algebra.proofs.Sixth.{Sixth}
use Rattle.algebra.proofs.Root.{Root}
use Rattle.algebra.proofs.Field.{F, ι, ι_keeps, ι_neg, ι_powq, ι_count, ι_inverse, keeps_nil}

-- a factor of 1 is not 0
unit_positive : (a b : ℕ) → mulq a b ≡ 1 → 0 < a
unfolding mulq
unit_positive zero b e = absurd (omega (arith, e))
unit_positive (suc a) b e = omega arith

-- 7^(3456/6) = 723, which is w^h in every set, is a root of x^2 - x + 1
sixth_723 : Sixth F (ι (powq generator (3456 / 6)))
unfolding powq mulq addq
sixth_723 =
    let e : mulq 723 723 ≡ addq 723 3456 = refl in
    sym (ι_keeps.mul 723 723) ∙ ap ι e ∙ ι_keeps.add 723 3456 ∙ ap (F.num.add (ι 723)) ι_neg

module _ (h w : ℕ) (ρ : IsRoot h w) where
  open ρ use {log, turns, root}

  log_positive : 0 < log
  log_positive = by log turns
    where
      by : (r : ℕ) → r * (6 * h) ≡ 3456 → 0 < r
      by zero e = absurd (omega (arith, e))
      by (suc r) e = omega arith

  pub half_positive : 0 < h
  half_positive = by h turns
    where
      by : (k : ℕ) → log * (6 * k) ≡ 3456 → 0 < k
      by zero e = absurd (omega (arith, e))
      by (suc k) e = omega arith

  pub order_small : 6 * h ≤ 3456
  order_small = omega (arith, turns, mul-le-mul_right (6 * h) log_positive)

  -- the exponents of 7 that powers of w below w^(6h) have
  pub log_below : (k : ℕ) → k < 6 * h → log * k < 3456
  log_below k l = omega (arith, turns, mul-lt-mul_of_pos_left l log_positive)

  pub log_small : log ≤ 3456
  log_small = omega (arith, turns, mul-le-mul_left {m = 1} {n = 6 * h} log (omega (arith, half_positive)))

  pub root_lt : w < q
  root_lt = subst (λ x. x < q) root (Q.powq_lt generator log)

  pub root_positive : 0 < w
  root_positive = subst (λ x. 0 < x) root (unit_positive (powq generator log) _ (powq_opposite log log_small))

  -- w^k = 7^(r k)
  powq_root : (k : ℕ) → powq w k ≡ powq generator (log * k)
  powq_root k = ap (λ x. powq x k) (sym root) ∙ sym (powq_mul generator log k)

  -- ---- the order of w is 6h

  pub root_turn : powq w (6 * h) ≡ 1
  root_turn = powq_root (6 * h) ∙ ap (powq generator) turns ∙ turn

  pub root_order : (k : ℕ) → 0 < k → k < 6 * h → ¬ (powq w k ≡ 1)
  root_order k p l e =
      order (log * k) (omega (arith, mul-lt-mul_of_pos_left p log_positive)) (log_below k l) (sym (powq_root k) ∙ e)

  -- ---- so w serves the transform

  root_sixth : Sixth F (pow F (ι w) h)
  root_sixth = subst (Sixth F) (ap (λ k. ι (powq generator k)) sixth_part ∙ ap ι (sym (powq_root h)) ∙ ι_powq w h) sixth_723
    where
      sixth_part : 3456 / 6 ≡ log * h
      sixth_part = omega (arith, turns)

  pub root_in : Root F h (ι w) (ι (invq w)) (ι (invq (3 * h)))
  root_in =
      record {
        inverse = ι_inverse w root_positive root_lt;
        sixth = root_sixth;
        order =
            λ d p l x e. keeps_nil (powq w (6 * d)) (Q.powq_lt w (6 * d)) (root_order (6 * d) (omega arith) (omega arith)) x
            (ap (λ r. F.num.mul r x) (ι_powq w (6 * d)) ∙ e);
        third =
            ap (F.num.mul (ι (invq (3 * h)))) (ι_count (3 * h)) ∙ mul_comm F (ι (invq (3 * h))) (ι (3 * h))
            ∙ ι_inverse (3 * h) (omega (arith, half_positive)) (omega (arith, order_small));
      }
