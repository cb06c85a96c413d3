-- Exponents of 7 modulo 3456, as the loops advance them: d n stands for the n-th power of 7^d. And the exponent of an inverse.
-- Assumes nothing.
use mathlib.Core.Path.{◌≡◌, sym, ap, ◌∙◌}
use Prim.Native.Nat.{ℕ, zero, suc, ◌+◌, ◌*◌, ◌-◌, ◌%◌, ◌≤◌, ◌<◌}
use native.Mathlib.Nat.{mod-add-mod, add-mod-mod, mul-zero, mul_comm, mul-add, mul-sub, mul-add-mod_self_left}
use native.Mathlib.Omega.{arith}
use Rattle.residue.specs.Field.{generator, powq, invq}
use Rattle.residue.proofs.FieldLaws.{powq_lt}
use Rattle.residue.proofs.Inverse.{invq_only}
use Rattle.residue.proofs.Order.{powq_cycle, powq_opposite}
use Rattle.residue.proofs.PowerLaws.{powq_mul}

module _ (d : ℕ) where
  -- d = d 1
  pub log_one : d < 3456 → d ≡ d * 1 % 3456
  log_one h = omega arith

  -- d a + d b = d (a + b)
  pub log_add : (a b : ℕ) {x y n : ℕ} → x ≡ d * a % 3456 → y ≡ d * b % 3456 → a + b ≡ n → (x + y) % 3456 ≡ d * n % 3456
  log_add a b p r e = rw (p, r, ← e) (simp (mod-add-mod, add-mod-mod, mul-add))

  -- every exponent is below the order of 7
  pub log_low : (n : ℕ) {x : ℕ} → x ≡ d * n % 3456 → x < 3456
  log_low n p = omega arith

  -- 7^(d n) = (7^d)^n
  pub log_power : (n : ℕ) {x : ℕ} → x ≡ d * n % 3456 → powq generator x ≡ powq (powq generator d) n
  log_power n p = ap (powq generator) p ∙ powq_cycle (d * n) ∙ powq_mul generator d n

-- 7^-(s j) = (7^-s)^j, by their exponents
opposite_is : (s j : ℕ) → s ≤ 3456 → s * j < 3456 → (3456 - s * j) % 3456 ≡ (3456 - s) * j % 3456
opposite_is s zero hs h = omega (arith, mul-zero s, mul-zero (3456 - s))
opposite_is s (suc y) hs h = sym (ap (λ k. k % 3456) split ∙ mul-add-mod_self_left 3456 y (3456 - s * suc y))
  where
    split : (3456 - s) * suc y ≡ 3456 * y + (3456 - s * suc y)
    split = omega (arith, mul_comm (3456 - s) (suc y), mul-sub (suc y) 3456 s, mul_comm (suc y) s, h)

-- 7^-(s j) = (1/w)^j, w being 7^s, which is not 0
pub opposite_power : (s j : ℕ) {d : ℕ} → s ≤ 3456 → 0 < powq generator s → s * j < 3456 → d ≡ (3456 - s * j) % 3456
    → powq generator d ≡ powq (invq (powq generator s)) j
opposite_power s j hs p h e =
    ap (powq generator) (e ∙ opposite_is s j hs h) ∙ powq_cycle ((3456 - s) * j) ∙ powq_mul generator (3456 - s) j
    ∙ ap (λ y. powq y j) (invq_only (powq generator s) (powq generator (3456 - s)) p (powq_lt generator s) (powq_lt generator (3456 - s)) (powq_opposite s hs))
