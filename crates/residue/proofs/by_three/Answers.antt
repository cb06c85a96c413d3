-- `residue::by_three` meets its contract: the machine's remainder is one of -2, -1, 0, 1, 2, and each is tried.
-- Assumes nothing.
use Rattle.std.proofs.Common.{rules}
use mathlib.Core.Path.{◌≡◌, refl, sym, ap, ◌∙◌}
use Prim.Native.Nat.{ℕ, zero, suc, ◌%◌, ◌<◌}
use native.Mathlib.Omega.{arith}
use lib.IntN.{ℤ, pos, negsuc, neg_ℤ}
use lib.Signed.{rem_z}
use mir.Facts.{to_z-of_z}
use mir.Syntax.{w32}
use mir.Val.{to_z, of_z}
use Rattle.residue.specs.Signed.{by_three, around_zero}
use Rattle.residue.proofs.by_three.Goals as goal

thirds : (P : ℕ → Type 0) → P 0 → P 1 → P 2 → (r : ℕ) → r < 3 → P r
thirds P a b c zero h = a
thirds P a b c (suc zero) h = b
thirds P a b c (suc (suc zero)) h = c
thirds P a b c (suc (suc (suc r))) h = absurd (omega arith)

-- what holds of each of the five remainders, with what `by_three` makes of it, holds of z
remainders : (P : ℤ → ℤ → Type 0) → P (negsuc 1) (pos 1) → P (negsuc 0) (negsuc 0) → P (pos 0) (pos 0) → P (pos 1) (pos 1)
    → P (pos 2) (negsuc 0) → (z : ℤ) → P (rem_z z (pos 3)) (by_three z)
unfolding by_three
remainders P a b c d e (pos n) = thirds (λ r. P (pos r) (around_zero r)) c d e (n % 3) (omega arith)
remainders P a b c d e (negsuc n) = thirds (λ r. P (neg_ℤ (pos r)) (neg_ℤ (around_zero r))) c b a (suc n % 3) (omega arith)

two : (z : ℤ) → of_z w32 (rem_z z (pos 3)) ≡ 2 → by_three z ≡ negsuc 0
two =
    remainders (λ m t. of_z w32 m ≡ 2 → t ≡ negsuc 0) (λ e. absurd (omega arith)) (λ e. refl) (λ e. absurd (omega arith))
    (λ e. absurd (omega arith)) (λ e. refl)

minus_two : (z : ℤ) → of_z w32 (rem_z z (pos 3)) ≡ 4294967294 → by_three z ≡ pos 1
minus_two =
    remainders (λ m t. of_z w32 m ≡ 4294967294 → t ≡ pos 1) (λ e. refl) (λ e. absurd (omega arith)) (λ e. absurd (omega arith))
    (λ e. refl) (λ e. absurd (omega arith))

others : (z : ℤ) → (of_z w32 (rem_z z (pos 3)) ≡ 2 → ⊥) → (of_z w32 (rem_z z (pos 3)) ≡ 4294967294 → ⊥)
    → to_z w32 (of_z w32 (rem_z z (pos 3))) ≡ by_three z
others =
    remainders (λ m t. (of_z w32 m ≡ 2 → ⊥) → (of_z w32 m ≡ 4294967294 → ⊥) → to_z w32 (of_z w32 m) ≡ t) (λ f g. absurd (g refl))
    (λ f g. refl) (λ f g. refl) (λ f g. refl) (λ f g. absurd (f refl))

-- what an arm says of a signed number has no name of its own, and is found
pub returns-in-2 : goal.returns-in-2
returns-in-2 c = sym (two (to_z w32 (of_z w32 c.args.value)) (search rules)) ∙ ap by_three (to_z-of_z c.ranges.value)

pub returns-in-minus2 : goal.returns-in-minus2
returns-in-minus2 c = sym (minus_two (to_z w32 (of_z w32 c.args.value)) (search rules)) ∙ ap by_three (to_z-of_z c.ranges.value)

pub returns-in_default : goal.returns-in_default
returns-in_default c =
    others (to_z w32 (of_z w32 c.args.value)) (search rules) (search rules) ∙ ap by_three (to_z-of_z c.ranges.value)
