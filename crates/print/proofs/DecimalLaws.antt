-- The laws of printed numbers: how many digits, that they are digits, no zero in front.
-- Assumes nothing.
use mathlib.Core.Path.{◌≡◌, refl, sym, ap, ◌∙◌, subst}
use mathlib.Core.Bool.{Bool, true, false, cond}
use mathlib.Core.List.{[], ◌∷◌, ◌++◌}
use Prim.Native.Nat.{ℕ, zero, suc, ◌+◌, ◌*◌, ◌/◌, ◌%◌, ◌^◌, ◌≤◌, ◌<◌, max}
use native.Mathlib.Decide.{ℕ_discrete}
use native.Mathlib.Nat.{pow-succ'}
use native.Mathlib.Omega.{arith}
use lib.Dec.{ltb}
use lib.ListN.{length, get_or, length-append, get_or-append}
use borrow.Author.Tests.{ltb-true, ltb-false, lt-ltb}
use Rattle.std.proofs.lemmas.Bool.Decides.{nat_tests}
use Rattle.print.specs.Printing.{digits, width, decimal}
use Rattle.print.proofs.Each.{Each, none, more, each_append}

-- ---- k digits

-- there are k of them
pub length_digits : (k v : ℕ) → length (digits k v) ≡ k
unfolding digits
length_digits zero v = refl
length_digits (suc k) v = length-append (digits k (v / 10)) ((48 + v % 10) ∷ []) ∙ omega (arith, length_digits k (v / 10))

-- `0` to `9`
pub record Digit (c : ℕ) : Type 0 where
  pub low : 48 ≤ c
  pub high : c ≤ 57

-- each of them is one
digits_digits : (k v : ℕ) → Each Digit (digits k v)
unfolding digits
digits_digits zero v = none
digits_digits (suc k) v = each_append (digits_digits k (v / 10)) (more (record { low = omega arith; high = omega arith }) none)

-- k + 1 digits of which the first is `0` are those of a number that k digits are enough for
digits_unpadded : (k v : ℕ) → v < 10 ^ suc k → get_or (digits (suc k) v) 0 0 ≡ 48 → v < 10 ^ k
unfolding digits
digits_unpadded zero v h e = omega arith
digits_unpadded (suc k) v h e =
    let first = get_or-append (digits (suc k) (v / 10)) ((48 + v % 10) ∷ []) 0 0 (omega (arith, length_digits (suc k) (v / 10))) in
    let shorter : v / 10 < 10 ^ suc k = omega (arith, pow-succ' 10 (suc k)) in
    omega (arith, pow-succ' 10 k, digits_unpadded k (v / 10) shorter (sym first ∙ e))

-- ---- all digits

-- what holds of a where v is below m, and of b from m on, holds of the choice by that test
by_bound : (P : ℕ → Type 0) (v m : ℕ) {a b : ℕ} → (v < m → P a) → (m ≤ v → P b) → P (cond (ltb v m) a b)
by_bound P v m {a} {b} x y = by (ltb v m) refl
  where
    by : (t : Bool) → ltb v m ≡ t → P (cond t a b)
    by true e = x (ltb-true v m e)
    by false e = y (ltb-false v m e)

-- w digits, one to five, are enough for v, and no number but 0 has fewer
abbrev Wide : ℕ → ℕ → Type 0
Wide v w = (1 ≤ w) × (w ≤ 5) × (v < 10 ^ w) × (10 ^ w ≤ 10 * max 1 v)

-- that is so of the width
wide : (v : ℕ) → v < 100000 → Wide v (width v)
unfolding width
wide v h =
    by_bound (Wide v) v 10 (λ a. omega arith)
    (λ b. by_bound (Wide v) v 100 (λ a. omega arith)
    (λ b. by_bound (Wide v) v 1000 (λ a. omega arith) (λ b. by_bound (Wide v) v 10000 (λ a. omega arith) (λ b. omega arith))))

-- the width is at most four below 10,000
width_four : (v : ℕ) → v < 10000 → width v ≤ 4
width_four v h = by (width v) (wide v (omega arith)) (ℕ_discrete (width v) 5)
  where
    by : (w : ℕ) → Wide v w → Dec (w ≡ 5) → w ≤ 4
    by w p (yes e) = absurd (omega (arith, subst (Wide v) e p))
    by w p (no e) = omega arith

-- as many digits as the width are enough
pub below_width : (v : ℕ) → v < 100000 → v < 10 ^ width v
below_width v h = (wide v h).2

-- a printed number is as long as the width says
pub length_decimal : (v : ℕ) → length (decimal v) ≡ width v
unfolding decimal
length_decimal v = length_digits (width v) v

-- a number below 10 is one digit
pub decimal_one : (v : ℕ) → v < 10 → decimal v ≡ (48 + v % 10) ∷ []
unfolding decimal width digits
decimal_one v h = rw (lt-ltb v 10 h) refl

-- a number from 10 on has one digit more than its tenth
width_more : (v : ℕ) → 10 ≤ v → v < 100000 → width v ≡ suc (width (v / 10))
unfolding width
width_more v h k = grind (arith, nat_tests)

-- so its digits are those of its tenth, and the last
pub decimal_more : (v : ℕ) → 10 ≤ v → v < 100000 → decimal v ≡ decimal (v / 10) ++ ((48 + v % 10) ∷ [])
unfolding decimal digits
decimal_more v h k = ap (λ w. digits w v) (width_more v h k)

-- it has one to five digits
pub decimal_length : (v : ℕ) → v < 100000 → (1 ≤ length (decimal v)) × (length (decimal v) ≤ 5)
decimal_length v h = omega (arith, wide v h, length_decimal v)

-- and below 10,000 at most four
pub decimal_four : (v : ℕ) → v < 10000 → length (decimal v) ≤ 4
decimal_four v h = omega (arith, width_four v h, length_decimal v)

-- its bytes are digits
pub decimal_digits : (v : ℕ) → Each Digit (decimal v)
unfolding decimal
decimal_digits v = digits_digits (width v) v

-- "no leading zeros": only 0 begins with `0`
pub decimal_unpadded : (v : ℕ) → v < 100000 → get_or (decimal v) 0 0 ≡ 48 → v ≡ 0
unfolding decimal
decimal_unpadded v h e = by (width v) (wide v h) e
  where
    by : (w : ℕ) → Wide v w → get_or (digits w v) 0 0 ≡ 48 → v ≡ 0
    by zero p e = absurd (omega arith)
    by (suc k) p e = omega (arith, pow-succ' 10 k, digits_unpadded k v p.2 e)
