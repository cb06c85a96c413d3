-- Numbers as the machine has them: the bits of a product, and whole numbers in 32 bits, read back and negated.
-- Assumes nothing.
use mathlib.Core.Path.{◌≡◌, sym, ap, ◌∙◌, subst, subst⁻¹}
use mathlib.Core.Bool.{Bool}
use Prim.Native.Nat.{ℕ, zero, suc, ◌+◌, ◌*◌, ◌^◌, ◌-◌, ◌<◌}
use native.Mathlib.Nat.{le_of_lt, lt_of_le_of_lt, mul-le-mul_left, mul-lt-mul_of_pos_right}
use native.Mathlib.Omega.{arith}
use lib.IntN.{ℤ, pos, negsuc, neg_ℤ, ◌-ℤ◌, +ℤ_idl}
use lib.Pow.{pow-add, pow_pos}
use lib.Signed.{mag}
use mir.Facts.{to_z-of_z}
use mir.Syntax.{w32}
use mir.Val.{SFits, to_z, of_z, sel}
use borrow.Author.Tests.{lt-ltb}

-- the product of two numbers of k bits has at most k + k
pub product_bits : (k : ℕ) {a b : ℕ} → a < 2 ^ k → b < 2 ^ k → a * b < 2 ^ (k + k)
product_bits k {a} {b} ha hb =
    subst⁻¹ (λ n. a * b < n) (pow-add 2 k k)
    (lt_of_le_of_lt (mul-le-mul_left a (le_of_lt hb)) (mul-lt-mul_of_pos_right ha (pow_pos k)))

-- ---- whole numbers in 32 bits

-- a whole number of 31 bits comes back from its bits
pub back : (z : ℤ) → mag z < 2 ^ 31 → to_z w32 (of_z w32 z) ≡ z
back z h = to_z-of_z {w = w32} (record { sfits = h })

-- 31 bits read as a signed number are the number
pub unsigned : (n : ℕ) → n < 2 ^ 31 → to_z w32 n ≡ pos n
unsigned n h = ap (λ (b : Bool). sel b (pos n) (negsuc (2 ^ 32 - suc n))) (lt-ltb n (2 ^ 31) h)

-- the machine's negation is 0 less the number
negated : (n : ℕ) → n < 2 ^ 31 → pos 0 -ℤ to_z w32 n ≡ neg_ℤ (pos n)
negated n h = ap (λ z. pos 0 -ℤ z) (unsigned n h) ∙ +ℤ_idl (neg_ℤ (pos n))

pub negative_fits : (n : ℕ) → n < 2 ^ 31 → SFits w32 (neg_ℤ (pos n))
negative_fits zero h = record { sfits = omega arith }
negative_fits (suc n) h = record { sfits = omega arith }

pub negated_fits : (n : ℕ) → n < 2 ^ 31 → SFits w32 (pos 0 -ℤ to_z w32 n)
negated_fits n h = subst (SFits w32) (sym (negated n h)) (negative_fits n h)

pub negated_back : (n : ℕ) → n < 2 ^ 31 → to_z w32 (of_z w32 (pos 0 -ℤ to_z w32 n)) ≡ neg_ℤ (pos n)
negated_back n h = to_z-of_z (negated_fits n h) ∙ negated n h
