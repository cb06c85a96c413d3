-- Remainders under products, for any modulus. Those under sums are the kit's `mod-add-mod`, `add-mod-mod`.
-- Assumes nothing.
use mathlib.Core.Path.{◌≡◌, sym, ap, ◌∙◌}
use Prim.Native.Nat.{ℕ, ◌+◌, ◌*◌, ◌/◌, ◌%◌}
use native.Mathlib.Nat.{div-add-mod', mul_comm, mul_right_comm, add-mul, mul-add-mod_self_right}

pub mod_mul_mod : (a b m : ℕ) → a % m * b % m ≡ a * b % m
mod_mul_mod a b m = sym (ap (λ x. x % m) split ∙ mul-add-mod_self_right (a / m * b) m (a % m * b))
  where
    split : a * b ≡ a / m * b * m + a % m * b
    split = ap (λ x. x * b) (sym (div-add-mod' a m)) ∙ rw (add-mul, mul_right_comm (a / m) m b)

pub mul_mod_mod : (a b m : ℕ) → a * (b % m) % m ≡ a * b % m
mul_mod_mod a b m = rw (mul_comm a (b % m), mod_mul_mod, mul_comm b a)
