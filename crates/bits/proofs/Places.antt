-- The places of a block, once over B: 16 rows of B/16 places, row l for bit l of the half words. Each place is hit once.
-- Assumes nothing.
use mathlib.Core.Path.{◌≡◌, sym, ap, ◌∙◌, subst}
use Prim.Native.Nat.{ℕ, ◌+◌, ◌*◌, ◌/◌, ◌%◌, ◌≤◌, ◌<◌}
use native.Mathlib.Nat.{mul_comm, suc-mul, mul-le-mul_right, mod-lt, div-add-mod', div-lt_iff_lt-mul}
use native.Mathlib.Numerals.{add-one}
use native.Mathlib.Omega.{arith}
use lib.Arith.{digits_lt, digits_div, digits_mod}
use Rattle.bits.specs.Listing.{place, goes_to, comes_from}

-- bit t = 16u + l goes to place u of row l
pub goes_to_row : (B t : ℕ) → goes_to B t ≡ t % 16 * (B / 16) + t / 16
unfolding goes_to place
goes_to_row B t = ap (λ x. 0 + x + 2 * (t / 32) + t / 16 % 2) (mul_comm (B / 16) (t % 16)) ∙ omega arith

-- and to place u of row l comes bit 16u + l
pub comes_from_row : (B l u : ℕ) → u < B / 16 → comes_from B (l * (B / 16) + u) ≡ 16 * u + l
unfolding comes_from
comes_from_row B l u h = rw (digits_mod l h, digits_div l h)

-- rows follow one another, and the last one ends the block
pub row_next : (l c : ℕ) → l * c + c ≡ (l + 1) * c
row_next l c = sym (ap (λ k. k * c) (add-one l) ∙ suc-mul l c)

pub row_ends : (B l : ℕ) → B % 32 ≡ 0 → l < 16 → l * (B / 16) + B / 16 ≤ B
row_ends B l w h =
    let m : (l + 1) * (B / 16) ≤ 16 * (B / 16) = mul-le-mul_right (B / 16) (omega arith) in
    omega (arith, row_next l (B / 16))

module _ (B : ℕ) (words : B % 32 ≡ 0) where
  -- there are 16 rows
  row_lt : (p : ℕ) → p < B → p / (B / 16) < 16
  row_lt p h = let e : B ≡ 16 * (B / 16) = omega arith in (div-lt_iff_lt-mul {k = B / 16} (omega arith)).1 (subst (λ b. p < b) e h)

  -- each bit of the block has its place in the block, and each place its bit
  pub goes_to_lt : (t : ℕ) → t < B → goes_to B t < B
  goes_to_lt t h =
      let d : t % 16 * (B / 16) + t / 16 < 16 * (B / 16) = digits_lt (omega arith) (omega arith) in
      rw (goes_to_row B t) (omega arith)

  pub comes_from_lt : (p : ℕ) → p < B → comes_from B p < B
  unfolding comes_from
  comes_from_lt p h = let c : p % (B / 16) < B / 16 = mod-lt p (omega arith) in omega (arith, row_lt p h)

  -- and the two maps undo each other
  pub comes_from_goes_to : (t : ℕ) → t < B → comes_from B (goes_to B t) ≡ t
  comes_from_goes_to t h = ap (comes_from B) (goes_to_row B t) ∙ comes_from_row B (t % 16) (t / 16) (omega arith) ∙ omega arith

  pub goes_to_comes_from : (p : ℕ) → p < B → goes_to B (comes_from B p) ≡ p
  unfolding comes_from
  goes_to_comes_from p h =
      let u : (16 * (p % (B / 16)) + p / (B / 16)) / 16 ≡ p % (B / 16) = omega (arith, row_lt p h) in
      let l : (16 * (p % (B / 16)) + p / (B / 16)) % 16 ≡ p / (B / 16) = omega (arith, row_lt p h) in
      goes_to_row B _ ∙ rw (u, l) (div-add-mod' p (B / 16))
