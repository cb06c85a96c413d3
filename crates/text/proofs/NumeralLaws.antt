-- The laws of numbers in text: the sum of their digits, what the tests say, and that a number is below 100000.
-- Assumes nothing.
use mathlib.Core.Path.{◌≡◌, refl, ap, subst}
use mathlib.Core.Bool.{Bool, true, false, not, cond}
use mathlib.Core.List.{List, [], ◌∷◌, ◌++◌}
use Prim.Native.Nat.{ℕ, zero, suc, ◌+◌, ◌-◌, ◌*◌, ◌^◌, ◌≤◌, ◌<◌}
use native.Mathlib.Nat.{pow-succ', pow-le-pow_right, lt_of_lt_of_le}
use native.Mathlib.Numerals.{add-one}
use native.Mathlib.Omega.{arith}
use lib.Dec.{leb, eqb}
use lib.ListN.{length, get_or, drop, drop_of_length-le, length-append}
use lib.Seq.{drop-cons}
use borrow.Author.Tests.{leb-true, ne_eqb}
use Rattle.std.proofs.Common.{Some, None}
use Rattle.lists.proofs.Every.{both_true}
use Rattle.text.specs.Numerals.{is_digit, all_digits, spelled, unpadded, is_number, number}

-- a digit is 48 to 57
pub digit_is : (c : ℕ) → is_digit c ≡ true → (48 ≤ c) × (c ≤ 57)
unfolding is_digit
digit_is c e = let b = both_true (leb 48 c) (leb c 57) e in (leb-true 48 c b.0, leb-true c 57 b.1)

-- ---- the sum of the digits

module _ (s : List ℕ) (i : ℕ) where
  -- at the place i, the digit there comes after those of the sum
  pub spelled_more : (sum : ℕ) → i < length s → spelled sum (drop i s) ≡ spelled (10 * sum + (get_or s i 0 - 48)) (drop (i + 1) s)
  unfolding spelled
  spelled_more sum h = rw (add-one, drop-cons s i 0) refl

  -- none is left
  pub spelled_none : (sum : ℕ) → length s ≤ i → spelled sum (drop i s) ≡ sum
  unfolding spelled
  spelled_none sum h = ap (spelled sum) (drop_of_length-le s h)

-- a digit more at the end
pub spelled_push : (s : List ℕ) (sum c : ℕ) → spelled sum (s ++ (c ∷ [])) ≡ 10 * spelled sum s + (c - 48)
unfolding spelled
spelled_push [] sum c = refl
spelled_push (d ∷ s) sum c = spelled_push s (10 * sum + (d - 48)) c

-- each byte of a run of digits is one
pub digit_at : (s : List ℕ) → all_digits s ≡ true → (i : ℕ) → i < length s → is_digit (get_or s i 0) ≡ true
digit_at [] e i h = absurd (omega arith)
digit_at (c ∷ s) e zero h = (both_true (is_digit c) (all_digits s) e).0
digit_at (c ∷ s) e (suc i) h = digit_at s (both_true (is_digit c) (all_digits s) e).1 i (omega arith)

-- one byte at most has no leading zero
pub unpadded_short : (s : List ℕ) → length s < 2 → unpadded s ≡ true
unfolding unpadded
unpadded_short [] h = refl
unpadded_short (c ∷ []) h = refl
unpadded_short (c ∷ d ∷ s) h = absurd (omega arith)

-- of more the first tells
pub unpadded_long : (s : List ℕ) → 2 ≤ length s → unpadded s ≡ not (eqb (get_or s 0 0) 48)
unfolding unpadded
unpadded_long s h = simp (ne_eqb (length s) 1 (λ e. omega arith))

-- ---- numbers

module _ (s : List ℕ) where
  -- what passes the test, and what doesn't
  pub number_is : is_number s ≡ true → number s ≡ Some (spelled 0 s)
  unfolding number
  number_is e = simp e

  pub number_not : is_number s ≡ false → number s ≡ None
  unfolding number
  number_not e = simp e

-- what the test says, for the summing up: at most 5 bytes, each a digit
pub record IsNumber (s : List ℕ) : Type 0 where
  pub few : length s ≤ 5
  pub digits : all_digits s ≡ true

pub is_number_lem : (s : List ℕ) → is_number s ≡ true → IsNumber s
unfolding is_number
is_number_lem s e =
    let a = (both_true (leb 1 (length s)) _ e).1 in
    let b = both_true (leb (length s) 5) _ a in
    record { few = leb-true (length s) 5 b.0; digits = (both_true (all_digits s) (unpadded s) b.1).0 }

-- one digit after k makes k + 1 of them
pub power_more : (sum d k : ℕ) → sum < 10 ^ k → d ≤ 9 → 10 * sum + d < 10 ^ (k + 1)
power_more sum d k h b = rw add-one (omega (arith, pow-succ' 10 k))

-- and at most 5 of them are below 100000
pub power_few : (sum k : ℕ) → k ≤ 5 → sum < 10 ^ k → sum < 100000
power_few sum k h b = lt_of_lt_of_le b (pow-le-pow_right {n = 10} (omega arith) {i = k} {j = 5} h)

-- the digits of s after at most k others: a number of at most k + length s digits
spelled_below : (s : List ℕ) (sum k : ℕ) → all_digits s ≡ true → sum < 10 ^ k → spelled sum s < 10 ^ (k + length s)
unfolding spelled
spelled_below [] sum k e h = let z : k + 0 ≡ k = omega arith in rw z h
spelled_below (c ∷ s) sum k e h =
    let b = both_true (is_digit c) (all_digits s) e in
    let z : k + suc (length s) ≡ k + 1 + length s = omega arith in
    rw z (spelled_below s (10 * sum + (c - 48)) (k + 1) b.1 (power_more sum (c - 48) k h (omega (arith, digit_is c b.0))))

-- what stands before a digit of a number, and the digit
pub before_digit : {s : List ℕ} (front : List ℕ) (c : ℕ) (rest : List ℕ) → s ≡ front ++ (c ∷ rest) → is_number s ≡ true → (is_digit c ≡ true) × (spelled 0 front < 100000)
before_digit front c rest e h =
    let n = is_number_lem _ h in
    let d = by front (subst (λ l. all_digits l ≡ true) e n.digits) in
    (d.1, power_few _ (0 + length front) (omega (arith, n.few, ap length e, length-append front (c ∷ rest))) (spelled_below front 0 0 d.0 (omega arith)))
  where
    by : (front : List ℕ) → all_digits (front ++ (c ∷ rest)) ≡ true → (all_digits front ≡ true) × (is_digit c ≡ true)
    by [] e = (refl, (both_true (is_digit c) (all_digits rest) e).0)
    by (x ∷ front) e =
        let b = both_true (is_digit x) (all_digits (front ++ (c ∷ rest))) e in
        let more = by front b.1 in
        (simp (b.0, more.0), more.1)

-- a number is below 100000
pub number_bound : (s : List ℕ) (v : ℕ) → number s ≡ Some v → v < 100000
unfolding number
number_bound s v = by (is_number s) refl
  where
    by : (b : Bool) → is_number s ≡ b → cond b (Some (spelled 0 s)) None ≡ Some v → v < 100000
    by true e q =
        let same : spelled 0 s ≡ v = cc in
        let n = is_number_lem s e in
        subst (λ x. x < 100000) same (power_few _ (0 + length s) (omega (arith, n.few)) (spelled_below s 0 0 n.digits (omega arith)))
    by false e q = let z : ◌≡◌ {A = ℕ} 0 1 = cc in absurd (omega arith)
