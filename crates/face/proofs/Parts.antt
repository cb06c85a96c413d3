-- A half that is handed back, found in the key again by its length: the first half begins at 0, the second one at its own length.
-- Assumes nothing.
use mathlib.Core.Bool.{Bool, true, false, cond, false≢true}
use mathlib.Core.List.{List, []}
use mathlib.Core.Path.{◌≡◌, refl, sym, ap, ◌∙◌}
use Prim.Native.Nat.{ℕ, ◌+◌, ◌/◌}
use native.Mathlib.Omega.{arith}
use lib.Dec.{eqb}
use lib.ListN.{length, take, drop, length-drop}
use lib.Seq.{length-take-le, take-length}
use borrow.Author.Tests.{eqb-true}
use Rattle.small.specs.Sampling.{first_half, second_half}
use Rattle.std.specs.Prelude.{Option, Some, None}
use Rattle.answers.specs.declared.Parameters.{Parameters}
use Rattle.answers.specs.Sets.{set_of, for_set}
use Rattle.calls_halves.specs.Halves.{handed, further}
use Rattle.answers.proofs.SetLaws.{known_set}

-- a key whose halves are handed back has an even length: 3n = 3n/2 + 3n/2
even : (set : ℕ) (key : List ℕ) → handed set key ≡ true → length key ≡ length key / 2 + length key / 2
unfolding handed for_set
even set key = by (set_of set) refl
  where
    by : (c : Option Parameters) → set_of set ≡ c → for_set c false (λ s. eqb (length key) s.private) ≡ true → length key ≡ length key / 2 + length key / 2
    by None e h = absurd (false≢true h)
    by (Some s) e h = omega (arith, eqb-true (length key) s.private h, (known_set set s e).private)

-- no bytes further on
pub no_further : (place : ℕ × ℕ) → further place 0 ≡ place
unfolding further
no_further place = ap (λ k. (place.0, k)) (omega arith)

module _ (set : ℕ) (key part : List ℕ) where
  pub first_part : part ≡ cond (handed set key) (first_half key) [] → take (length part) key ≡ part
  unfolding first_half
  first_part = by (handed set key)
    where
      by : (b : Bool) → part ≡ cond b (take (length key / 2) key) [] → take (length part) key ≡ part
      by true e = ap (λ k. take k key) (ap length e ∙ length-take-le (length key / 2) key (omega arith)) ∙ sym e
      by false e = ap (λ p. take (length p) key) e ∙ sym e

  module _ (e : part ≡ cond (handed set key) (second_half key) []) where
    pub second_start : length part ≡ cond (handed set key) (length key / 2) 0
    unfolding second_half
    second_start = by (handed set key) refl e
      where
        by : (b : Bool) → handed set key ≡ b → part ≡ cond b (drop (length key / 2) key) [] → length part ≡ cond b (length key / 2) 0
        by true h p = ap length p ∙ length-drop (length key / 2) key ∙ omega (arith, even set key h)
        by false h p = ap length p

    pub second_part : take (length part) (drop (length part) key) ≡ part
    unfolding second_half
    second_part = by (handed set key) e second_start
      where
        by : (b : Bool) → part ≡ cond b (drop (length key / 2) key) [] → length part ≡ cond b (length key / 2) 0
            → take (length part) (drop (length part) key) ≡ part
        by true p l = ap (λ k. take (length part) (drop k key)) l ∙ ap (take (length part)) (sym p) ∙ take-length part
        by false p l = ap (λ q. take (length q) (drop (length q) key)) p ∙ sym p
