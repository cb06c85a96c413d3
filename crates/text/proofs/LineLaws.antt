-- The laws of the pieces of a text: what stands after a name, and how a text splits at its first c.
-- Assumes nothing.
use mathlib.Core.Path.{◌≡◌, refl, sym, ap, ◌∙◌}
use mathlib.Core.Bool.{Bool, true, false, ◌&&◌, cond, false≢true}
use mathlib.Core.List.{List, [], ◌∷◌}
use Prim.Native.Nat.{ℕ, suc, ◌+◌, ◌≤◌, ◌<◌}
use native.Mathlib.Decide.{dec_lt}
use native.Mathlib.Omega.{arith}
use lib.Dec.{eqb}
use lib.ListN.{length, take, drop, drop_of_length-le}
use lib.Seq.{take_all}
use lib.Pointwise.{pointwise}
use borrow.Author.Rules.{part_to_end}
use Rattle.std.proofs.Common.{◌-◌, Option, Some, None, Bor, MatchOption, position}
use Rattle.lists.specs.First.{first_where}
use Rattle.lists.proofs.FirstLaws.{position_some, position_none}
use Rattle.text.specs.Lines.{up_to, past, begins, on_first, split}

-- ---- whether a text begins with a name

-- a text that is shorter doesn't
pub begins_short : (name s : List ℕ) → length s < length name → begins name s ≡ false
unfolding begins
begins_short [] s h = absurd (omega arith)
begins_short (c ∷ name) [] h = refl
begins_short (c ∷ name) (x ∷ s) h = by (eqb x c) (begins_short name s (omega arith))
  where
    by : (b : Bool) → begins name s ≡ false → (b && begins name s) ≡ false
    by true e = e
    by false e = refl

-- so a text that does is as long as the name
pub begins_long : (name s : List ℕ) → begins name s ≡ true → length name ≤ length s
begins_long name s e = by (dec_lt (length s) (length name))
  where
    by : Dec (length s < length name) → length name ≤ length s
    by (yes h) = absurd (false≢true (sym (begins_short name s h) ∙ e))
    by (no h) = omega arith

-- as the library's `strip_prefix` says it
begins_is : (name s : List ℕ) → pointwise eqb (take (length name) s) name ≡ begins name s
unfolding begins
begins_is [] s = refl
begins_is (c ∷ name) [] = refl
begins_is (c ∷ name) (x ∷ s) = ap (λ b. eqb x c && b) (begins_is name s)

-- what follows the name, as `strip_prefix` says it
pub after_is : (name s : List ℕ) (r : Option (Bor (List ℕ)))
    → MatchOption r (pointwise eqb (take (length name) s) name ≡ false)
    (λ x. (pointwise eqb (take (length name) s) name ≡ true) × (x.now ≡ drop (length name) s) × (length x.now + length name ≡ length s))
    → MatchOption r (begins name s ≡ false) (λ x. (begins name s ≡ true) × (x.now ≡ drop (length name) s))
after_is name s None h = sym (begins_is name s) ∙ h
after_is name s (Some x) h = (sym (begins_is name s) ∙ h.0, h.1)

-- ---- the pieces

module _ (c : ℕ) where
  -- where there is a c: the bytes before it, and then the pieces of those after it
  pub split_more : (s : List ℕ) → first_where (eqb c) s < length s → split c s ≡ up_to c s ∷ split c (past c s)
  unfolding split on_first up_to past first_where
  split_more [] h = absurd (omega arith)
  split_more (x ∷ s) h = by (eqb c x) h (split_more s)
    where
      by : (b : Bool) → cond b 0 (suc (first_where (eqb c) s)) < suc (length s)
          → (first_where (eqb c) s < length s → split c s ≡ up_to c s ∷ split c (past c s))
          → cond b ([] ∷ split c s) (on_first x (split c s))
          ≡ take (cond b 0 (suc (first_where (eqb c) s))) (x ∷ s) ∷ split c (drop (suc (cond b 0 (suc (first_where (eqb c) s)))) (x ∷ s))
      by true h r = refl
      by false h r = ap (on_first x) (r (omega arith))

  -- where there is none: all bytes are one piece
  pub split_last : (s : List ℕ) → length s ≤ first_where (eqb c) s → split c s ≡ up_to c s ∷ []
  unfolding split on_first up_to first_where
  split_last [] h = refl
  split_last (x ∷ s) h = by (eqb c x) h (split_last s)
    where
      by : (b : Bool) → suc (length s) ≤ cond b 0 (suc (first_where (eqb c) s))
          → (length s ≤ first_where (eqb c) s → split c s ≡ up_to c s ∷ [])
          → cond b ([] ∷ split c s) (on_first x (split c s)) ≡ take (cond b 0 (suc (first_where (eqb c) s))) (x ∷ s) ∷ []
      by true h r = absurd (omega arith)
      by false h r = ap (on_first x) (r (omega arith))

  -- in either case the first piece is the bytes before the first c
  pub split_first : (s : List ℕ) → split c s ≡ up_to c s ∷ drop 1 (split c s)
  split_first s = by (dec_lt (first_where (eqb c) s) (length s))
    where
      by : Dec (first_where (eqb c) s < length s) → split c s ≡ up_to c s ∷ drop 1 (split c s)
      by (yes h) = let e = split_more s h in e ∙ ap (λ ps. up_to c s ∷ drop 1 ps) (sym e)
      by (no h) = let e = split_last s (omega arith) in e ∙ ap (λ ps. up_to c s ∷ drop 1 ps) (sym e)

-- ---- the pieces by the place of the first c, as a search for it answers

module _ (c : ℕ) (s : List ℕ) where
  pub up_to_found : {i : ℕ} → Some i ≡ position (eqb c) s → take i s ≡ up_to c s
  unfolding up_to
  up_to_found {i} e = ap (λ k. take k s) (sym (position_some (eqb c) s i (sym e)).0)

  pub up_to_none : None ≡ position (eqb c) s → s ≡ up_to c s
  unfolding up_to
  up_to_none e = sym (take_all (first_where (eqb c) s) s (omega (arith, position_none (eqb c) s (sym e))))

  pub past_found : {i : ℕ} → Some i ≡ position (eqb c) s → take (length s - (i + 1)) (drop (i + 1) s) ≡ past c s
  unfolding past
  past_found {i} e =
      let place : i + 1 ≡ suc (first_where (eqb c) s) = omega (arith, (position_some (eqb c) s i (sym e)).0) in
      part_to_end s (i + 1) ∙ ap (λ k. drop k s) place

  pub past_none : None ≡ position (eqb c) s → [] ≡ past c s
  unfolding past
  past_none e =
      let place : length s ≤ suc (first_where (eqb c) s) = omega (arith, position_none (eqb c) s (sym e)) in
      sym (drop_of_length-le s place)
