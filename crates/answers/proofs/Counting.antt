-- What `through` counts: the first place at which a test holds, in a list and in those that follow it.
-- Assumes nothing.
use mathlib.Core.Bool.{Bool}
use mathlib.Core.List.{List, [], ◌∷◌, flatten, append-nil}
use mathlib.Core.Path.{◌≡◌, refl, sym, ap, ap₂, ◌∙◌}
use Prim.Native.Nat.{ℕ, ◌+◌, ◌≤◌, ◌<◌}
use native.Mathlib.Decide.{dec_lt}
use native.Mathlib.Omega.{arith}
use lib.ListN.{length}
use Rattle.std.proofs.Common.{Option, Some, None, position, option_map, IfSome}
use Rattle.std.specs.Option.{option_or}
use Rattle.lists.specs.First.{first_where, first_through}
use Rattle.lists.proofs.FirstLaws.{length_through, position_here, position_nowhere, position_some, through_here, through_past}

module _ (bad : ℕ → Bool) where
  -- the search through one list is the search in it
  pub counted_one : (l : List ℕ) {at : Option ℕ} → at ≡ position bad l → at ≡ position bad (flatten (l ∷ []))
  unfolding flatten
  counted_one l e = e ∙ sym (ap (position bad) (append-nil l))

  -- what `through` asks: a place of the rest, counted on after n
  pub counts_on : (l : List ℕ) (n : ℕ) {rest : Option ℕ} → rest ≡ position bad l → n + length l ≤ 65536 → IfSome rest (λ at. n + at < 65536)
  counts_on l n {rest} e h = by rest e
    where
      by : (o : Option ℕ) → o ≡ position bad l → IfSome o (λ at. n + at < 65536)
      by (Some at) e = omega (arith, (position_some bad l at (sym e)).1)
      by None e = tt

  -- by whether a place is found in the list, and whether in those that follow
  through_list : (l : List ℕ) (ls : List (List ℕ))
      → option_or (position bad l) (option_map (λ i. length l + i) (position bad (flatten ls))) ≡ position bad (flatten (l ∷ ls))
  unfolding first_through
  through_list l ls = by (dec_lt (first_where bad l) (length l)) (dec_lt (first_where bad (flatten ls)) (length (flatten ls)))
    where
      both : {first rest : Option ℕ} → position bad l ≡ first → position bad (flatten ls) ≡ rest
          → position bad (flatten (l ∷ ls)) ≡ option_or first (option_map (λ i. length l + i) rest)
          → option_or (position bad l) (option_map (λ i. length l + i) (position bad (flatten ls))) ≡ position bad (flatten (l ∷ ls))
      both f r e = ap₂ (λ f r. option_or f (option_map (λ i. length l + i) r)) f r ∙ sym e

      by : Dec (first_where bad l < length l) → Dec (first_where bad (flatten ls) < length (flatten ls))
          → option_or (position bad l) (option_map (λ i. length l + i) (position bad (flatten ls))) ≡ position bad (flatten (l ∷ ls))
      by (yes a) b =
          let here = through_here bad l ls a in
          both (position_here bad l a) refl (position_here bad (flatten (l ∷ ls)) (omega (arith, here, length_through l ls)) ∙ ap Some here)
      by (no a) (yes b) =
          let past = through_past bad l ls (omega (arith, a)) in
          both (position_nowhere bad l (omega (arith, a))) (position_here bad (flatten ls) b)
          (position_here bad (flatten (l ∷ ls)) (omega (arith, past, length_through l ls, b)) ∙ ap Some past)
      by (no a) (no b) =
          let past = through_past bad l ls (omega (arith, a)) in
          both (position_nowhere bad l (omega (arith, a))) (position_nowhere bad (flatten ls) (omega (arith, b)))
          (position_nowhere bad (flatten (l ∷ ls)) (omega (arith, past, length_through l ls, b)))

  -- what `through` gives is the search through the list and those that follow it
  pub counted : (l : List ℕ) (ls : List (List ℕ)) {n : ℕ} {first rest at : Option ℕ}
      → length l ≡ n → first ≡ position bad l → rest ≡ position bad (flatten ls)
      → at ≡ option_or first (option_map (λ i. n + i) rest) → at ≡ position bad (flatten (l ∷ ls))
  counted l ls en ef er e = e ∙ rw (← en, ef, er) (through_list l ls)
