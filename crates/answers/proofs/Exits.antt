-- What a call owes at each of its exits, once for all calls: the tests in order, each by what is known at the exit.
-- Assumes nothing.
use mathlib.Core.Bool.{Bool, true, false, cond}
use mathlib.Core.List.{List, flatten}
use mathlib.Core.Path.{◌≡◌, refl, sym, ap, ◌∙◌, subst}
use Prim.Native.Nat.{ℕ, ◌≤◌, ◌<◌}
use native.Mathlib.Omega.{arith}
use lib.Dec.{ltb}
use lib.ListN.{length}
use borrow.Author.Tests.{lt-ltb, le-ltb}
use Rattle.std.proofs.Common.{Option, Some, None, Ok, Err, position}
use Rattle.lists.specs.First.{first_through}
use Rattle.residue.specs.Large.{too_large}
use Rattle.answers.specs.declared.Refusal.TheVariants.{UnknownSet, WrongLength, TooLarge}
use Rattle.answers.specs.declared.Parameters.{Parameters}
use Rattle.answers.specs.Answers.{Answer, number_of, place_of}
use Rattle.answers.specs.Replies.{Reply, reply, Outcome}
use Rattle.answers.specs.Sets.{set_of, for_set}
use Rattle.answers.specs.Tests.{in_order, at_first, in_range}
use Rattle.lists.proofs.FirstLaws.{position_some, position_none}

-- what is so of the set that is known
pub for_known : {A : Type 0} (set : ℕ) (s : Parameters) (other : A) (f : Parameters → A) → set_of set ≡ Some s → for_set (set_of set) other f ≡ f s
unfolding for_set
for_known set s other f e = ap (λ c. for_set c other f) e

-- ---- what the definition answers

module _ (set : ℕ) (fits : Parameters → Bool) (rest : Parameters → Reply) (s : Parameters) (e : set_of set ≡ Some s) where
  tests : in_order set fits rest ≡ cond (fits s) (rest s) (reply 2 0)
  unfolding in_order
  tests = for_known set s (reply 1 0) (λ p. cond (fits p) (rest p) (reply 2 0)) e

  -- where the lengths are right, what the call itself finds
  pub in_order_lem : fits s ≡ true → in_order set fits rest ≡ rest s
  in_order_lem f = tests ∙ ap (λ b. cond b (rest s) (reply 2 0)) f

-- where a test of numbers holds nowhere, the rest
pub none_found : (number : ℕ) (bad : ℕ → Bool) (inputs : List (List ℕ)) (rest : Reply) → length (flatten inputs) ≤ first_through bad inputs
    → at_first number bad inputs rest ≡ rest
unfolding at_first
none_found number bad inputs rest h = simp (le-ltb (first_through bad inputs) (length (flatten inputs)) h)

pub clear : (inputs : List (List ℕ)) (rest : Reply) → length (flatten inputs) ≤ first_through too_large inputs → in_range inputs rest ≡ rest
unfolding in_range
clear = none_found 3 too_large

-- ---- what the search through the inputs tells of the first place

module _ (bad : ℕ → Bool) (inputs : List (List ℕ)) where
  pub somewhere : (at : ℕ) → Some at ≡ position bad (flatten inputs) → (at ≡ first_through bad inputs) × (at < length (flatten inputs))
  unfolding first_through
  somewhere at e = let t = position_some bad (flatten inputs) at (sym e) in (sym t.0, t.1)

  pub nowhere : None ≡ position bad (flatten inputs) → length (flatten inputs) ≤ first_through bad inputs
  unfolding first_through
  nowhere e = omega (arith, position_none bad (flatten inputs) (sym e))

-- ---- so what is owed at each exit

module _ (Holds : Reply → Type 0) where
  -- 0
  pub done : Holds (reply 0 0) → Outcome (reply 0 0) (Ok tt) Holds
  done h = record { number = refl; place = refl; content = h }

  module _ (set : ℕ) (fits : Parameters → Bool) (rest : Parameters → Reply) where
    abbrev Owed : Answer → Type 0
    Owed r = Outcome (in_order set fits rest) r Holds

    -- 1 where the set is unknown
    pub unknown_set_lem : set_of set ≡ None → Holds (reply 1 0) → Owed (Err UnknownSet)
    unfolding in_order for_set
    unknown_set_lem e h =
        subst (λ R. Outcome R (Err UnknownSet) Holds) (sym (ap (λ c. for_set c (reply 1 0) (λ s. cond (fits s) (rest s) (reply 2 0))) e))
        (record { number = refl; place = refl; content = h })

    -- the same by what the call's own look at the set finds
    pub unknown_exit : {o : Option Parameters} {r : Answer} → r ≡ Err UnknownSet → o ≡ set_of set → o ≡ None → Holds (reply 1 0) → Owed r
    unknown_exit refused made none h = rw refused (unknown_set_lem (sym made ∙ none) h)

    module _ (s : Parameters) (e : set_of set ≡ Some s) where
      -- 2 where a length is wrong
      pub wrong_length_lem : fits s ≡ false → Holds (reply 2 0) → Owed (Err WrongLength)
      wrong_length_lem f h =
          subst (λ R. Outcome R (Err WrongLength) Holds) (sym (tests set fits rest s e ∙ ap (λ b. cond b (rest s) (reply 2 0)) f))
          (record { number = refl; place = refl; content = h })

      -- otherwise what the call itself finds
      pub right_lengths : fits s ≡ true → (r : Answer) → Outcome (rest s) r Holds → Owed r
      right_lengths f r = subst (λ R. Outcome R r Holds) (sym (in_order_lem set fits rest s e f))

  module _ (number : ℕ) (bad : ℕ → Bool) (inputs : List (List ℕ)) (rest : Reply) where
    -- 3, 4 or 5 at the first place where the test holds
    pub found : (r : Answer) (at : ℕ) → number_of r ≡ number → place_of r ≡ at → at ≡ first_through bad inputs → at < length (flatten inputs)
        → Holds (reply number at) → Outcome (at_first number bad inputs rest) r Holds
    unfolding at_first
    found r at en ep e h x =
        subst (λ R. Outcome R r Holds)
        (sym (ap (λ k. cond (ltb k (length (flatten inputs))) (reply number k) rest) (sym e)
        ∙ ap (λ b. cond b (reply number at) rest) (lt-ltb at (length (flatten inputs)) h)))
        (record { number = en; place = ep; content = x })

    -- otherwise the rest
    pub not_found : length (flatten inputs) ≤ first_through bad inputs → (r : Answer) → Outcome rest r Holds → Outcome (at_first number bad inputs rest) r Holds
    not_found h r = subst (λ R. Outcome R r Holds) (sym (none_found number bad inputs rest h))

    -- the same by the search through the inputs
    pub found_at : (r : Answer) (at : ℕ) → number_of r ≡ number → place_of r ≡ at → Some at ≡ position bad (flatten inputs)
        → Holds (reply number at) → Outcome (at_first number bad inputs rest) r Holds
    found_at r at en ep e = let t = somewhere bad inputs at e in found r at en ep t.0 t.1

    pub found_nowhere : None ≡ position bad (flatten inputs) → (r : Answer) → Outcome rest r Holds → Outcome (at_first number bad inputs rest) r Holds
    found_nowhere e = not_found (nowhere bad inputs e)

  module _ (inputs : List (List ℕ)) (rest : Reply) where
    -- 3 at the first number above 3456
    pub too_large_lem : (at : ℕ) → at ≡ first_through too_large inputs → at < length (flatten inputs) → Holds (reply 3 at)
        → Outcome (in_range inputs rest) (Err (TooLarge at)) Holds
    unfolding in_range
    too_large_lem at = found 3 too_large inputs rest (Err (TooLarge at)) at refl refl

    -- otherwise the rest
    pub in_range_lem : length (flatten inputs) ≤ first_through too_large inputs → (r : Answer) → Outcome rest r Holds → Outcome (in_range inputs rest) r Holds
    unfolding in_range
    in_range_lem = not_found 3 too_large inputs rest

    -- the same by the search through the inputs
    pub too_large_at : (at : ℕ) → Some at ≡ position too_large (flatten inputs) → Holds (reply 3 at) → Outcome (in_range inputs rest) (Err (TooLarge at)) Holds
    too_large_at at e = let t = somewhere too_large inputs at e in too_large_lem at t.0 t.1

    pub too_large_nowhere : None ≡ position too_large (flatten inputs) → (r : Answer) → Outcome rest r Holds → Outcome (in_range inputs rest) r Holds
    too_large_nowhere e = in_range_lem (nowhere too_large inputs e)
