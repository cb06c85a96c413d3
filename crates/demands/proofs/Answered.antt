-- What an answer 0 says: the set is known, the lengths are right, no test of numbers held, and each buffer holds its result.
-- Assumes nothing.
use mathlib.Core.Bool.{Bool, true, false, cond}
use mathlib.Core.List.{List, flatten}
use mathlib.Core.Logic.{◌≢◌}
use mathlib.Core.Path.{◌≡◌, refl, ap, ◌∙◌, subst}
use Prim.Native.Nat.{ℕ, ◌≤◌}
use native.Mathlib.Decide.{dec_le}
use native.Mathlib.Omega.{arith}
use lib.ListN.{length}
use borrow.Author.Tests.{eq-eqb, lt-ltb}
use Rattle.lists.specs.First.{first_through}
use Rattle.answers.specs.Answers.{Answer}
use Rattle.answers.specs.declared.Parameters.{Parameters}
use Rattle.std.specs.Prelude.{Option, Some, None}
use Rattle.answers.specs.Answers.{number_of}
use Rattle.answers.specs.Replies.{Reply, reply, leaves, Outcome}
use Rattle.answers.specs.Sets.{set_of, for_set}
use Rattle.answers.specs.Tests.{in_order, at_first}

-- ---- where 0 is answered

-- a buffer holds its result
pub written : (R : Reply) (result before : List ℕ) → R.number ≡ 0 → leaves R result before ≡ result
unfolding leaves
written R result before e = ap (λ b. cond b result before) (eq-eqb R.number 0 e)

module _ (set : ℕ) (fits : Parameters → Bool) (rest : Parameters → Reply) where
  right_by : (s : Parameters) (b : Bool) → fits s ≡ b → (cond b (rest s) (reply 2 0)).number ≡ 0 → (fits s ≡ true) × ((rest s).number ≡ 0)
  right_by s true e h = (e, h)
  right_by s false e h = absurd (omega (arith, h))

  -- of a known set: the lengths are right, and nothing else refuses
  pub passed : (s : Parameters) → set_of set ≡ Some s → (in_order set fits rest).number ≡ 0 → (fits s ≡ true) × ((rest s).number ≡ 0)
  unfolding in_order for_set
  passed s e h =
      right_by s (fits s) refl (subst (λ c. (for_set c (reply 1 0) (λ s. cond (fits s) (rest s) (reply 2 0))).number ≡ 0) e h)

  -- and the set is known
  known_by : (c : Option Parameters) → set_of set ≡ c → (for_set c (reply 1 0) (λ s. cond (fits s) (rest s) (reply 2 0))).number ≡ 0
      → (s : Parameters) × (set_of set ≡ Some s)
  unfolding for_set
  known_by None e h = absurd (omega (arith, h))
  known_by (Some s) e h = (s, e)

  pub is_known : (in_order set fits rest).number ≡ 0 → (s : Parameters) × (set_of set ≡ Some s)
  unfolding in_order
  is_known = known_by (set_of set) refl

-- a test of numbers held nowhere
pub nowhere : (number : ℕ) (bad : ℕ → Bool) (inputs : List (List ℕ)) (rest : Reply) → number ≢ 0 → (at_first number bad inputs rest).number ≡ 0
    → length (flatten inputs) ≤ first_through bad inputs
unfolding at_first
nowhere number bad inputs rest ne h = by (dec_le (length (flatten inputs)) (first_through bad inputs))
  where
    by : Dec (length (flatten inputs) ≤ first_through bad inputs) → length (flatten inputs) ≤ first_through bad inputs
    by (yes l) = l
    by (no l) =
        absurd (ne (subst (λ b. (cond b (reply number (first_through bad inputs)) rest).number ≡ 0)
        (lt-ltb (first_through bad inputs) (length (flatten inputs)) (omega (arith, l))) h))

-- ---- and where the definition answers 0, the call does, and its buffers hold their results

pub outcome_done : {R : Reply} {r : Answer} {Holds : Reply → Type 0} → Outcome R r Holds → R ≡ reply 0 0 → (number_of r ≡ 0) × Holds (reply 0 0)
outcome_done {Holds = Holds} o e = (o.number ∙ ap (λ (R : Reply). R.number) e, subst Holds e o.content)
