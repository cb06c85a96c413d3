-- Number and place together tell every case of an answer apart: they can be turned back into it.
-- Assumes nothing.
use mathlib.Core.Bool.{cond}
use mathlib.Core.Path.{◌≡◌, refl, sym, ap₂, ◌∙◌}
use Prim.Native.Nat.{ℕ, ◌<◌}
use lib.Dec.{eqb, lit<}
use Rattle.std.proofs.Common.{Ok, Err}
use Rattle.answers.specs.declared.Refusal.TheVariants.{UnknownSet, WrongLength, TooLarge, ZeroSlot, BadMark, Differs, Malformed}
use Rattle.answers.specs.Answers.{Answer, number_of, place_of}
use Rattle.answers.specs.Replies.{Reply, Outcome}

-- the case with this number and place: the numbers differ from one another
answer_at : ℕ → ℕ → Answer
answer_at n p =
    cond (eqb n (number_of (Ok tt))) (Ok tt)
    (cond (eqb n (number_of (Err UnknownSet))) (Err UnknownSet)
    (cond (eqb n (number_of (Err WrongLength))) (Err WrongLength)
    (cond (eqb n (number_of (Err (TooLarge p)))) (Err (TooLarge p))
    (cond (eqb n (number_of (Err (ZeroSlot p)))) (Err (ZeroSlot p))
    (cond (eqb n (number_of (Err (BadMark p)))) (Err (BadMark p))
    (cond (eqb n (number_of (Err Differs))) (Err Differs)
    (Err (Malformed p))))))))

answer_at_back : (r : Answer) → answer_at (number_of r) (place_of r) ≡ r
unfolding answer_at
answer_at_back (Ok _) = refl
answer_at_back (Err UnknownSet) = refl
answer_at_back (Err WrongLength) = refl
answer_at_back (Err (TooLarge p)) = refl
answer_at_back (Err (ZeroSlot p)) = refl
answer_at_back (Err (BadMark p)) = refl
answer_at_back (Err Differs) = refl
answer_at_back (Err (Malformed p)) = refl

-- one case at most has the number and the place of a reply
pub one_answer : {R : Reply} {r s : Answer} {Holds Holds' : Reply → Type 0} → Outcome R r Holds → Outcome R s Holds' → r ≡ s
one_answer {R} {r} {s} p q = sym (answer_at_back r) ∙ ap₂ answer_at (p.number ∙ sym q.number) (p.place ∙ sym q.place) ∙ answer_at_back s

-- document 01 has eight numbers
pub number_small : (r : Answer) → number_of r < 8
number_small (Ok _) = lit< tt
number_small (Err UnknownSet) = lit< tt
number_small (Err WrongLength) = lit< tt
number_small (Err (TooLarge p)) = lit< tt
number_small (Err (ZeroSlot p)) = lit< tt
number_small (Err (BadMark p)) = lit< tt
number_small (Err Differs) = lit< tt
number_small (Err (Malformed p)) = lit< tt
