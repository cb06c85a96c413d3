-- What the definition of a call answers, what the call leaves in a buffer, and what it owes.
-- Assumes nothing: these are definitions.
use Rattle.std.specs.Prelude.{cond, List, ◌≡◌, ℕ, eqb}
use Rattle.answers.specs.Answers.{Answer, number_of, place_of}

-- "An answer is a number and a place."
pub record Reply : Type 0 where
  pub number : ℕ
  pub place : ℕ

abbrev pub reply : ℕ → ℕ → Reply
reply n p = record { number = n; place = p }

-- "Every refusal keeps all output buffers as they stood.": a buffer after the call, by its result and by what it held before
unfoldable pub leaves : Reply → List ℕ → List ℕ → List ℕ
leaves r result before = cond (eqb r.number 0) result before

-- what a call owes whose definition answers R: the case r has R's number and place, and the buffers hold what they hold where R is answered
pub record Outcome (R : Reply) (r : Answer) (Holds : Reply → Type 0) : Type 0 where
  pub number : number_of r ≡ R.number
  pub place : place_of r ≡ R.place
  pub content : Holds R
