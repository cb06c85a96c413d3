-- What an exported call owes, where the answer goes as two numbers and a part of a lent buffer as its start and its length.
-- Assumes nothing: these are definitions.
use Rattle.std.specs.Prelude.{List, ◌≡◌, ℕ, length, take, drop}
use Rattle.answers.specs.Answers.{Answer}
use Rattle.answers.specs.Answers.{number_of, place_of}
use Rattle.calls_halves.specs.Halves.{further}

-- "An answer is a number and a place.": those of an answer with which the call keeps its promise
pub record Exported (Kept : Answer → Type 0) (number place : ℕ) : Type 0 where
  pub answer : Answer
  pub kept : Kept answer
  pub number_is : number ≡ number_of answer
  pub place_is : place ≡ place_of answer

-- a part of the buffer that holds `key` and stands at `place`: the bytes that the call's promise has, at the place that it has
pub record PartOf (key : List ℕ) (place : ℕ × ℕ) (Kept : List ℕ → ℕ × ℕ → Type 0) (start size : ℕ) : Type 0 where
  pub kept : Kept (take size (drop start key)) (further place start)
  pub within : length (take size (drop start key)) ≡ size
