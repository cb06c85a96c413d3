-- What an input comes to: a refusal, or a set and a product.
-- Assumes nothing: these are definitions.
use Rattle.std.specs.Prelude.{List, ◌≡◌, ℕ, ◌≤◌, length, take, Err}
use Rattle.answers.specs.declared.Refusal.{Refusal}
use Rattle.answers.specs.Answers.{number_of, place_of}
use Rattle.lines.specs.Output.{answer_lines, product_lines}
use Rattle.line.specs.Line.{printed}

-- the refusal is what is printed, and its place is at most 4
pub record Refused (input : List ℕ) (refusal : Refusal) : Type 0 where
  pub said : printed input ≡ answer_lines (number_of (Err refusal)) (place_of (Err refusal))
  pub place : place_of (Err refusal) ≤ 4

-- what is printed are the lines of the product, the first numbers of the list, as many as the set says; and there is room for them
pub record Multiplied (input list : List ℕ) (set : ℕ) : Type 0 where
  pub said : printed input ≡ product_lines set (take set list)
  pub small : set ≤ 1152
  pub fits : length (product_lines set (take set list)) ≤ 16384
