-- Where the first line has named a set.
-- Assumes nothing: this is a definition.
use Rattle.std.specs.Prelude.{List, ◌≡◌, ℕ, ◌≤◌, length, Some}
use Rattle.answers.specs.declared.Parameters.{Parameters}
use Rattle.answers.specs.Sets.{set_of}
use Rattle.lines.specs.Input.{set_in}

-- the input is not too long, its first line names a set, and the set is known and has n numbers
pub record Chosen (input : List ℕ) (set n : ℕ) : Type 0 where
  pub parameters : Parameters
  pub short : length input ≤ 32768
  pub first : set_in input ≡ Some set
  pub known : set_of set ≡ Some parameters
  pub size : parameters.n ≡ n
