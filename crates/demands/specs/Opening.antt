-- An opening: the three stages in turn, by calls that met their promises.
-- Assumes nothing: this is a definition.
use Rattle.std.specs.Prelude.{List, ◌≡◌, ℕ, ◌*◌, ◌/◌, length}
use Rattle.answers.specs.Answers.{Answer}
use Rattle.calls_open_1.specs.OpenOne.{OpenOne}
use Rattle.calls_open_2.specs.OpenTwo.{OpenTwo}
use Rattle.calls_open_3.specs.OpenThree.{OpenThree}

-- "opening with the same hash blocks": the three stages in turn, each lent what the one before wrote, with buffers of the right lengths
pub record Opening (set : ℕ) (private cipher hblock gblock message key : List ℕ) : Type 0 where
  pub marks₀ : List ℕ
  pub image₀ : List ℕ
  pub message₀ : List ℕ
  pub key₀ : List ℕ
  pub marks : List ℕ
  pub image : List ℕ
  pub first : Answer
  pub second : Answer
  pub third : Answer
  pub rooms : (length marks₀ ≡ set) × (length image₀ ≡ 3 * set / 2) × (length message₀ ≡ set / 8) × (length key₀ ≡ 32)
  pub one : OpenOne set private cipher marks₀ image₀ first marks image
  pub two : OpenTwo set marks gblock message₀ second message
  pub three : OpenThree set image hblock key₀ third key
