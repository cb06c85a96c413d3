-- A text written into a lent buffer, and what a function that prints owes.
-- Assumes nothing: these are definitions.
use Rattle.std.specs.Prelude.{◌≡◌, List, ◌++◌, ℕ, ◌+◌, length, take, drop}

-- a buffer after a text has been written into it from a place on: nothing else changed
unfoldable pub write : List ℕ → ℕ → List ℕ → List ℕ
write before at text = take at before ++ (text ++ drop (at + length text) before)

-- what a printing function owes: the buffer, and the place after the text
pub record Writes (before : List ℕ) (at : ℕ) (text after : List ℕ) (r : ℕ) : Type 0 where
  pub content : after ≡ write before at text
  pub end : r ≡ at + length text
