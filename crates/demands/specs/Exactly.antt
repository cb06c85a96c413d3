-- "given exactly when": what a table of numbers says of an answer, its rows tested in order; and where numbers of a list are such or such.
-- Assumes nothing: these are definitions.
use Rattle.std.specs.Prelude.{List, [], ◌∷◌, ◌≡◌, ℕ, ◌<◌, length, get_or}
use Rattle.answers.specs.Replies.{Reply}

-- "| no. | given exactly when | place |"; of the place, what is so of it
pub record Row : Type 1 where
  pub number : ℕ
  pub when : Type 0
  pub place : ℕ → Type 0

-- "test in the order of the numbers": a row's number is answered exactly when its condition holds and none above it does; "0", "done" after all
unfoldable pub Exactly : List Row → Reply → Type 0
Exactly [] R = (R.number ≡ 0) × (R.place ≡ 0)
Exactly (row ∷ rows) R =
    (R.number ≡ row.number → row.when)
    × (row.when → (R.number ≡ row.number) × row.place R.place)
    × (¬ row.when → Exactly rows R)

-- a number of the list is such
unfoldable pub Some : (ℕ → Type 0) → List ℕ → Type 0
Some P l = (i : ℕ) × (i < length l) × P (get_or l i 0)

-- "first such": the number at the place p is, and none before it
unfoldable pub First : (ℕ → Type 0) → List ℕ → ℕ → Type 0
First P l p = (p < length l) × P (get_or l p 0) × ((i : ℕ) → i < p → ¬ P (get_or l i 0))
