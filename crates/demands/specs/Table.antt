-- Document 01's table of the numbers that a call can answer: the rows that several calls have. A theorem lists its call's rows.
-- Assumes nothing: these are definitions.
use mathlib.Core.List.{List, [], ◌∷◌, flatten}
use Rattle.std.specs.Prelude.{◌≢◌, ◌≡◌, ℕ, ◌<◌, length}
use Rattle.demands.specs.Exactly.{Row, Some, First}

-- "| 1 | set is not 576 or 1152 | 0 |"
abbrev pub unknown_set : ℕ → Row
unknown_set set = record { number = 1; when = (set ≢ 576) × (set ≢ 1152); place = λ p. p ≡ 0 }

-- lent buffers, each beside its exact length: they all have it
unfoldable pub Right : List (List ℕ × ℕ) → Type 0
Right [] = Unit
Right (b ∷ bs) = (length b.0 ≡ b.1) × Right bs

-- "| 2 | some lent buffer hasn't its exact length | 0 |"
abbrev pub wrong_length : List (List ℕ × ℕ) → Row
wrong_length buffers = record { number = 2; when = ¬ Right buffers; place = λ p. p ≡ 0 }

-- a number of the inputs is such: "first such, counted through the inputs as listed"
abbrev pub first_such : ℕ → (ℕ → Type 0) → List (List ℕ) → Row
first_such n P inputs = record { number = n; when = Some P (flatten inputs); place = First P (flatten inputs) }

-- "| 3 | a list number or packed group is above 3456 | first such, counted through the inputs as listed |"
abbrev pub large_number : List (List ℕ) → Row
large_number inputs = first_such 3 (λ x. 3456 < x) inputs
