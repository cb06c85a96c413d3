-- What one place of a list adds to the terms printed before it.
-- Assumes nothing: this is a definition.
use Rattle.std.specs.Prelude.{Bool, cond, List, [], ◌∷◌, ℕ, eqb}
use Rattle.print.specs.Printing.{printed_term}

-- a zero adds nothing; another number its term, with a comma in front where it is not the first
unfoldable pub printed_place : Bool → ℕ → ℕ → List ℕ
printed_place first i v = cond (eqb v 0) [] (cond first (printed_term i v) (44 ∷ printed_term i v))
