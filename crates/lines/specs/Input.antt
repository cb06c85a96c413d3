-- What the first line of a text says: "three lines, each ended by LF", each with its name.
-- Assumes nothing: these are definitions.
use Rattle.std.specs.Prelude.{Bool, ◌&&◌, cond, List, ℕ, eqb, ltb, length, drop, Option, Some, None}
use Rattle.lists.specs.First.{first_where}
use Rattle.text.specs.Lines.{lf, up_to, begins}
use Rattle.text.specs.Numerals.{number}
use Rattle.text.specs.Polynomials.{polynomial}
use Rattle.lines.specs.Names.{set_name}

-- an LF ends the first line, and it begins with the name
unfoldable pub is_line : List ℕ → List ℕ → Bool
is_line name s = ltb (first_where (eqb lf) s) (length s) && begins name (up_to lf s)

-- what stands after the name
unfoldable pub body : List ℕ → List ℕ → List ℕ
body name s = drop (length name) (up_to lf s)

-- "The set is a decimal of 1 to 5 digits"
unfoldable pub set_in : List ℕ → Option ℕ
set_in s = cond (is_line set_name s) (number (body set_name s)) None

-- the polynomial that the line gives, of n coefficients
unfoldable pub polynomial_in : List ℕ → ℕ → List ℕ → Option (List ℕ)
polynomial_in name n s = cond (is_line name s) (polynomial n (body name s)) None

-- what is so of the number, or what stands in for it
unfoldable pub for_number : {A : Type 0} → Option ℕ → A → (ℕ → A) → A
for_number None other f = other
for_number (Some v) other f = f v
