-- A polynomial in text: terms "joined by commas"; "no terms means zero"; and what its reader owes.
-- Assumes nothing: these are definitions.
use Rattle.std.specs.Prelude.{◌≡◌, Bool, true, false, cond, List, ℕ, eqb, length, Option, Some, None}
use Rattle.lists.specs.Tab.{tab}
use Rattle.text.specs.Lines.{comma, split}
use Rattle.text.specs.Terms.{terms}

-- the polynomial zero
unfoldable pub zeros : ℕ → List ℕ
zeros n = tab n (λ _. 0)

-- "joined by commas"; "no terms means zero"
unfoldable pub polynomial : ℕ → List ℕ → Option (List ℕ)
polynomial n s = cond (eqb (length s) 0) (Some (zeros n)) (terms n 0 (zeros n) (split comma s))

-- what the reader of a polynomial owes: whether there is one, and then the list
unfoldable pub Reads : Bool → List ℕ → Option (List ℕ) → Type 0
Reads good after None = good ≡ false
Reads good after (Some l) = (good ≡ true) × (after ≡ l)
