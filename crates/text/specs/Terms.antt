-- Terms in text: "terms `index:value` joined by commas, indices strictly rising, below n, values 1..3456".
-- Assumes nothing: these are definitions.
use Rattle.std.specs.Prelude.{Bool, ◌&&◌, cond, List, [], ◌∷◌, ℕ, suc, leb, ltb, set, Option, Some, None}
use Rattle.text.specs.Numerals.{number}
use Rattle.text.specs.Lines.{colon, up_to, past}

-- an index and a value, if both are numbers
unfoldable pub term_of : Option ℕ → Option ℕ → Option (ℕ × ℕ)
term_of (Some i) (Some v) = Some (i, v)
term_of (Some i) None = None
term_of None (Some v) = None
term_of None None = None

-- "terms `index:value`"
unfoldable pub term : List ℕ → Option (ℕ × ℕ)
term s = term_of (number (up_to colon s)) (number (past colon s))

-- "indices strictly rising, below n, values 1..3456"
unfoldable pub allowed : ℕ → ℕ → ℕ → ℕ → Bool
allowed n low i v = leb low i && (ltb i n && (leb 1 v && leb v 3456))

-- a term into l, and then what comes next
unfoldable pub on_term : (ℕ → List ℕ → Option (List ℕ)) → ℕ → ℕ → List ℕ → Option (ℕ × ℕ) → Option (List ℕ)
on_term next n low l None = None
on_term next n low l (Some (i, v)) = cond (allowed n low i v) (next (suc i) (set l i v)) None

-- the terms into l, one after the other; each index is above the last
unfoldable pub terms : ℕ → ℕ → List ℕ → List (List ℕ) → Option (List ℕ)
terms n low l [] = Some l
terms n low l (t ∷ ts) = on_term (λ low' l'. terms n low' l' ts) n low l (term t)
