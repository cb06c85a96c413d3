-- The pieces of a text: "three lines, each ended by LF", terms "joined by commas".
-- Assumes nothing: these are definitions.
use Rattle.std.specs.Prelude.{Bool, true, false, ◌&&◌, cond, List, [], ◌∷◌, ℕ, suc, eqb, take, drop}
use Rattle.lists.specs.First.{first_where}

abbrev pub lf : ℕ
lf = 10

abbrev pub comma : ℕ
comma = 44

abbrev pub colon : ℕ
colon = 58

-- the bytes before the first c, all where there is none; the bytes after it, none where there is none
unfoldable pub up_to : ℕ → List ℕ → List ℕ
up_to c s = take (first_where (eqb c) s) s

unfoldable pub past : ℕ → List ℕ → List ℕ
past c s = drop (suc (first_where (eqb c) s)) s

-- whether the text begins with the name
unfoldable pub begins : List ℕ → List ℕ → Bool
begins [] s = true
begins (c ∷ name) [] = false
begins (c ∷ name) (x ∷ s) = eqb x c && begins name s

-- x in front of the first piece
unfoldable pub on_first : ℕ → List (List ℕ) → List (List ℕ)
on_first x [] = []
on_first x (p ∷ ps) = (x ∷ p) ∷ ps

-- the pieces between one c and the next: one more than there are c's
unfoldable pub split : ℕ → List ℕ → List (List ℕ)
split c [] = [] ∷ []
split c (x ∷ s) = cond (eqb c x) ([] ∷ split c s) (on_first x (split c s))
