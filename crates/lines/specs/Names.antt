-- The names that lines begin with, as bytes.
-- Assumes nothing: these are definitions.
use Rattle.std.specs.Prelude.{List, [], ◌∷◌, ℕ}

-- "`set=`, `a=`, `b=` in that order"
abbrev pub set_name : List ℕ
set_name = 115 ∷ 101 ∷ 116 ∷ 61 ∷ []

abbrev pub a_name : List ℕ
a_name = 97 ∷ 61 ∷ []

abbrev pub b_name : List ℕ
b_name = 98 ∷ 61 ∷ []

-- "the lines `code=` and `place=`", "`product=`"
abbrev pub code_name : List ℕ
code_name = 99 ∷ 111 ∷ 100 ∷ 101 ∷ 61 ∷ []

abbrev pub place_name : List ℕ
place_name = 112 ∷ 108 ∷ 97 ∷ 99 ∷ 101 ∷ 61 ∷ []

abbrev pub product_name : List ℕ
product_name = 112 ∷ 114 ∷ 111 ∷ 100 ∷ 117 ∷ 99 ∷ 116 ∷ 61 ∷ []
