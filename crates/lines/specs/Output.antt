-- What is printed: lines of a name and a text.
-- Assumes nothing: these are definitions.
use Rattle.std.specs.Prelude.{List, [], ◌∷◌, ◌++◌, ℕ}
use Rattle.text.specs.Lines.{lf}
use Rattle.print.specs.Printing.{decimal, printed_polynomial}
use Rattle.lines.specs.Names.{set_name, code_name, place_name, product_name}

unfoldable pub line_of : List ℕ → List ℕ → List ℕ
line_of name text = name ++ (text ++ (lf ∷ []))

-- "A refusal prints the lines `code=` and `place=` only."
unfoldable pub answer_lines : ℕ → ℕ → List ℕ
answer_lines code place = line_of code_name (decimal code) ++ line_of place_name (decimal place)

-- "code and place are the answer; set repeats the input; product has its nonzero terms by rising index"
unfoldable pub product_lines : ℕ → List ℕ → List ℕ
product_lines set l = answer_lines 0 0 ++ (line_of set_name (decimal set) ++ line_of product_name (printed_polynomial l))
