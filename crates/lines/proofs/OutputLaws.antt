-- How long the printed lines are.
-- Assumes nothing.
use mathlib.Core.List.{List, [], ◌∷◌, ◌++◌}
use mathlib.Core.Path.{◌≡◌}
use Prim.Native.Nat.{ℕ, ◌+◌, ◌≤◌, ◌<◌}
use native.Mathlib.Omega.{arith}
use lib.Dec.{lit<}
use lib.ListN.{length, get_or, length-append}
use Rattle.text.specs.Lines.{lf}
use Rattle.print.specs.Printing.{decimal, printed_polynomial}
use Rattle.print.proofs.DecimalLaws.{decimal_length}
use Rattle.print.proofs.PrintingLaws.{length_polynomial}
use Rattle.lines.specs.Names.{set_name, code_name, place_name, product_name}
use Rattle.lines.specs.Output.{line_of, answer_lines, product_lines}

-- the name, the text and an LF
pub length_line : (name text : List ℕ) → length (line_of name text) ≡ length name + length text + 1
unfolding line_of
length_line name text = omega (arith, length-append name (text ++ (lf ∷ [])), length-append text (lf ∷ []))

pub length_answer : (code place : ℕ) → length (answer_lines code place) ≡ length (line_of code_name (decimal code)) + length (line_of place_name (decimal place))
unfolding answer_lines
length_answer code place = length-append (line_of code_name (decimal code)) (line_of place_name (decimal place))

-- two lines of at most eleven bytes and of the places' digits
pub answer_short : (code place : ℕ) → code < 100000 → place < 100000 → length (answer_lines code place) ≤ 23
answer_short code place hc hp =
    omega (arith, length_answer code place, length_line code_name (decimal code), length_line place_name (decimal place), decimal_length code hc, decimal_length place hp)

pub length_product : (set : ℕ) (l : List ℕ) → length (product_lines set l)
    ≡ length (answer_lines 0 0) + (length (line_of set_name (decimal set)) + length (line_of product_name (printed_polynomial l)))
unfolding product_lines
length_product set l =
    omega (
      arith,
      length-append (answer_lines 0 0) (line_of set_name (decimal set) ++ line_of product_name (printed_polynomial l)),
      length-append (line_of set_name (decimal set)) (line_of product_name (printed_polynomial l)),
    )

-- four lines: ten bytes for each number of the list, and few more
pub product_short : (set : ℕ) (l : List ℕ) → set < 100000 → length l ≤ 1152 → ((k : ℕ) → k < length l → get_or l k 0 < 10000)
    → length (product_lines set l) ≤ 16384
product_short set l hs hl low =
    omega (
      arith,
      length_product set l,
      answer_short 0 0 (lit< tt) (lit< tt),
      length_line set_name (decimal set),
      decimal_length set hs,
      length_line product_name (printed_polynomial l),
      length_polynomial l (omega arith) low,
    )
