-- What is printed, test by test: each law has the tests before it passed.
-- Assumes nothing.
use mathlib.Core.List.{List}
use mathlib.Core.Logic.{◌≢◌}
use Rattle.std.proofs.Common.{Some, None}
use mathlib.Core.Path.{◌≡◌}
use Prim.Native.Nat.{ℕ, ◌≤◌, ◌<◌}
use lib.ListN.{length}
use borrow.Author.Tests.{lt-ltb, le-ltb, eq-eqb, ne_eqb}
use Rattle.answers.specs.Sets.{set_of, for_set}
use Rattle.calls_product.specs.Product.{product_of}
use Rattle.text.specs.Lines.{lf, past}
use Rattle.lines.specs.Input.{set_in, polynomial_in, for_number}
use Rattle.lines.specs.Names.{a_name, b_name}
use Rattle.lines.specs.Output.{answer_lines, product_lines}
use Rattle.line.specs.Chosen.{Chosen}
use Rattle.line.specs.Line.{for_polynomial, printed}

module _ (input : List ℕ) where
  -- the input is too long
  pub printed_long : 32768 < length input → printed input ≡ answer_lines 7 0
  unfolding printed
  printed_long h = simp (lt-ltb 32768 (length input) h)

  module _ (short : length input ≤ 32768) where
    -- line 1 is malformed
    pub printed_first : set_in input ≡ None → printed input ≡ answer_lines 7 1
    unfolding printed for_number
    printed_first e = simp (le-ltb 32768 (length input) short, e)

    module _ (set : ℕ) (first : set_in input ≡ Some set) where
      -- the set is unknown
      pub printed_unknown : set_of set ≡ None → printed input ≡ answer_lines 1 0
      unfolding printed for_number for_set
      printed_unknown e = simp (le-ltb 32768 (length input) short, first, e)

module _ {input : List ℕ} {set n : ℕ} (chosen : Chosen input set n) where
  -- line 2 is malformed
  pub printed_second : polynomial_in a_name n (past lf input) ≡ None → printed input ≡ answer_lines 7 2
  unfolding printed for_number for_set for_polynomial
  printed_second e = simp (le-ltb 32768 (length input) chosen.short, chosen.first, chosen.known, chosen.size, e)

  module _ (a : List ℕ) (second : polynomial_in a_name n (past lf input) ≡ Some a) where
    -- line 3 is malformed
    pub printed_third : polynomial_in b_name n (past lf (past lf input)) ≡ None → printed input ≡ answer_lines 7 3
    unfolding printed for_number for_set for_polynomial
    printed_third e = simp (le-ltb 32768 (length input) chosen.short, chosen.first, chosen.known, chosen.size, second, e)

    module _ (b : List ℕ) (third : polynomial_in b_name n (past lf (past lf input)) ≡ Some b) where
      -- bytes stand after line 3
      pub printed_more : length (past lf (past lf (past lf input))) ≢ 0 → printed input ≡ answer_lines 7 4
      unfolding printed for_number for_set for_polynomial
      printed_more e =
          simp (le-ltb 32768 (length input) chosen.short, chosen.first, chosen.known, chosen.size, second, third, ne_eqb (length (past lf (past lf (past lf input)))) 0 e)

      -- and otherwise the product
      pub printed_product : length (past lf (past lf (past lf input))) ≡ 0 → printed input ≡ product_lines set (product_of set a b)
      unfolding printed for_number for_set for_polynomial
      printed_product e =
          simp (le-ltb 32768 (length input) chosen.short, chosen.first, chosen.known, chosen.size, second, third, eq-eqb (length (past lf (past lf (past lf input)))) 0 e)
