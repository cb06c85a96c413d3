-- ringline, from the input's bytes to the printed bytes: "Tests in order: input above 32,768 bytes (7, place 0); form of line 1
-- (7, place 1); set known (1); line 2, line 3, .. (7, place 2 or 3); bytes after line 3 (7, place 4)." Assumes nothing: these are definitions.
use Rattle.std.specs.Prelude.{cond, List, ℕ, eqb, ltb, length, Option, Some, None}
use Rattle.answers.specs.Sets.{set_of, for_set}
use Rattle.calls_product.specs.Product.{product_of}
use Rattle.text.specs.Lines.{lf, past}
use Rattle.print.specs.Write.{Writes}
use Rattle.lines.specs.Input.{set_in, polynomial_in, for_number}
use Rattle.lines.specs.Names.{a_name, b_name}
use Rattle.lines.specs.Output.{answer_lines, product_lines}

-- what is so of the polynomial, or what stands in for it
unfoldable pub for_polynomial : {A : Type 0} → Option (List ℕ) → A → (List ℕ → A) → A
for_polynomial None other f = other
for_polynomial (Some l) other f = f l

-- what is printed for an input
unfoldable pub printed : List ℕ → List ℕ
printed input =
    cond (ltb 32768 (length input)) (answer_lines 7 0)
    (for_number (set_in input) (answer_lines 7 1)
    (λ set. for_set (set_of set) (answer_lines 1 0)
    (λ s. for_polynomial (polynomial_in a_name s.n (past lf input)) (answer_lines 7 2)
    (λ a. for_polynomial (polynomial_in b_name s.n (past lf (past lf input))) (answer_lines 7 3)
    (λ b. cond (eqb (length (past lf (past lf (past lf input)))) 0) (product_lines set (product_of set a b)) (answer_lines 7 4))))))

-- the promise of `line`: r bytes are printed, at the start of the buffer that held `before` and then holds `after`
unfoldable pub Line : List ℕ → List ℕ → ℕ → List ℕ → Type 0
Line input before r after = Writes before 0 (printed input) after r
