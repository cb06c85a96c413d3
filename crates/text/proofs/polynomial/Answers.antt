-- `text::polynomial` meets its contract: zeros, and then the terms into them, if there are any.
-- Assumes nothing.
use Rattle.std.proofs.Common.{◌≡◌, sym, ap, ◌∙◌, subst, Some, length, arith}
use Rattle.std.proofs.lemmas.Bool.Decides.{nat_tests}
use Rattle.text.specs.Polynomials.{zeros, Reads, polynomial}
use Rattle.text.proofs.PolynomialLaws.{zeros_filled, polynomial_zero, polynomial_terms, reads_some}
use Rattle.text.proofs.polynomial.Goals as goal
use Rattle.text.proofs.polynomial.Goals.{After-fill}

cleared : (c : After-fill) → c.fill.new.self ≡ zeros (length c.args.list.now)
cleared c = c.fill.ensures.after (λ y e. e) ∙ zeros_filled (length c.args.list.now)

pub returns-then-is_empty : goal.returns-then-is_empty
returns-then-is_empty c =
    let none : length c.args.s.now ≡ 0 = grind (arith, nat_tests) in
    let zero = reads_some c.fill.new.self (polynomial_zero (length c.args.list.now) c.args.s.now none ∙ ap Some (sym (cleared (goal.at.returns-then-is_empty c).After-fill))) in
    subst (λ b. Reads b c.fill.new.self (polynomial (length c.args.list.now) c.args.s.now)) (sym c.if-is_empty.true) zero

pub returns-else-is_empty : goal.returns-else-is_empty
returns-else-is_empty c =
    subst (Reads c.terms_into.result c.terms_into.new.list) (polynomial_terms _ c.args.s.now (grind (arith, nat_tests)) _ (cleared (goal.at.returns-else-is_empty c).After-fill)) c.terms_into.ensures
