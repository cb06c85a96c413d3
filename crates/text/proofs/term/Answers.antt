-- `text::term` meets its contract: the number before the colon and the number after it.
-- Assumes nothing.
use Rattle.std.proofs.Common.{◌≡◌, Some, None, sym, ap, ap₂, ◌∙◌}
use Rattle.text.specs.Numerals.{number}
use Rattle.text.specs.Lines.{colon, up_to, past}
use Rattle.text.specs.Terms.{term_of, term}
use Rattle.text.proofs.TermLaws.{term_of_not, term_of_bare}
use Rattle.text.proofs.term.Goals as goal

pub returns-in_err-number : goal.returns-in_err-number
unfolding term
returns-in_err-number c =
    let index : number (up_to colon c.args.s.now) ≡ None = sym (c.number.ensures ∙ ap number c.up_to.ensures) ∙ c.in_err-number.was in
    c.from_residual.ensures ∙ sym (ap (λ x. term_of x (number (past colon c.args.s.now))) index ∙ term_of_not _)

pub returns-in_err-number-2 : goal.returns-in_err-number-2
unfolding term
returns-in_err-number-2 c =
    let value : number (past colon c.args.s.now) ≡ None = sym (c.number-2.ensures ∙ ap number c.past.ensures) ∙ c.in_err-number-2.was in
    c.from_residual-in_err-number-2.ensures ∙ sym (ap (term_of _) value ∙ term_of_bare _)

pub returns : goal.returns
unfolding term term_of
returns c =
    let index : number (up_to colon c.args.s.now) ≡ Some c.in_ok-number.field-0 = sym (c.number.ensures ∙ ap number c.up_to.ensures) ∙ c.in_ok-number.was in
    let value : number (past colon c.args.s.now) ≡ Some c.in_ok-number-2.field-0 = sym (c.number-2.ensures ∙ ap number c.past.ensures) ∙ c.in_ok-number-2.was in
    sym (ap₂ term_of index value)
