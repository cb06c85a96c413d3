-- `polynomial_in` reads the polynomial after the name of its line.
-- Assumes nothing.
use Rattle.std.proofs.Common.{◌≡◌, true, false, length, sym, ap, ◌∙◌, subst}
use Rattle.text.specs.Polynomials.{polynomial, Reads}
use Rattle.text.proofs.PolynomialLaws.{reads_none}
use Rattle.lines.specs.Input.{is_line, body}
use Rattle.lines.proofs.InputLaws.{polynomial_line, polynomial_none}
use Rattle.lines.proofs.input.polynomial_in.Goals as goal

pub returns-in-Some : goal.returns-in-Some
returns-in-Some c =
    let name = c.args.name.now in
    let s = c.args.s.now in
    let n = length c.args.list.now in
    let line : (is_line name s ≡ true) × (c.in-Some.terms.now ≡ body name s) = c.in-Some.ensures in
    subst (Reads c.polynomial.result c.polynomial.new.list) (ap (polynomial n) line.1 ∙ sym (polynomial_line name s n line.0)) c.polynomial.ensures

pub returns-in-None : goal.returns-in-None
returns-in-None c =
    let none : is_line c.args.name.now c.args.s.now ≡ false = c.in-None.ensures in
    reads_none _ (polynomial_none c.args.name.now c.args.s.now (length c.args.list.now) none)
