-- `set_in` reads the number after the name of the set's line.
-- Assumes nothing.
use Rattle.std.proofs.Common.{◌≡◌, true, false, sym, ap, ◌∙◌}
use Rattle.text.specs.Numerals.{number}
use Rattle.lines.specs.Input.{is_line, body}
use Rattle.lines.specs.Names.{set_name}
use Rattle.lines.proofs.InputLaws.{set_line, set_none}
use Rattle.lines.proofs.input.set_in.Goals as goal

pub returns-in_err-body : goal.returns-in_err-body
returns-in_err-body c =
    let none : is_line set_name c.args.s.now ≡ false = c.in_err-body.ensures in
    c.from_residual.ensures ∙ sym (set_none c.args.s.now none)

pub returns : goal.returns
returns c =
    let line : (is_line set_name c.args.s.now ≡ true) × (c.in_ok-body.field-0.now ≡ body set_name c.args.s.now) = c.in_ok-body.ensures in
    c.number.ensures ∙ ap number line.1 ∙ sym (set_line c.args.s.now line.0)
