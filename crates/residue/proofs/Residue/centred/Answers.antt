-- `residue::Residue::centred` meets its contract: the sign is taken last, of a number of 31 bits.
-- Assumes nothing.
use Rattle.std.proofs.Common.{ℕ, ◌-◌, pos, ◌-ℤ◌, sym, ap, ◌∙◌, arith}
use borrow.Author.Tests.{le-leb, lt-leb}
use mir.Syntax.{w32}
use mir.Val.{to_z, of_z}
use Rattle.residue.specs.Field.{q}
use Rattle.residue.specs.Signed.{centred}
use Rattle.residue.proofs.Machine.{back, unsigned, negated_back}
use Rattle.residue.proofs.Residue.centred.Goals as goal

pub returns-then-a-le1728 : goal.returns-then-a-le1728
unfolding centred
returns-then-a-le1728 c =
    back c.from.result c.from.type_inv ∙ c.from.ensures ∙ sym (simp (le-leb c.args.self.value 1728 (omega arith)))

pub returns-else-a-le1728 : goal.returns-else-a-le1728
unfolding centred
returns-else-a-le1728 c =
    let wide = c.from-else-a-le1728 in
    let left : ℕ = q - c.args.self.value in
    ap (λ z. to_z w32 (of_z w32 (pos 0 -ℤ z))) (back wide.result wide.type_inv ∙ wide.ensures ∙ sym (unsigned left (omega arith)))
    ∙ negated_back left (omega arith) ∙ sym (simp (lt-leb c.args.self.value 1728 (omega arith)))
