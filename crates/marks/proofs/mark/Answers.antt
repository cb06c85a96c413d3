-- `marks::mark` meets its contract: the marks are filled from the left.
-- Assumes nothing.
use Rattle.std.proofs.Common.{◌≡◌, refl, sym, ◌∙◌, subst, arith}
use lib.IntN.{ℤ}
use mir.Syntax.{w32}
use mir.Val.{to_z, of_z}
use Rattle.residue.specs.Signed.{centred_by_three}
use Rattle.lists.proofs.TabLaws.{tab_map}
use Rattle.lists.proofs.Fill.{fill_end}
use Rattle.marks.specs.Marks.{Small, mark_of}
use Rattle.marks.proofs.MarkLaws.{small_by, by_three_small}
use Rattle.marks.proofs.mark.Goals as goal

-- -1, 0 and 1 pass the machine's 32 bits unchanged
kept : (z : ℤ) → Small z → to_z w32 (of_z w32 z) ≡ z
kept = small_by (λ z. to_z w32 (of_z w32 z) ≡ z) refl refl refl

pub mark_of-requires : goal.mark_of-requires
unfolding centred_by_three
mark_of-requires c =
    let small : Small c.centred_by_three.result = subst Small (sym c.centred_by_three.ensures) (by_three_small _) in
    subst Small (sym (kept c.centred_by_three.result small)) small

pub returns : goal.returns
returns c = fill_end c.loop-i.invariant (omega arith) ∙ tab_map (λ a. mark_of (centred_by_three a)) 0 _ c.args.list.now c.requires.long
