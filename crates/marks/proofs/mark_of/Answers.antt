-- `marks::mark_of` meets its contract: each small number is tried.
-- Assumes nothing.
use Rattle.std.proofs.Common.{◌≡◌, refl, rules, arith}
use lib.IntN.{ℤ}
use mir.Syntax.{w32}
use mir.Val.{of_z}
use Rattle.marks.specs.Marks.{Small, mark_of}
use Rattle.marks.proofs.MarkLaws.{small_by}
use Rattle.marks.proofs.mark_of.Goals as goal

nothing : (z : ℤ) → Small z → of_z w32 z ≡ 0 → 0 ≡ mark_of z
unfolding mark_of
nothing = small_by (λ z. of_z w32 z ≡ 0 → 0 ≡ mark_of z) (λ e. refl) (λ e. absurd (omega arith)) (λ e. absurd (omega arith))

one : (z : ℤ) → Small z → of_z w32 z ≡ 1 → 1 ≡ mark_of z
unfolding mark_of
one = small_by (λ z. of_z w32 z ≡ 1 → 1 ≡ mark_of z) (λ e. absurd (omega arith)) (λ e. refl) (λ e. absurd (omega arith))

others : (z : ℤ) → Small z → (of_z w32 z ≡ 0 → ⊥) → (of_z w32 z ≡ 1 → ⊥) → 2 ≡ mark_of z
unfolding mark_of
others = small_by (λ z. (of_z w32 z ≡ 0 → ⊥) → (of_z w32 z ≡ 1 → ⊥) → 2 ≡ mark_of z) (λ f g. absurd (f refl)) (λ f g. absurd (g refl)) (λ f g. refl)

-- what an arm says of a signed number has no name of its own, and is found
pub returns-in-0 : goal.returns-in-0
returns-in-0 c = nothing c.args.value c.requires (search rules)

pub returns-in-1 : goal.returns-in-1
returns-in-1 c = one c.args.value c.requires (search rules)

pub returns-in_default : goal.returns-in_default
returns-in_default c = others c.args.value c.requires (search rules) (search rules)
