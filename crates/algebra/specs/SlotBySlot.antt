-- Images worked on "slot by slot": lists of n residues, place k by place k.
-- Assumes nothing: these are definitions.
use Rattle.std.specs.Prelude.{Bool, List, ℕ, eqb, get_or}
use Rattle.lists.specs.Tab.{tab}
use Rattle.residue.specs.Field.{addq, subq, mulq, invq}

unfoldable pub plus : ℕ → List ℕ → List ℕ → List ℕ
plus n A B = tab n (λ k. addq (get_or A k 0) (get_or B k 0))

unfoldable pub minus : ℕ → List ℕ → List ℕ → List ℕ
minus n A B = tab n (λ k. subq (get_or A k 0) (get_or B k 0))

unfoldable pub times : ℕ → List ℕ → List ℕ → List ℕ
times n A B = tab n (λ k. mulq (get_or A k 0) (get_or B k 0))

-- 1/A; where a slot is 0 nothing may rest on it
unfoldable pub inverses : ℕ → List ℕ → List ℕ
inverses n A = tab n (λ k. invq (get_or A k 0))

-- "a slot of f or g is zero"
unfoldable pub is_zero : ℕ → Bool
is_zero x = eqb x 0
