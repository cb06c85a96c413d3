-- "multiplying slot by slot", in the set that a number names.
-- Assumes nothing: this is a definition.
use Rattle.std.specs.Prelude.{List, [], ℕ}
use Rattle.algebra.specs.SlotBySlot.{times}
use Rattle.answers.specs.Sets.{set_of, for_set}

unfoldable pub times_of : ℕ → List ℕ → List ℕ → List ℕ
times_of set A B = for_set (set_of set) [] (λ s. times s.slots A B)
