-- What `open_1` owes where the set is known: the lengths that passed the test, and the promise from what is owed with the set's own root.
-- Assumes nothing.
use mathlib.Core.Bool.{Bool, ◌&&◌}
use mathlib.Core.List.{List, [], ◌∷◌}
use mathlib.Core.Path.{◌≡◌}
use Prim.Native.Nat.{ℕ}
use lib.Dec.{eqb}
use lib.ListN.{length}
use borrow.Author.Tests.{eq-eqb}
use Rattle.std.proofs.Common.{Some}
use Rattle.residue.specs.Field.{generator, powq}
use Rattle.packing.specs.Packing.{groups}
use Rattle.answers.specs.Answers.{Answer}
use Rattle.answers.specs.declared.Parameters.{Parameters}
use Rattle.answers.specs.Replies.{Reply, reply, leaves, Outcome}
use Rattle.answers.specs.Sets.{set_of, for_set}
use Rattle.answers.specs.Tests.{in_range}
use Rattle.stages.specs.Opening.{opened_marks, opened_image}
use Rattle.answers.proofs.Exits.{right_lengths}
use Rattle.answers.proofs.SetLaws.{known_set}
use Rattle.calls_open_1.specs.OpenOne.{open_one_reply, marks_of, opened_image_of, OpenOne}

-- the test of the lengths
abbrev pub fits : (private cipher marks image : ℕ) → Parameters → Bool
fits private cipher marks image s = eqb private s.private && (eqb cipher s.packed && (eqb marks s.n && eqb image s.packed))

module _ (private cipher marks image marks' image' : List ℕ) where
  -- what the buffers hold where R is answered, with h = n/2 and the root w
  abbrev pub Holds : ℕ → ℕ → Reply → Type 0
  Holds h w R = (marks' ≡ leaves R (opened_marks h w private cipher) marks) × (image' ≡ leaves R (opened_image h w private cipher) image)

  pub owed : (set : ℕ) (s : Parameters) → set_of set ≡ Some s → (length private ≡ s.private) × (length cipher ≡ s.packed) × (length marks ≡ s.n) × (length image ≡ s.packed)
      → (r : Answer) → Outcome (in_range (groups private ∷ groups cipher ∷ []) (reply 0 0)) r (Holds s.half (powq generator s.step))
      → OpenOne set private cipher marks image r marks' image'
  unfolding OpenOne open_one_reply marks_of opened_image_of for_set
  owed set s known long r x =
      right_lengths _ set _ _ s known (simp (eq-eqb _ _ long.0, eq-eqb _ _ long.1, eq-eqb _ _ long.2, eq-eqb _ _ long.3)) r (rw (known, ← (known_set set s known).root) x)
