-- What `open_2` owes where the set is known and the lengths are right: the promise.
-- Assumes nothing.
use mathlib.Core.Bool.{Bool, ◌&&◌}
use mathlib.Core.List.{List, [], ◌∷◌}
use mathlib.Core.Path.{◌≡◌}
use Prim.Native.Nat.{ℕ}
use lib.Dec.{eqb}
use lib.ListN.{length}
use borrow.Author.Tests.{eq-eqb}
use Rattle.std.proofs.Common.{Some}
use Rattle.marks.specs.Marks.{no_mark}
use Rattle.answers.specs.Answers.{Answer}
use Rattle.answers.specs.declared.Parameters.{Parameters}
use Rattle.answers.specs.Replies.{Reply, reply, leaves, Outcome}
use Rattle.answers.specs.Sets.{set_of}
use Rattle.answers.specs.Tests.{at_first}
use Rattle.stages.specs.Opening.{opened_message}
use Rattle.answers.proofs.Exits.{right_lengths}
use Rattle.calls_open_2.specs.OpenTwo.{open_two_reply, OpenTwo}

-- the test of the lengths
abbrev pub fits : (marks gblock message : ℕ) → Parameters → Bool
fits marks gblock message s = eqb marks s.n && (eqb gblock s.gblock && eqb message s.message)

module _ (marks gblock message message' : List ℕ) where
  -- what the buffer holds where R is answered
  abbrev pub Holds : Reply → Type 0
  Holds R = message' ≡ leaves R (opened_message marks gblock) message

  pub owed : (set : ℕ) (s : Parameters) → set_of set ≡ Some s → (length marks ≡ s.n) × (length gblock ≡ s.gblock) × (length message ≡ s.message)
      → (r : Answer) → Outcome (at_first 5 no_mark (marks ∷ []) (reply 0 0)) r Holds → OpenTwo set marks gblock message r message'
  unfolding OpenTwo open_two_reply
  owed set s known long r x =
      right_lengths _ set _ _ s known (simp (eq-eqb _ _ long.0, eq-eqb _ _ long.1, eq-eqb _ _ long.2)) r x
