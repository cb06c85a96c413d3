-- The call `open_2`: "marks, G block", "message".
-- Assumes nothing: these are definitions.
use Rattle.std.specs.Prelude.{◌&&◌, List, [], ◌∷◌, ◌≡◌, ℕ, eqb, length}
use Rattle.marks.specs.Marks.{no_mark}
use Rattle.answers.specs.Answers.{Answer}
use Rattle.answers.specs.Replies.{Reply, reply, leaves, Outcome}
use Rattle.answers.specs.Tests.{in_order, at_first}
use Rattle.stages.specs.Opening.{opened_message}

-- 1, 2, 5 or 0, in that order; 5: "a mark above 2", "first such"
unfoldable pub open_two_reply : ℕ → List ℕ → List ℕ → ℕ → Reply
open_two_reply set marks gblock message =
    in_order set (λ s. eqb (length marks) s.n && (eqb (length gblock) s.gblock && eqb message s.message))
    (λ s. at_first 5 no_mark (marks ∷ []) (reply 0 0))

-- the promise of `open_2`: r is answered, and the buffer that held `message` holds `message'`; "Open-2 decodes."
unfoldable pub OpenTwo : ℕ → List ℕ → List ℕ → List ℕ → Answer → List ℕ → Type 0
OpenTwo set marks gblock message r message' =
    Outcome (open_two_reply set marks gblock (length message)) r (λ R. message' ≡ leaves R (opened_message marks gblock) message)
