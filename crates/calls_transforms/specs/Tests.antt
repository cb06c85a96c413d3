-- What the tests of a call on one list tell it: the refusal, or that none applies.
-- Assumes nothing: these are definitions.
use Rattle.std.specs.Prelude.{List, Result, Ok, Err, Some, ◌≢◌, ◌≡◌, ℕ}
use Rattle.residue.specs.Residues.{Residues}
use Rattle.answers.specs.declared.Parameters.{Parameters}
use Rattle.answers.specs.declared.Refusal.{Refusal}
use Rattle.answers.specs.Replies.{reply, Outcome}
use Rattle.answers.specs.Sets.{set_of}
use Rattle.calls_transforms.specs.Transform.{list_reply}

unfoldable pub Tells : ℕ → List ℕ → ℕ → Result Parameters Refusal → Type 0
Tells set a room (Err r) = Outcome (list_reply set a room) (Err r) (λ R. R.number ≢ 0)
Tells set a room (Ok s) = (list_reply set a room ≡ reply 0 0) × (set_of set ≡ Some s) × Residues s.n a × (room ≡ s.n)
