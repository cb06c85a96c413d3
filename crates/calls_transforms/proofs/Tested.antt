-- What a call on one list owes after its tests: a refusal keeps the list that is to be written, and otherwise the engine's demands are met.
-- Assumes nothing.
use mathlib.Core.Bool.{cond}
use mathlib.Core.List.{List, []}
use mathlib.Core.Path.{◌≡◌, sym, ap, ◌∙◌, subst}
use Prim.Native.Nat.{ℕ, ◌+◌}
use lib.ListN.{length}
use borrow.Author.Tests.{ne_eqb}
use Rattle.std.proofs.Common.{Ok, Err}
use Rattle.residue.specs.Residues.{Residues}
use Rattle.answers.specs.declared.Parameters.{Parameters}
use Rattle.answers.specs.declared.Refusal.{Refusal}
use Rattle.answers.specs.Answers.{Answer}
use Rattle.answers.specs.Replies.{leaves, Outcome}
use Rattle.answers.specs.Sets.{set_of, for_set}
use Rattle.answers.proofs.Exits as X
use Rattle.answers.proofs.SetLaws.{IsSet, known_set}
use Rattle.calls_transforms.specs.Tests.{Tells}
use Rattle.calls_transforms.specs.Transform.{list_reply}

module _ (set : ℕ) (a before : List ℕ) where
  -- owed where r is answered, the result being given, and the list that held `before` holds `after`
  abbrev Owed : List ℕ → Answer → List ℕ → Type 0
  Owed result r after = Outcome (list_reply set a (length before)) r (λ R. after ≡ leaves R result before)

  -- a refusal keeps the list
  pub kept : (result : List ℕ) (r : Refusal) → Tells set a (length before) (Err r) → Owed result (Err r) before
  unfolding Tells leaves
  kept result r told =
      record {
        number = told.number;
        place = told.place;
        content = sym (ap (λ b. cond b result before) (ne_eqb (list_reply set a (length before)).number 0 told.content));
      }

  module _ (s : Parameters) (told : Tells set a (length before) (Ok s)) where
    pub is_set : IsSet set s
    unfolding Tells
    is_set = known_set set s told.1

    -- the engine is given an element and room
    pub ready : {half : ℕ} → half ≡ s.half → Residues (half + half) a × (length before ≡ half + half)
    unfolding Tells
    ready e = rw e (subst (λ n. Residues n a) is_set.whole told.2, told.3 ∙ is_set.whole)

    -- done, where the list holds what the definition gives for the set
    pub done : (f : Parameters → List ℕ) (after : List ℕ) → after ≡ f s → Owed (for_set (set_of set) [] f) (Ok tt) after
    unfolding Tells leaves
    done f after e =
        subst (λ R. Outcome R (Ok tt) (λ R. after ≡ leaves R (for_set (set_of set) [] f) before)) (sym told.0)
        (X.done (λ R. after ≡ leaves R (for_set (set_of set) [] f) before) (e ∙ sym (X.for_known set s [] f told.1)))
