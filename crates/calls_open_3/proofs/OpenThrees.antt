-- What `open_3` owes, and to what it calls, where the set is known and the lengths are right.
-- Assumes nothing.
use mathlib.Core.Bool.{Bool, cond, ◌&&◌}
use mathlib.Core.List.{List, [], ◌∷◌}
use mathlib.Core.Path.{◌≡◌}
use Prim.Native.Nat.{ℕ, ◌+◌, ◌*◌, ◌%◌}
use native.Mathlib.Omega.{arith}
use lib.Dec.{eqb}
use lib.ListN.{length}
use borrow.Author.Tests.{eq-eqb}
use Rattle.std.proofs.Common.{Some, None, position}
use Rattle.lists.specs.Every.{equal}
use Rattle.residue.specs.Field.{generator, powq}
use Rattle.residue.specs.Large.{too_large}
use Rattle.packing.specs.Packing.{groups}
use Rattle.answers.specs.Answers.{Answer}
use Rattle.answers.specs.declared.Parameters.{Parameters}
use Rattle.answers.specs.Replies.{Reply, reply, leaves, Outcome}
use Rattle.answers.specs.Sets.{set_of}
use Rattle.answers.specs.Tests.{in_range}
use Rattle.stages.specs.Sealing.{key_bytes, r_image}
use Rattle.answers.proofs.Counting.{counted_one}
use Rattle.answers.proofs.Exits.{right_lengths, too_large_nowhere}
use Rattle.answers.proofs.SetLaws.{IsSet, known_set}
use Rattle.calls_open_3.specs.OpenThree.{open_three_reply, OpenThree}

-- the test of the lengths
abbrev pub fits : (image hblock key : ℕ) → Parameters → Bool
fits image hblock key s = eqb image s.packed && (eqb hblock s.hblock && eqb key s.key)

-- the lengths that `open_3_in` asks, at the set's own half
pub lengths : (image hblock key set : ℕ) (s : Parameters) → set_of set ≡ Some s → (image ≡ s.packed) × (hblock ≡ s.hblock) × (key ≡ s.key)
    → {h : ℕ} → h ≡ s.half → ((h % 16 ≡ 0) × (hblock + hblock ≡ 64 + h)) × (image ≡ 3 * h) × (key ≡ 32)
lengths image hblock key set s known long e =
    let is_set : IsSet set s = known_set set s known in
    ((omega arith, omega arith), omega arith, omega arith)

module _ (image hblock key key' : List ℕ) where
  -- what is answered once no group is too large, with h = n/2 and the root w
  abbrev pub compared : ℕ → ℕ → Reply
  compared h w = cond (equal (groups image) (r_image h w hblock)) (reply 0 0) (reply 6 0)

  -- and what the buffer holds where R is answered
  abbrev pub Holds : Reply → Type 0
  Holds R = key' ≡ leaves R (key_bytes hblock) key

  -- by whether the images are equal, where no group is too large
  pub told : (h w : ℕ) (b : Bool) → None ≡ position too_large (groups image) → b ≡ equal (groups image) (r_image h w hblock)
      → (r : Answer) → Outcome (cond b (reply 0 0) (reply 6 0)) r Holds → Outcome (in_range (groups image ∷ []) (compared h w)) r Holds
  told h w b none e r x = too_large_nowhere Holds (groups image ∷ []) _ (counted_one too_large (groups image) none) r (rw (← e) x)

  -- the promise, from what is owed with the set's own half and root
  pub owed : (set : ℕ) (s : Parameters) → set_of set ≡ Some s → (length image ≡ s.packed) × (length hblock ≡ s.hblock) × (length key ≡ s.key)
      → {h step : ℕ} → (h ≡ s.half) × (step ≡ s.step)
      → (r : Answer) → Outcome (in_range (groups image ∷ []) (compared h (powq generator step))) r Holds → OpenThree set image hblock key r key'
  unfolding OpenThree open_three_reply
  owed set s known long e r x =
      right_lengths _ set _ _ s known (simp (eq-eqb _ _ long.0, eq-eqb _ _ long.1, eq-eqb _ _ long.2)) r (rw (← (known_set set s known).root, ← e.0, ← e.1) x)
