-- What `r_image` owes, and to what it calls, where the set is known and the lengths are right.
-- Assumes nothing.
use mathlib.Core.Bool.{Bool, ◌&&◌}
use mathlib.Core.List.{List}
use mathlib.Core.Path.{◌≡◌}
use Prim.Native.Nat.{ℕ, ◌+◌, ◌*◌, ◌%◌}
use native.Mathlib.Omega.{arith}
use lib.Dec.{eqb}
use lib.ListN.{length}
use borrow.Author.Tests.{eq-eqb}
use Rattle.std.proofs.Common.{Some, Ok}
use Rattle.residue.specs.Field.{generator, powq}
use Rattle.packing.specs.Packing.{packed}
use Rattle.answers.specs.declared.Parameters.{Parameters}
use Rattle.answers.specs.Replies.{leaves}
use Rattle.answers.specs.Sets.{set_of, for_set}
use Rattle.stages.specs.Sealing.{r_image}
use Rattle.answers.proofs.Exits.{done, right_lengths}
use Rattle.answers.proofs.SetLaws.{IsSet, known_set}
use Rattle.calls_r_image.specs.RImage.{r_image_reply, r_image_of, RImage}

-- the test of the lengths
abbrev pub fits : (hblock image : ℕ) → Parameters → Bool
fits hblock image s = eqb hblock s.hblock && eqb image s.packed

-- the lengths that `r_image_in` asks, at the set's own half
pub lengths : (hblock image set : ℕ) (s : Parameters) → set_of set ≡ Some s → (hblock ≡ s.hblock) × (image ≡ s.packed)
    → {h : ℕ} → h ≡ s.half → ((h % 16 ≡ 0) × (hblock + hblock ≡ 64 + h)) × (image ≡ 3 * h)
lengths hblock image set s known long e =
    let is_set : IsSet set s = known_set set s known in
    ((omega arith, omega arith), omega arith)

-- the promise, from what is written with the set's own half and root
pub owed : (hblock image image' : List ℕ) (set : ℕ) (s : Parameters) → set_of set ≡ Some s → (length hblock ≡ s.hblock) × (length image ≡ s.packed)
    → {h step : ℕ} → (h ≡ s.half) × (step ≡ s.step) → image' ≡ packed (r_image h (powq generator step) hblock)
    → RImage set hblock image (Ok tt) image'
unfolding RImage r_image_reply r_image_of for_set leaves
owed hblock image image' set s known long e x =
    right_lengths _ set _ _ s known (simp (eq-eqb _ _ long.0, eq-eqb _ _ long.1)) (Ok tt) (done _ (rw (known, ← (known_set set s known).root, ← e.0, ← e.1) x))
