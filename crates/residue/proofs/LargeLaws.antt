-- Where no number of a list is too large, it is a list of residues, and the other way round.
-- Assumes nothing.
use mathlib.Core.Path.{◌≡◌, refl, ◌∙◌}
use mathlib.Core.Bool.{false}
use mathlib.Core.List.{List, ◌∷◌, flatten}
use Prim.Native.Nat.{ℕ, ◌≤◌, ◌<◌}
use native.Mathlib.Decide.{ℕ_discrete}
use native.Mathlib.Omega.{arith}
use lib.ListN.{length, get_or}
use borrow.Author.Tests.{ltb-true, ltb-false}
use Rattle.lists.specs.First.{first_through}
use Rattle.lists.proofs.FirstLaws.{first_within, first_before, first_holds, through_clear}
use Rattle.residue.specs.Large.{too_large, first_large}
use Rattle.residue.specs.Residues.{Residues}

-- n numbers, the first large one being at n, are residues
pub residues_of : {n : ℕ} (l : List ℕ) → length l ≡ n → first_large l ≡ n → Residues n l
unfolding too_large first_large
residues_of l e f =
    record { long = e; low = λ i h. omega (arith, ltb-false _ (get_or l i 0) (first_before too_large l i (omega (arith, f)))) }

-- n numbers, and none large in them and in the lists after them, are residues
pub residues_through : {n : ℕ} (l : List ℕ) (ls : List (List ℕ)) → length l ≡ n
    → length (flatten (l ∷ ls)) ≤ first_through too_large (l ∷ ls) → Residues n l
unfolding first_large
residues_through l ls e h = residues_of l e ((through_clear too_large l ls h).0 ∙ e)

-- in a list of residues no number is large
pub none_large : {n : ℕ} {l : List ℕ} → Residues n l → first_large l ≡ n
unfolding too_large first_large
none_large {n} {l} r = by (ℕ_discrete (first_large l) n)
  where
    by : Dec (first_large l ≡ n) → first_large l ≡ n
    by (yes e) = e
    by (no e) =
        let h : first_large l < n = omega (arith, first_within too_large l, r.long) in
        absurd (omega (arith, r.low (first_large l) h, ltb-true _ (get_or l (first_large l) 0) (first_holds too_large l (omega (arith, r.long)))))

-- in a list of numbers none of which is above m, where m is not too large, no number is large
pub none_above : (m : ℕ) (l : List ℕ) → ((i : ℕ) → i < length l → get_or l i 0 ≤ m) → too_large m ≡ false → first_large l ≡ length l
unfolding too_large
none_above m l most e = none_large (record { long = refl; low = λ i h. omega (arith, most i h, ltb-false _ m e) })
