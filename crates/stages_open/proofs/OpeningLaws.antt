-- Marks: those of a polynomial taken by 3 are below 3, and stand for it.
-- Assumes nothing.
use mathlib.Core.List.{List, [], ◌∷◌, map}
use mathlib.Core.Path.{◌≡◌, refl, ap, ap₂, ◌∙◌}
use Prim.Native.Nat.{ℕ, zero, suc, ◌+◌, ◌<◌}
use native.Mathlib.Omega.{arith}
use lib.ListN.{length, get_or, length-map}
use Rattle.lists.specs.Below.{Below}
use Rattle.residue.specs.Signed.{centred_by_three, residue_of}
use Rattle.algebra.specs.SlotBySlot.{times}
use Rattle.algebra.specs.Transform.{reverse}
use Rattle.marks.specs.Marks.{mark_of, of_mark}
use Rattle.stages.specs.Opening.{opened_m}
use Rattle.algebra.proofs.Lists.{reverse_residues}
use Rattle.marks.proofs.MarkLaws.{mark_of_lt, of_mark_mark_of, by_three_small}

-- the marks of what is taken by 3 are below 3
by_three_low : (l : List ℕ) (i : ℕ) → get_or (map mark_of (map centred_by_three l)) i 0 < 3
unfolding centred_by_three
by_three_low [] i = omega arith
by_three_low (a ∷ l) zero = mark_of_lt _ (by_three_small _)
by_three_low (a ∷ l) (suc i) = by_three_low l i

-- and stand for it
by_three_back : (l : List ℕ) → map (λ m. residue_of (of_mark m)) (map mark_of (map centred_by_three l)) ≡ map residue_of (map centred_by_three l)
unfolding centred_by_three
by_three_back [] = refl
by_three_back (a ∷ l) = ap₂ (λ x xs. residue_of x ∷ xs) (of_mark_mark_of _ (by_three_small _)) (by_three_back l)

-- ---- so it is with the polynomial that opening gives

module _ (h w : ℕ) (F C : List ℕ) where
  pub length_opened_m : length (opened_m h w F C) ≡ h + h
  unfolding opened_m
  length_opened_m = length-map (reverse h w (times (h + h) C F)) centred_by_three ∙ (reverse_residues h w (times (h + h) C F)).long

  pub opened_low : Below 3 (map mark_of (opened_m h w F C))
  unfolding opened_m
  opened_low = record { low = by_three_low (reverse h w (times (h + h) C F)) }

  pub opened_back : map (λ m. residue_of (of_mark m)) (map mark_of (opened_m h w F C)) ≡ map residue_of (opened_m h w F C)
  unfolding opened_m
  opened_back = by_three_back (reverse h w (times (h + h) C F))

  -- what those marks stand for, as residues
  pub element_is : {marks element : List ℕ} → marks ≡ map mark_of (opened_m h w F C) → element ≡ map (λ m. residue_of (of_mark m)) marks
      → element ≡ map residue_of (opened_m h w F C)
  element_is e f = f ∙ ap (map (λ m. residue_of (of_mark m))) e ∙ opened_back
