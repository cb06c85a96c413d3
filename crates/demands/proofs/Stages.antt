-- When each stage of opening answers 0, by the definitions: the lengths are right, no group is above 3456, no mark above 2, the images agree.
-- Assumes nothing.
use mathlib.Core.List.{List, [], ◌∷◌, flatten}
use mathlib.Core.Path.{◌≡◌, sym, ap, ◌∙◌}
use Prim.Native.Nat.{ℕ, ◌+◌, ◌*◌, ◌≤◌}
use native.Mathlib.Omega.{arith}
use lib.ListN.{length}
use borrow.Author.Tests.{eq-eqb, le-ltb}
use Rattle.lists.specs.Below.{Below}
use Rattle.lists.specs.Every.{equal}
use Rattle.lists.specs.First.{first_through}
use Rattle.residue.specs.Large.{too_large, first_large}
use Rattle.residue.specs.Residues.{Residues}
use Rattle.marks.specs.Marks.{no_mark}
use Rattle.small.specs.Sampling.{first_half, second_half}
use Rattle.packing.specs.Packing.{groups}
use Rattle.answers.specs.declared.Parameters.{Parameters}
use Rattle.std.specs.Prelude.{Some}
use Rattle.answers.specs.Replies.{reply}
use Rattle.answers.specs.Sets.{set_of, for_set}
use Rattle.answers.specs.Tests.{in_order, at_first, in_range}
use Rattle.stages.specs.Sealing.{r_image}
use Rattle.calls_open_1.specs.OpenOne.{open_one_reply}
use Rattle.calls_open_2.specs.OpenTwo.{open_two_reply}
use Rattle.calls_open_3.specs.OpenThree.{open_three_reply}
use Rattle.lists.proofs.EqualLaws.{equal_same}
use Rattle.lists.proofs.FirstLaws.{length_through, length_one, through_past, through_one}
use Rattle.residue.proofs.LargeLaws.{none_large}
use Rattle.marks.proofs.MarkLaws.{none_bad}
use Rattle.packing.proofs.PackingLaws.{length_groups}
use Rattle.calls_open_1.proofs.KeyGroups.{long_first, long_second, through_halves}

-- ---- no number is above 3456

one_clear : {n : ℕ} (l : List ℕ) → Residues n l → length (flatten (l ∷ [])) ≤ first_through too_large (l ∷ [])
unfolding first_large
one_clear l r = omega (arith, length_one l, through_one too_large l, none_large r, r.long)

more_clear : {n : ℕ} (l : List ℕ) (ls : List (List ℕ)) → Residues n l → length (flatten ls) ≤ first_through too_large ls
    → length (flatten (l ∷ ls)) ≤ first_through too_large (l ∷ ls)
unfolding first_large
more_clear l ls r h = omega (arith, h, length_through l ls, through_past too_large l ls (omega (arith, none_large r, r.long)))

-- in a private key whose halves are residues, and in a ciphertext
pub both_clear : (k : ℕ) (private cipher : List ℕ) → length private ≡ 3 * k + 3 * k
    → {n : ℕ} → Residues n (groups (first_half private)) → Residues n (groups (second_half private)) → Residues n (groups cipher)
    → length (flatten (groups private ∷ groups cipher ∷ [])) ≤ first_through too_large (groups private ∷ groups cipher ∷ [])
both_clear k private cipher long rf rk rc =
    let f = groups (first_half private) in
    let s = groups (second_half private) in
    let c = groups cipher in
    omega (
      arith,
      more_clear f (s ∷ c ∷ []) rf (more_clear s (c ∷ []) rk (one_clear c rc)),
      through_halves k private long too_large (c ∷ []),
      length_through f (s ∷ c ∷ []),
      length_through s (c ∷ []),
      length_through (groups private) (c ∷ []),
      length_groups private,
      long,
      long_first k private long,
      long_second k private long,
    )

-- ---- the three stages

module _ (set : ℕ) (s : Parameters) (known : set_of set ≡ Some s) where
  pub open_one_zero : (private cipher : List ℕ) (marks image : ℕ) → length private ≡ s.private → length cipher ≡ s.packed → marks ≡ s.n → image ≡ s.packed
      → length (flatten (groups private ∷ groups cipher ∷ [])) ≤ first_through too_large (groups private ∷ groups cipher ∷ [])
      → open_one_reply set private cipher marks image ≡ reply 0 0
  unfolding open_one_reply in_order for_set in_range at_first
  open_one_zero private cipher marks image lp lc lm li none =
      simp (
        known,
        eq-eqb (length private) s.private lp,
        eq-eqb (length cipher) s.packed lc,
        eq-eqb marks s.n lm,
        eq-eqb image s.packed li,
        le-ltb (first_through too_large (groups private ∷ groups cipher ∷ [])) (length (flatten (groups private ∷ groups cipher ∷ []))) none,
      )

  pub open_two_zero : (marks gblock : List ℕ) (message : ℕ) → length marks ≡ s.n → length gblock ≡ s.gblock → message ≡ s.message → Below 3 marks
      → open_two_reply set marks gblock message ≡ reply 0 0
  unfolding open_two_reply in_order for_set at_first
  open_two_zero marks gblock message lm lg le low =
      simp (
        known,
        eq-eqb (length marks) s.n lm,
        eq-eqb (length gblock) s.gblock lg,
        eq-eqb message s.message le,
        le-ltb (first_through no_mark (marks ∷ [])) (length (flatten (marks ∷ []))) (omega (arith, length_one marks, through_one no_mark marks, none_bad marks low)),
      )

  pub open_three_zero : (image hblock : List ℕ) (key : ℕ) → length image ≡ s.packed → length hblock ≡ s.hblock → key ≡ s.key
      → {n : ℕ} → Residues n (groups image) → groups image ≡ r_image s.half s.root hblock → open_three_reply set image hblock key ≡ reply 0 0
  unfolding open_three_reply in_order for_set in_range at_first
  open_three_zero image hblock key li lh lk r same =
      simp (
        known,
        eq-eqb (length image) s.packed li,
        eq-eqb (length hblock) s.hblock lh,
        eq-eqb key s.key lk,
        le-ltb (first_through too_large (groups image ∷ [])) (length (flatten (groups image ∷ []))) (one_clear (groups image) r),
        ap (equal (groups image)) (sym same) ∙ equal_same (groups image),
      )
