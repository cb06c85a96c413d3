-- The groups of a private key are those of its two halves, so places are counted through the halves as through the key.
-- Assumes nothing.
use mathlib.Core.Bool.{Bool}
use mathlib.Core.List.{List, ◌∷◌, ◌++◌, append_assoc, flatten}
use mathlib.Core.Path.{◌≡◌, sym, ap, ◌∙◌}
use Prim.Native.Nat.{ℕ, ◌+◌, ◌*◌, ◌/◌, ◌≤◌}
use native.Mathlib.Omega.{arith}
use lib.ListN.{length, take, drop, length-drop, take-append-drop}
use lib.Seq.{length-take-le}
use Rattle.lists.specs.First.{first_where, first_through}
use Rattle.residue.specs.Large.{too_large}
use Rattle.residue.specs.Residues.{Residues}
use Rattle.small.specs.Sampling.{first_half, second_half}
use Rattle.packing.specs.Packing.{groups}
use Rattle.lists.proofs.FirstLaws.{length_through, through_clear}
use Rattle.residue.proofs.LargeLaws.{residues_through}
use Rattle.packing.proofs.PackingLaws.{length_groups, groups_append}

module _ (k : ℕ) (private : List ℕ) (long : length private ≡ 3 * k + 3 * k) where
  -- the first half is 3k bytes
  bytes_first : length (first_half private) ≡ 3 * k
  unfolding first_half
  bytes_first = length-take-le (length private / 2) private (omega arith) ∙ omega (arith, long)

  pub long_first : length (groups (first_half private)) ≡ 2 * k
  long_first = length_groups (first_half private) ∙ omega (arith, bytes_first)

  pub long_second : length (groups (second_half private)) ≡ 2 * k
  unfolding second_half
  long_second = length_groups (second_half private) ∙ omega (arith, length-drop (length private / 2) private, long)

  groups_halves : groups private ≡ groups (first_half private) ++ groups (second_half private)
  unfolding first_half second_half
  groups_halves =
      ap groups (sym (take-append-drop (length private / 2) private))
      ∙ groups_append k (take (length private / 2) private) (drop (length private / 2) private) bytes_first

  pub flatten_halves : (ls : List (List ℕ)) → flatten (groups (first_half private) ∷ groups (second_half private) ∷ ls) ≡ flatten (groups private ∷ ls)
  unfolding flatten
  flatten_halves ls =
      sym (append_assoc (groups (first_half private)) (groups (second_half private)) (flatten ls)) ∙ ap (λ l. l ++ flatten ls) (sym groups_halves)

  pub through_halves : (bad : ℕ → Bool) (ls : List (List ℕ))
      → first_through bad (groups (first_half private) ∷ groups (second_half private) ∷ ls) ≡ first_through bad (groups private ∷ ls)
  unfolding first_through
  through_halves bad ls = ap (first_where bad) (flatten_halves ls)

  -- where no group of the key and of what follows it is too large, each half is residues
  pub halves_residues : (ls : List (List ℕ)) → length (flatten (groups private ∷ ls)) ≤ first_through too_large (groups private ∷ ls)
      → Residues (2 * k) (groups (first_half private)) × Residues (2 * k) (groups (second_half private))
  halves_residues ls h =
      let f = groups (first_half private) in
      let s = groups (second_half private) in
      let size : length (flatten (f ∷ s ∷ ls)) ≡ length (flatten (groups private ∷ ls)) =
      omega (arith, length_through f (s ∷ ls), length_through s ls, length_through (groups private) ls, length_groups private, long, long_first, long_second) in
      let none : length (flatten (f ∷ s ∷ ls)) ≤ first_through too_large (f ∷ s ∷ ls) = omega (arith, h, size, through_halves too_large ls) in
      (residues_through f (s ∷ ls) long_first none, residues_through s ls long_second (through_clear too_large f (s ∷ ls) none).1)
