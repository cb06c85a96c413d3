-- `small::list_halves` meets its contract: the two halves of the room, filled one after the other.
-- Assumes nothing.
use mathlib.Core.Path.{◌≡◌, ap, ◌∙◌}
use mathlib.Core.List.{List, ◌++◌}
use Prim.Native.Nat.{ℕ, ◌-◌, ◌/◌}
use native.Mathlib.Omega.{arith}
use lib.ListN.{length, take, drop}
use borrow.Author.Rules.{part_to_end}
use Rattle.bits.specs.Listing.{listed}
use Rattle.lists.proofs.Parts.{both_parts}
use Rattle.small.specs.Sampling.{first_half, second_half}
use Rattle.small.proofs.Halves.{length_first_bits}
use Rattle.small.proofs.list_halves.Goals as goal

-- what the two calls are lent are the halves
first_half_lem : (block p : List ℕ) → p ≡ listed (take (length block / 2) block) → p ≡ listed (first_half block)
unfolding first_half
first_half_lem block p e = e

second_half_lem : (block q : List ℕ) → q ≡ listed (take (length block - length block / 2) (drop (length block / 2) block)) → q ≡ listed (second_half block)
unfolding second_half
second_half_lem block q e = e ∙ ap listed (part_to_end block (length block / 2))

pub returns : goal.returns
returns c =
    let block = c.args.block.now in
    let p = c.list.new.bits in
    let q = c.list-2.new.bits in
    let first : p ≡ listed (first_half block) = first_half_lem block p c.list.ensures in
    let second : q ≡ listed (second_half block) = second_half_lem block q c.list-2.ensures in
    both_parts (length c.args.halves.now / 2) c.args.halves.now p q (ap length first ∙ length_first_bits block c.requires.1 ∙ omega (arith, c.requires))
    ∙ ap (λ l. l ++ q) first ∙ ap (λ l. listed (first_half block) ++ l) second
