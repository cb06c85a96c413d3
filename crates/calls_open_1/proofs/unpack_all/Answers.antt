-- `unpack_all` reads the groups of the key's halves and of the ciphertext, and counts through all of them.
-- Assumes nothing.
use mathlib.Core.List.{List, [], ◌∷◌, flatten}
use mathlib.Core.Path.{◌≡◌, ap, ◌∙◌}
use Prim.Native.Nat.{ℕ, ◌+◌, ◌-◌, ◌*◌, ◌/◌, ◌%◌}
use native.Mathlib.Omega.{arith}
use lib.ListN.{length, take, drop}
use borrow.Author.Rules.{part_to_end}
use Rattle.std.proofs.Common.{Option, position, option_map}
use Rattle.std.specs.Option.{option_or}
use Rattle.residue.specs.Large.{too_large}
use Rattle.small.specs.Sampling.{first_half, second_half}
use Rattle.packing.specs.Packing.{groups}
use Rattle.lists.proofs.FirstLaws.{length_through, length_one}
use Rattle.packing.proofs.PackingLaws.{length_groups}
use Rattle.answers.proofs.Counting.{counted, counted_one, counts_on}
use Rattle.calls_open_1.proofs.KeyGroups.{long_first, long_second, flatten_halves}
use Rattle.calls_open_1.proofs.unpack_all.Goals as goal

-- what is counted through the second half of the key, which is lent as its part from the middle on, and through the ciphertext
rest_is : (private cipher : List ℕ) (n : ℕ) {second third rest : Option ℕ}
    → length private ≡ 3 * (n / 2) + 3 * (n / 2) → n % 2 ≡ 0
    → second ≡ position too_large (groups (take (length private - length private / 2) (drop (length private / 2) private)))
    → third ≡ position too_large (groups cipher) → rest ≡ option_or second (option_map (λ at. n + at) third)
    → rest ≡ position too_large (flatten (groups (second_half private) ∷ groups cipher ∷ []))
unfolding second_half
rest_is private cipher n long even second third =
    counted too_large (groups (second_half private)) (groups cipher ∷ []) (long_second (n / 2) private long ∙ omega (arith, even))
    (second ∙ ap (λ bytes. position too_large (groups bytes)) (part_to_end private (length private / 2))) (counted_one too_large (groups cipher) third)

pub through-requires : goal.through-requires
through-requires c =
    counts_on too_large (groups c.args.cipher.now) _ c.unpack-third.ensures.value (omega (arith, length_groups c.args.cipher.now, c.requires))

pub through-requires-2 : goal.through-requires-2
through-requires-2 c =
    let private : List ℕ = c.args.private.now in
    let cipher : List ℕ = c.args.cipher.now in
    let second = groups (second_half private) in
    let third = groups cipher in
    let rest = rest_is private cipher _ c.requires.inputs.0 c.requires.outputs.0 c.unpack-second.ensures.value c.unpack-third.ensures.value c.through.ensures in
    counts_on too_large (flatten (second ∷ third ∷ [])) _ rest
    (omega (arith, length_through second (third ∷ []), length_one third, long_second (length c.args.f.now / 2) private c.requires.inputs.0, length_groups cipher, c.requires))

pub returns : goal.returns
unfolding first_half second_half
returns c =
    let private : List ℕ = c.args.private.now in
    let cipher : List ℕ = c.args.cipher.now in
    let long = c.requires.inputs.0 in
    let even = c.requires.outputs.0 in
    let rest = rest_is private cipher _ long even c.unpack-second.ensures.value c.unpack-third.ensures.value c.through.ensures in
    let long_F : length (groups (first_half private)) ≡ length c.args.f.now = long_first (length c.args.f.now / 2) private long ∙ omega (arith, even) in
    record {
      place = counted too_large (groups (first_half private)) (groups (second_half private) ∷ groups cipher ∷ []) long_F c.unpack-first.ensures.value rest c.through-2.ensures
          ∙ ap (position too_large) (flatten_halves (length c.args.f.now / 2) private long (groups cipher ∷ []));
      f_after = c.unpack-first.ensures.list_after;
      inverse_after = c.unpack-second.ensures.list_after ∙ ap groups (part_to_end private (length private / 2));
      c_after = c.unpack-third.ensures.list_after;
    }
