-- When the halves are handed back: by the set, and by the key's length where the set is known. And where the second half begins.
-- Assumes nothing.
use mathlib.Core.Bool.{true, false}
use mathlib.Core.List.{List}
use mathlib.Core.Logic.{◌≢◌}
use mathlib.Core.Path.{◌≡◌, sym, ap, ◌∙◌}
use Prim.Native.Nat.{ℕ, ◌/◌}
use native.Mathlib.Omega.{arith}
use lib.Dec.{eqb}
use lib.ListN.{length}
use borrow.Author.Tests.{eq-eqb, ne_eqb}
use Rattle.std.proofs.Common.{Some, None, zero-add}
use Rattle.answers.specs.declared.Parameters.{Parameters}
use Rattle.answers.specs.Sets.{set_of, for_set}
use Rattle.answers.proofs.Exits.{for_known}
use Rattle.answers.proofs.SetLaws.{known_set}
use Rattle.calls_halves.specs.Halves.{handed, further}

-- no byte further on is the same place
pub nothing_further : (p : ℕ × ℕ) → p ≡ further p 0
unfolding further
nothing_further p = ap (λ k. (p.0, k)) (sym (zero-add p.1))

module _ (set : ℕ) (key : List ℕ) where
  pub handed_unknown : set_of set ≡ None → handed set key ≡ false
  unfolding handed for_set
  handed_unknown e = ap (λ c. for_set c false (λ s. eqb (length key) s.private)) e

  module _ (s : Parameters) (e : set_of set ≡ Some s) where
    by_length : handed set key ≡ eqb (length key) s.private
    unfolding handed
    by_length = for_known set s false (λ p. eqb (length key) p.private) e

    pub handed_known : length key ≡ s.private → handed set key ≡ true
    handed_known h = by_length ∙ eq-eqb (length key) s.private h

    pub handed_other : length key ≢ s.private → handed set key ≡ false
    handed_other h = by_length ∙ ne_eqb (length key) s.private h

    -- the halves are as long as each other
    pub middle : length key ≡ s.private → s.packed ≡ length key / 2
    middle h = omega (arith, h, (known_set set s e).private)
