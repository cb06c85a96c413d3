-- What `product` owes at each of its exits, and to what it calls, by what its tests have told there.
-- Assumes nothing.
use mathlib.Core.Bool.{true, false, ◌&&◌}
use mathlib.Core.List.{List, [], ◌∷◌, flatten}
use mathlib.Core.Path.{◌≡◌, refl, sym, ◌∙◌}
use Prim.Native.Nat.{ℕ, ◌+◌, ◌<◌}
use native.Mathlib.Omega.{arith}
use lib.Dec.{eqb}
use lib.ListN.{length}
use borrow.Author.Tests.{eq-eqb}
use Rattle.std.proofs.Common.{Option, Some, None, Ok, Err, IfSome, position, option_map}
use Rattle.std.specs.Option.{option_or}
use Rattle.residue.specs.Large.{too_large}
use Rattle.residue.specs.Residues.{Residues}
use Rattle.algebra.specs.Numbers.{residues}
use Rattle.algebra.specs.Product.{product}
use Rattle.answers.specs.declared.Parameters.{Parameters}
use Rattle.answers.specs.declared.Refusal.TheVariants.{WrongLength, TooLarge}
use Rattle.answers.specs.Replies.{Reply, reply, leaves}
use Rattle.answers.specs.Sets.{set_of}
use Rattle.lists.proofs.FirstLaws.{through_clear}
use Rattle.residue.proofs.LargeLaws.{residues_through}
use Rattle.answers.proofs.Counting.{counted, counted_one, counts_on}
use Rattle.answers.proofs.Exits as X
use Rattle.answers.proofs.SetLaws.{IsSet, known_set}
use Rattle.calls_product.specs.Product.{product_reply, product_of, Product}

-- the search through both lists finds what the searches in the one and in the other tell
pub through_both : (a b : List ℕ) {n : ℕ} {first rest at : Option ℕ} → length a ≡ n → first ≡ position too_large a → rest ≡ position too_large b
    → at ≡ option_or first (option_map (λ i. n + i) rest) → at ≡ position too_large (flatten (a ∷ b ∷ []))
through_both a b long ef er e = counted too_large a (b ∷ []) long ef (counted_one too_large b er) e

module _ (set : ℕ) (a b before : List ℕ) where
  abbrev Holds : List ℕ → Reply → Type 0
  Holds after R = after ≡ leaves R (product_of set a b) before

  module _ (s : Parameters) (known : set_of set ≡ Some s) where
    pub wrong_length : (eqb (length a) s.n && (eqb (length b) s.n && eqb (length before) s.n)) ≡ false → Product set a b before (Err WrongLength) before
    unfolding Product product_reply leaves
    wrong_length f = X.wrong_length_lem (Holds before) set _ _ s known f refl

    module _ (long : (length a ≡ s.n) × (length b ≡ s.n) × (length before ≡ s.n)) where
      -- the places of the second list are counted on after those of the first
      pub counts : {rest : Option ℕ} → rest ≡ position too_large b → IfSome rest (λ at. s.n + at < 65536)
      counts e = let is_set : IsSet set s = known_set set s known in counts_on too_large b s.n e (omega (arith, is_set.small, long))

      fit : (eqb (length a) s.n && (eqb (length b) s.n && eqb (length before) s.n)) ≡ true
      fit = simp (eq-eqb (length a) s.n long.0, eq-eqb (length b) s.n long.1, eq-eqb (length before) s.n long.2)

      pub found : (at : ℕ) → Some at ≡ position too_large (flatten (a ∷ b ∷ [])) → Product set a b before (Err (TooLarge at)) before
      unfolding Product product_reply leaves
      found at e =
          X.right_lengths (Holds before) set _ _ s known fit _ (X.too_large_at (Holds before) (a ∷ b ∷ []) (reply 0 0) at e refl)

      module _ (none : None ≡ position too_large (flatten (a ∷ b ∷ []))) where
        -- what passes the tests are two elements of the set
        pub elements : Residues (s.half + s.half) a × Residues (s.half + s.half) b × (length before ≡ s.half + s.half)
        elements =
            let is_set : IsSet set s = known_set set s known in
            let clear = X.nowhere too_large (a ∷ b ∷ []) none in (
              residues_through a (b ∷ []) (long.0 ∙ is_set.whole) clear,
              residues_through b [] (long.1 ∙ is_set.whole) (through_clear too_large a (b ∷ []) clear).1,
              long.2 ∙ is_set.whole,
            )

        pub done : (after : List ℕ) → after ≡ product residues s.half a b → Product set a b before (Ok tt) after
        unfolding Product product_reply product_of leaves
        done after e =
            X.right_lengths (Holds after) set _ _ s known fit _
            (X.too_large_nowhere (Holds after) (a ∷ b ∷ []) (reply 0 0) none _
            (X.done (Holds after) (e ∙ sym (X.for_known set s [] (λ p. product residues p.half a b) known))))
