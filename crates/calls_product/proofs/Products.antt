-- Two elements of a known set are multiplied: no refusal applies.
-- Assumes nothing.
use mathlib.Core.List.{List, [], ◌∷◌, flatten}
use mathlib.Core.Path.{◌≡◌, ap, ◌∙◌}
use Prim.Native.Nat.{ℕ, ◌≤◌}
use native.Mathlib.Omega.{arith}
use lib.ListN.{length}
use borrow.Author.Tests.{eq-eqb, le-ltb}
use Rattle.std.proofs.Common.{Some}
use Rattle.lists.specs.First.{first_through}
use Rattle.residue.specs.Large.{too_large, first_large}
use Rattle.residue.specs.Residues.{Residues}
use Rattle.answers.specs.declared.Parameters.{Parameters}
use Rattle.answers.specs.Answers.{Answer, number_of, place_of}
use Rattle.answers.specs.Replies.{Reply, reply, leaves}
use Rattle.answers.specs.Sets.{set_of, for_set}
use Rattle.answers.specs.Tests.{in_order, at_first, in_range}
use Rattle.lists.proofs.FirstLaws.{length_through, length_one, through_past, through_one}
use Rattle.residue.proofs.LargeLaws.{none_large}
use Rattle.calls_product.specs.Product.{product_reply, product_of, Product}

module _ (set : ℕ) (s : Parameters) (known : set_of set ≡ Some s) (a b : List ℕ) (ra : Residues s.n a) (rb : Residues s.n b) where
  none_too_large : length (flatten (a ∷ b ∷ [])) ≤ first_through too_large (a ∷ b ∷ [])
  unfolding first_large
  none_too_large =
      omega (
        arith,
        length_through a (b ∷ []),
        length_one b,
        ra.long,
        rb.long,
        none_large ra,
        none_large rb,
        through_past too_large a (b ∷ []) (omega (arith, ra.long, none_large ra)),
        through_one too_large b,
      )

  -- the answer is 0
  pub product_answers : (room : ℕ) → room ≡ s.n → product_reply set a b room ≡ reply 0 0
  unfolding product_reply in_order for_set in_range at_first
  product_answers room e =
      simp (
        known,
        eq-eqb (length a) s.n ra.long,
        eq-eqb (length b) s.n rb.long,
        eq-eqb room s.n e,
        le-ltb (first_through too_large (a ∷ b ∷ [])) (length (flatten (a ∷ b ∷ []))) none_too_large,
      )

  -- so the call answers 0 and writes the product
  pub product_done : (before : List ℕ) (r : Answer) (after : List ℕ) → length before ≡ s.n → Product set a b before r after
      → (number_of r ≡ 0) × (place_of r ≡ 0) × (after ≡ product_of set a b)
  unfolding Product leaves
  product_done before r after long p =
      let e = product_answers (length before) long in (
        p.number ∙ ap (λ (R : Reply). R.number) e,
        p.place ∙ ap (λ (R : Reply). R.place) e,
        p.content ∙ ap (λ (R : Reply). leaves R (product_of set a b) before) e,
      )
