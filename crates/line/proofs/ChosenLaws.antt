-- The product in a set that the first line has chosen: the call answers 0, and what it writes can be printed.
-- Assumes nothing.
use mathlib.Core.List.{List, []}
use mathlib.Core.Path.{◌≡◌, sym, ap, ◌∙◌, subst}
use Prim.Native.Nat.{ℕ, ◌≤◌, ◌<◌}
use native.Mathlib.Omega.{arith}
use lib.ListN.{length}
use Rattle.residue.specs.Residues.{Residues}
use Rattle.algebra.specs.Numbers.{residues}
use Rattle.algebra.specs.Product.{product}
use Rattle.answers.specs.Answers.{Answer}
use Rattle.answers.specs.Answers.{number_of, place_of}
use Rattle.calls_product.specs.Product.{product_of, Product}
use Rattle.lines.specs.Output.{product_lines}
use Rattle.algebra.proofs.Lists.{product_residues}
use Rattle.answers.proofs.Exits.{for_known}
use Rattle.answers.proofs.SetLaws.{IsSet, known_set}
use Rattle.calls_product.proofs.Products.{product_done}
use Rattle.lines.proofs.InputLaws.{set_small}
use Rattle.lines.proofs.OutputLaws.{product_short}
use Rattle.line.specs.Chosen.{Chosen}

module _ {input : List ℕ} {set n : ℕ} (chosen : Chosen input set n) where
  is_set : IsSet set chosen.parameters
  is_set = known_set set chosen.parameters chosen.known

  pub chosen_small : n ≤ 1152
  chosen_small = omega (arith, chosen.size, is_set.small)

  pub set_below : set ≤ 1152
  set_below = omega (arith, is_set.size, is_set.small)

  -- the product is n residues
  product_set : (a b : List ℕ) → Residues n (product_of set a b)
  unfolding product_of
  product_set a b =
      subst (Residues n) (sym (for_known set chosen.parameters [] (λ s. product residues s.half a b) chosen.known))
      (subst (λ k. Residues k (product residues chosen.parameters.half a b)) (sym is_set.whole ∙ chosen.size)
      (product_residues chosen.parameters.half a b))

  module _ (a b : List ℕ) (ra : Residues n a) (rb : Residues n b) (before : List ℕ) (r : Answer) (after : List ℕ) where
    -- the answer is 0 and the product is written
    pub chosen_product : length before ≡ n → Product set a b before r after → (number_of r ≡ 0) × (place_of r ≡ 0) × (after ≡ product_of set a b)
    chosen_product long =
        product_done set chosen.parameters chosen.known a b (subst (λ k. Residues k a) (sym chosen.size) ra)
        (subst (λ k. Residues k b) (sym chosen.size) rb) before r after (long ∙ sym chosen.size)

  -- a set is named by the length of its lists
  pub chosen_long : (a b l : List ℕ) → l ≡ product_of set a b → length l ≡ set
  chosen_long a b l e = omega (arith, ap length e, (product_set a b).long, chosen.size, is_set.size)

  -- there is room for it
  pub chosen_room : (a b l : List ℕ) → l ≡ product_of set a b → (length l ≤ 1152) × (length (product_lines set l) ≤ 16384)
  chosen_room a b l e =
      let r = subst (Residues n) (sym e) (product_set a b) in
      let long : length l ≤ 1152 = omega (arith, r.long, chosen_small) in
      (long, product_short set l (set_small input set chosen.first) long (λ k h. omega (arith, r.low k (subst (λ m. k < m) r.long h))))
