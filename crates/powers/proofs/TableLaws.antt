-- The table of powers: its rule by one computed test that walks the list, and entry i = 7^i from the rule.
-- Assumes nothing.
use mathlib.Core.Path.{◌≡◌, sym, ap, ◌∙◌, subst}
use mathlib.Core.Bool.{Bool, true, ◌&&◌}
use mathlib.Core.List.{List, [], ◌∷◌}
use Prim.Native.Nat.{ℕ, zero, suc, ◌<◌}
use native.Mathlib.Numerals.{add-one}
use native.Mathlib.Omega.{arith}
use lib.Dec.{T, eqb, eqb→eq}
use lib.ListN.{length, get_or}
use Rattle.residue.specs.Field.{one, generator, mulq, powq}
use Rattle.lists.proofs.Every.{and_left, and_right}
use Rattle.residue.proofs.PowerLaws.{powq_zero, powq_suc}
use Rattle.powers.specs.Powers.{Powers}

-- the test: the list starts with x, and each next entry is g times the one before
unfoldable pub chain : ℕ → ℕ → List ℕ → Bool
chain g x [] = true
chain g x (y ∷ ys) = eqb y x && chain g (mulq g y) ys

chain_first : (g x : ℕ) (l : List ℕ) → T (chain g x l) → 0 < length l → get_or l 0 0 ≡ x
unfolding chain
chain_first g x [] t h = absurd (omega arith)
chain_first g x (y ∷ ys) t h = eqb→eq y x (and_left (eqb y x) (chain g (mulq g y) ys) t)

chain_next : (g x : ℕ) (l : List ℕ) → T (chain g x l) → (i : ℕ) → suc i < length l → get_or l (suc i) 0 ≡ mulq g (get_or l i 0)
unfolding chain
chain_next g x [] t i h = absurd (omega arith)
chain_next g x (y ∷ ys) t zero h = chain_first g (mulq g y) ys (and_right (eqb y x) (chain g (mulq g y) ys) t) (omega arith)
chain_next g x (y ∷ ys) t (suc i) h = chain_next g (mulq g y) ys (and_right (eqb y x) (chain g (mulq g y) ys) t) i (omega arith)

-- a list of 3,456 entries that passes the test has the rule
pub powers_of : (g x : ℕ) (l : List ℕ) → length l ≡ 3456 → chain g x l ≡ true → Powers g x l
powers_of g x l e t =
    record {
      long = e;
      first = chain_first g x l passed (omega (arith, e));
      next = λ i h. ap (λ k. get_or l k 0) (add-one i) ∙ chain_next g x l passed i (omega (arith, e));
    }
  where
    passed : T (chain g x l)
    passed = subst T (sym t) tt

-- entry i is 7^i
pub powers_at : {l : List ℕ} → Powers generator one l → (i : ℕ) → i < 3456 → get_or l i 0 ≡ powq generator i
powers_at r zero h = r.first ∙ sym (powq_zero generator)
powers_at {l} r (suc i) h =
    ap (λ k. get_or l k 0) (sym (add-one i)) ∙ r.next i (omega arith) ∙ ap (mulq generator) (powers_at r i (omega arith))
    ∙ sym (powq_suc generator i)
