-- What folding makes of the powers of x: x^n = x^h - 1 and x^3h = -1, n = 2h, and so of every product of two of them; and their images.
-- Assumes nothing.
use mathlib.Core.Bool.{cond}
use mathlib.Core.Path.{◌≡◌, refl, sym, ap, ap₂, ◌∙◌}
use mathlib.Core.Logic.{◌≢◌}
use mathlib.Core.List.{List}
use Prim.Native.Nat.{ℕ, suc, ◌+◌, ◌-◌, ◌≤◌, ◌<◌}
use native.Mathlib.Decide.{dec_le, dec_lt, ℕ_discrete}
use native.Mathlib.Nat as N
use native.Mathlib.Omega.{arith}
use lib.Dec.{eqb, lit<}
use lib.ListN.{get_or}
use borrow.Author.Tests.{eq-eqb, ne_eqb}
use Rattle.lists.specs.Tab.{tab}
use Rattle.residue.specs.Field.{q, negq, subq, powq}
use Rattle.residue.specs.Residues.{Residues}
use Rattle.lists.proofs.TabLaws.{get_or_tab, map_cond, cond_both}
use Rattle.residue.proofs.FieldLaws.{negq_lt, subq_lt, powq_lt}
use Rattle.algebra.specs.Numbers.{residues}
use Rattle.algebra.specs.Product.{schoolbook, fold_low, fold_high, fold, product, monomial}
use Rattle.algebra.specs.Transform.{exponent, image}
use Rattle.algebra.proofs.Ring.{Ring, pow, units, add_nil, nil_add, one_mul, mul_nil, nil_mul, sub_is}
use Rattle.algebra.proofs.Sum.{sum_single, sum_nil}
use Rattle.algebra.proofs.Halves.{halves}
use Rattle.algebra.proofs.Value.{value_in, fold_low_lem, fold_high_lem}
use Rattle.algebra.proofs.Image.{image_in}
use Rattle.algebra.proofs.Field.{F, ι, ι_injective, ι_keeps, ι_one, ι_negq, ι_powq}
use Rattle.algebra.proofs.Lists.{coeffs, coeffs_short, coeffs_tab, tab_residues, residues_ext, product_residues, image_residues, product_is, image_is}

module _ (R : Ring) where
  open R use {num, one as 𝟙, neg as ν}
  open R.num use {C, nil as 𝟘, add as ◌⊕◌, mul as ◌⊗◌}

  infixl 60 ◌⊕◌
  infixl 70 ◌⊗◌
  -- the coefficients of x^s
  unfoldable pub single : ℕ → ℕ → C
  single s k = cond (eqb k s) 𝟙 𝟘

  pub single_on : (s : ℕ) → single s s ≡ 𝟙
  unfolding single
  single_on s = rw (eq-eqb s s refl)

  pub single_off : (s k : ℕ) → k ≢ s → single s k ≡ 𝟘
  unfolding single
  single_off s k ne = rw (ne_eqb k s ne)

  single_shift : (d s k : ℕ) → single (d + s) (d + k) ≡ single s k
  single_shift d s k = by (ℕ_discrete k s)
    where
      by : Dec (k ≡ s) → single (d + s) (d + k) ≡ single s k
      by (yes e) = rw e (single_on (d + s) ∙ sym (single_on s))
      by (no ne) = single_off (d + s) (d + k) (λ e. ne (omega arith)) ∙ sym (single_off s k ne)

  -- x^i x^j = x^(i + j)
  pub schoolbook_single : (i j m : ℕ) → schoolbook num (single i) (single j) m ≡ single (i + j) m
  unfolding schoolbook
  schoolbook_single i j m = by (dec_le i m)
    where
      by : Dec (i ≤ m) → schoolbook num (single i) (single j) m ≡ single (i + j) m
      by (yes l) =
          sum_single R (suc m) i _ (omega arith) (λ t _ ne. rw (single_off i t ne, nil_mul)) ∙ rw (single_on i, one_mul)
          (sym (ap (single (i + j)) (sym (N.add-sub_of_le l)) ∙ single_shift i j (m - i)))
      by (no l) =
          sum_nil R (suc m) _ (λ t h. rw (single_off i t (omega arith), nil_mul)) ∙ sym (single_off (i + j) m (omega arith))

  low_is : (h : ℕ) (c : ℕ → C) (i : ℕ) → i < h → fold num h c i ≡ c i ⊕ ν ⊗ (c (h + h + i) ⊕ c (h + h + (h + i)))
  unfolding fold_low
  low_is h c i l = fold_low_lem num h c i l ∙ sub_is R _ _

  high_is : (h : ℕ) (c : ℕ → C) (i : ℕ) → fold num h c (h + i) ≡ c (h + i) ⊕ c (h + h + i)
  unfolding fold_high
  high_is h c i = fold_high_lem num h c i

  module _ (h : ℕ) where
    -- below x^n nothing is folded
    pub fold_below : (s : ℕ) → s < h + h → (k : ℕ) → k < h + h → fold num h (single s) k ≡ single s k
    fold_below s l =
        halves h (λ k. fold num h (single s) k ≡ single s k)
        (λ j b. low_is h _ j b
        ∙ rw (single_off s (h + h + j) (omega arith), single_off s (h + h + (h + j)) (omega arith)) (simp units))
        (λ j b. high_is h _ j ∙ rw (single_off s (h + h + j) (omega arith), add_nil))

    -- x^(n + i) = x^(h + i) - x^i
    pub fold_middle : (i : ℕ) → i < h → (k : ℕ) → k < h + h
        → fold num h (single (h + h + i)) k ≡ num.sub (single (h + i) k) (single i k)
    fold_middle i l =
        halves h (λ k. fold num h (single (h + h + i)) k ≡ num.sub (single (h + i) k) (single i k))
        (λ j b. low_is h _ j b
        ∙ rw (single_off (h + h + i) j (omega arith), single_shift (h + h) i j, single_off (h + h + i) (h + h + (h + j)) (omega arith), add_nil)
        (sym (sub_is R _ _ ∙ rw (single_off (h + i) j (omega arith)))))
        (λ j b. high_is h _ j ∙ rw (single_off (h + h + i) (h + j) (omega arith), single_shift (h + h) i j, nil_add)
        (sym (sub_is R _ _ ∙ rw (single_shift h i j, single_off i (h + j) (omega arith), mul_nil, add_nil))))

    -- x^(3h + i) = -x^i
    pub fold_top : (i : ℕ) → i < h → (k : ℕ) → k < h + h → fold num h (single (h + h + (h + i))) k ≡ ν ⊗ single i k
    fold_top i l =
        halves h (λ k. fold num h (single (h + h + (h + i))) k ≡ ν ⊗ single i k)
        (λ j b. low_is h _ j b
        ∙ rw (single_off (h + h + (h + i)) j (omega arith), single_off (h + h + (h + i)) (h + h + j) (omega arith), single_shift (h + h) (h + i) (h + j), single_shift h i j)
        (simp units))
        (λ j b. high_is h _ j
        ∙ rw (single_off (h + h + (h + i)) (h + j) (omega arith), single_off (h + h + (h + i)) (h + h + j) (omega arith), single_off i (h + j) (omega arith))
        (simp units))

-- ---- on lists of residues

monomial_residues : (n i : ℕ) → Residues n (monomial n i)
unfolding monomial
monomial_residues n i = tab_residues n _ (λ k. cond_both (λ x. x < q) (eqb k i) (lit< tt) (lit< tt))

monomial_is : (n i k : ℕ) → i < n → coeffs (monomial n i) k ≡ single F i k
unfolding monomial single
monomial_is n i k l = by (dec_lt k n)
  where
    by : Dec (k < n) → coeffs (monomial n i) k ≡ single F i k
    by (yes b) = ap ι (get_or_tab n _ k 0 b) ∙ map_cond ι (eqb k i) 1 0 ∙ rw (ι_one, ι_keeps.nil)
    by (no b) = coeffs_short (monomial_residues n i) k (omega arith) ∙ sym (single_off F i k (omega arith))

module _ (h i j : ℕ) (hi : i < h + h) (hj : j < h + h) where
  abbrev x^ : ℕ → List ℕ
  x^ = monomial (h + h)

  product_single : (k : ℕ) → k < h + h → coeffs (product residues h (x^ i) (x^ j)) k ≡ fold F.num h (single F (i + j)) k
  product_single k l =
      product_is h (x^ i) (x^ j) k l
      ∙ ap₂ (λ a b. fold F.num h (schoolbook F.num a b) k) (λ t m. monomial_is (h + h) i m hi t) (λ t m. monomial_is (h + h) j m hj t)
      ∙ ap (λ c. fold F.num h c k) (λ t m. schoolbook_single F i j m t)

  -- x^i x^j = x^(i + j), nothing folded
  pub product_below : i + j < h + h → product residues h (x^ i) (x^ j) ≡ x^ (i + j)
  product_below l =
      residues_ext (product_residues h (x^ i) (x^ j)) (monomial_residues (h + h) (i + j))
      (λ k b. product_single k b ∙ fold_below F h (i + j) l k b ∙ sym (monomial_is (h + h) (i + j) k l))

  -- x^(n + s) = x^(h + s) - x^s
  pub product_middle : (s : ℕ) → s < h → i + j ≡ h + h + s
      → product residues h (x^ i) (x^ j) ≡ tab (h + h) (λ k. subq (get_or (x^ (h + s)) k 0) (get_or (x^ s) k 0))
  product_middle s l e =
      residues_ext (product_residues h (x^ i) (x^ j)) (tab_residues (h + h) _ (λ k. subq_lt _ _))
      (λ k b. product_single k b ∙ ap (λ m. fold F.num h (single F m) k) e ∙ fold_middle F h s l k b
      ∙ sym (coeffs_tab (h + h) _ k b ∙ ι_keeps.sub _ _
      ∙ ap₂ F.num.sub (monomial_is (h + h) (h + s) k (omega arith)) (monomial_is (h + h) s k (omega arith))))

  -- x^(3h + s) = -x^s
  pub product_top : (s : ℕ) → s < h → i + j ≡ h + h + (h + s)
      → product residues h (x^ i) (x^ j) ≡ tab (h + h) (λ k. negq (get_or (x^ s) k 0))
  product_top s l e =
      residues_ext (product_residues h (x^ i) (x^ j)) (tab_residues (h + h) _ (λ k. negq_lt _))
      (λ k b. product_single k b ∙ ap (λ m. fold F.num h (single F m) k) e ∙ fold_top F h s l k b
      ∙ sym (coeffs_tab (h + h) _ k b ∙ ι_negq _ ∙ ap (F.num.mul F.neg) (monomial_is (h + h) s k (omega arith))))

-- the image of x^i: (w^e)^i in the slot with the exponent e
pub image_monomial : (h w i k : ℕ) → i < h + h → k < h + h
    → get_or (image h w (monomial (h + h) i)) k 0 ≡ powq (powq w (exponent k)) i
unfolding image_in value_in
image_monomial h w i k hi hk =
    ι_injective ((image_residues h w (monomial (h + h) i)).low k hk) (powq_lt (powq w (exponent k)) i)
    (image_is h w (monomial (h + h) i) k hk
    ∙ sum_single F (h + h) i _ hi (λ j _ ne. rw (monomial_is (h + h) i j hi, single_off F i j ne, nil_mul))
    ∙ rw (monomial_is (h + h) i i hi, single_on F i, one_mul)
    (sym (ι_powq (powq w (exponent k)) i ∙ ap (λ z. pow F z i) (ι_powq w (exponent k)))))
