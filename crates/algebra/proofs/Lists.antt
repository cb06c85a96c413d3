-- The definitions on lists of residues, place by place, are those of the ring: ι takes the one to the other.
-- Assumes nothing.
use mathlib.Core.Path.{◌≡◌, sym, ap, ap₂, ◌∙◌, subst}
use mathlib.Core.List.{List}
use Prim.Native.Nat.{ℕ, zero, suc, ◌+◌, ◌*◌, ◌<◌}
use native.Mathlib.Omega.{arith}
use lib.Dec.{ltb, lit<}
use lib.ListN.{get_or, get_or-eq_default}
use lib.Seq.{ext_get_or}
use Rattle.lists.specs.Tab.{tab}
use Rattle.residue.specs.Field.{q, powq, invq}
use Rattle.residue.specs.Residues.{Residues}
use Rattle.lists.proofs.TabLaws.{length_tab, get_or_tab, cond_both}
use Rattle.residue.proofs.FieldLaws.{addq_lt, subq_lt, mulq_lt, invq_lt}
use Rattle.algebra.specs.Numbers.{residues, sum}
use Rattle.algebra.specs.Product.{schoolbook, fold_low, fold_high, fold, product}
use Rattle.algebra.specs.SlotBySlot.{plus, minus, times, inverses}
use Rattle.algebra.specs.Transform.{exponent, value, image, slot_sum, partner, reverse}
use Rattle.algebra.proofs.Ring.{pow_mul}
use Rattle.algebra.proofs.Sum.{sum_cong}
use Rattle.algebra.proofs.Map.{map_sum, map_folded}
use Rattle.algebra.proofs.Value.{value_in, Short}
use Rattle.algebra.proofs.Image.{image_in, slot_sum_in, mix, reverse_in}
use Rattle.algebra.proofs.Field.{F, ι, ι_injective, ι_keeps, ι_powq}
open F use {num}
open F.num use {C, add as ◌⊕◌, mul as ◌⊗◌}

infixl 60 ◌⊕◌
infixl 70 ◌⊗◌
-- ---- lists of residues

abbrev pub coeffs : List ℕ → ℕ → C
coeffs l i = ι (get_or l i 0)

pub tab_residues : (n : ℕ) (f : ℕ → ℕ) → ((i : ℕ) → f i < q) → Residues n (tab n f)
tab_residues n f low = record { long = length_tab n f; low = λ i h. subst (λ x. x < q) (sym (get_or_tab n f i 0 h)) (low i) }

pub coeffs_tab : (n : ℕ) (f : ℕ → ℕ) (i : ℕ) → i < n → coeffs (tab n f) i ≡ ι (f i)
coeffs_tab n f i h = ap ι (get_or_tab n f i 0 h)

pub coeffs_short : {n : ℕ} {l : List ℕ} → Residues n l → Short F n (coeffs l)
coeffs_short {n} {l} r i h = ap ι (get_or-eq_default l 0 {n = i} (omega (arith, r.long))) ∙ ι_keeps.nil

-- two lists of residues that agree in the ring are equal
pub residues_ext : {n : ℕ} {k l : List ℕ} → Residues n k → Residues n l → ((i : ℕ) → i < n → coeffs k i ≡ coeffs l i) → k ≡ l
residues_ext {n} {k} {l} rk rl e =
    ext_get_or 0 k l (rk.long ∙ sym rl.long) (λ i h. same i (subst (λ m. i < m) rk.long h))
  where
    same : (i : ℕ) → i < n → get_or k i 0 ≡ get_or l i 0
    same i h = ι_injective (rk.low i h) (rl.low i h) (e i h)

-- ---- every result is a list of residues

fold_lt : (h : ℕ) (c : ℕ → ℕ) (i : ℕ) → fold residues h c i < q
unfolding fold fold_low fold_high
fold_lt h c i = cond_both (λ x. x < q) (ltb i h) (subq_lt _ _) (addq_lt _ _)

pub sum_lt : (n : ℕ) (f : ℕ → ℕ) → sum residues n f < q
unfolding sum
sum_lt zero f = lit< tt
sum_lt (suc n) f = addq_lt _ _

pub product_residues : (h : ℕ) (a b : List ℕ) → Residues (h + h) (product residues h a b)
unfolding product
product_residues h a b = tab_residues (h + h) _ (fold_lt h _)

pub times_residues : (n : ℕ) (a b : List ℕ) → Residues n (times n a b)
unfolding times
times_residues n a b = tab_residues n _ (λ k. mulq_lt _ _)

pub plus_residues : (n : ℕ) (a b : List ℕ) → Residues n (plus n a b)
unfolding plus
plus_residues n a b = tab_residues n _ (λ k. addq_lt _ _)

pub minus_residues : (n : ℕ) (a b : List ℕ) → Residues n (minus n a b)
unfolding minus
minus_residues n a b = tab_residues n _ (λ k. subq_lt _ _)

pub inverses_residues : (n : ℕ) (a : List ℕ) → Residues n (inverses n a)
unfolding inverses
inverses_residues n a = tab_residues n _ (λ k. invq_lt _)

value_lt : (n : ℕ) (a : List ℕ) (x : ℕ) → value n a x < q
unfolding value
value_lt n a x = sum_lt n _

pub image_residues : (h w : ℕ) (a : List ℕ) → Residues (h + h) (image h w a)
unfolding image
image_residues h w a = tab_residues (h + h) _ (λ k. value_lt (h + h) a _)

pub reverse_residues : (h w : ℕ) (A : List ℕ) → Residues (h + h) (reverse h w A)
unfolding reverse
reverse_residues h w A = tab_residues (h + h) _ (λ j. mulq_lt _ _)

-- ---- each definition in the ring

pub product_is : (h : ℕ) (a b : List ℕ) (i : ℕ) → i < h + h
    → coeffs (product residues h a b) i ≡ fold num h (schoolbook num (coeffs a) (coeffs b)) i
unfolding product
product_is h a b i l = coeffs_tab (h + h) _ i l ∙ map_folded residues num ι ι_keeps h _ _ i

pub times_is : (n : ℕ) (a b : List ℕ) (k : ℕ) → k < n → coeffs (times n a b) k ≡ coeffs a k ⊗ coeffs b k
unfolding times
times_is n a b k l = coeffs_tab n _ k l ∙ ι_keeps.mul _ _

pub plus_is : (n : ℕ) (a b : List ℕ) (k : ℕ) → k < n → coeffs (plus n a b) k ≡ coeffs a k ⊕ coeffs b k
unfolding plus
plus_is n a b k l = coeffs_tab n _ k l ∙ ι_keeps.add _ _

pub minus_is : (n : ℕ) (a b : List ℕ) (k : ℕ) → k < n → coeffs (minus n a b) k ≡ num.sub (coeffs a k) (coeffs b k)
unfolding minus
minus_is n a b k l = coeffs_tab n _ k l ∙ ι_keeps.sub _ _

value_is : (n : ℕ) (a : List ℕ) (x : ℕ) → ι (value n a x) ≡ value_in F n (coeffs a) (ι x)
unfolding value value_in
value_is n a x =
    map_sum residues num ι ι_keeps n _
    ∙ sum_cong num n (λ i _. ι_keeps.mul (get_or a i 0) (powq x i) ∙ ap (λ r. coeffs a i ⊗ r) (ι_powq x i))

pub image_is : (h w : ℕ) (a : List ℕ) (k : ℕ) → k < h + h → coeffs (image h w a) k ≡ image_in F h (ι w) (coeffs a) k
unfolding image image_in
image_is h w a k l =
    coeffs_tab (h + h) _ k l ∙ value_is (h + h) a (powq w (exponent k)) ∙ ap (value_in F (h + h) (coeffs a)) (ι_powq w (exponent k))

slot_sum_is : (h w : ℕ) (A : List ℕ) (j : ℕ) → ι (slot_sum h w A j) ≡ slot_sum_in F h (ι (invq w)) (coeffs A) j
unfolding slot_sum slot_sum_in
slot_sum_is h w A j =
    map_sum residues num ι ι_keeps (h + h) _
    ∙ sum_cong num (h + h) (λ k _. ι_keeps.mul (get_or A k 0) (powq (invq w) (exponent k * j))
    ∙ ap (λ r. coeffs A k ⊗ r) (ι_powq (invq w) (exponent k * j) ∙ pow_mul F (ι (invq w)) (exponent k) j))

pub reverse_is : (h w : ℕ) (A : List ℕ) (j : ℕ) → j < h + h
    → coeffs (reverse h w A) j ≡ reverse_in F h (ι (invq w)) (ι (invq (3 * h))) (coeffs A) j
unfolding reverse reverse_in mix
reverse_is h w A j l =
    coeffs_tab (h + h) _ j l ∙ ι_keeps.mul (invq (3 * h)) _
    ∙ ap (λ r. ι (invq (3 * h)) ⊗ r) (ι_keeps.sub _ _ ∙ ap₂ num.sub (ι_keeps.add _ _ ∙ ap (λ s. s ⊕ s) (slot_sum_is h w A j)) (slot_sum_is h w A (partner h j)))
