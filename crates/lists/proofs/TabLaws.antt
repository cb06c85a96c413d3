-- The laws of tables: length, element, and that a list with the elements f 0, f 1, .. is the table of f. And of the choice by a test.
-- Assumes nothing.
use mathlib.Core.Path.{◌≡◌, refl, sym, ap, ◌∙◌, subst}
use mathlib.Core.Bool.{Bool, true, false, cond}
use mathlib.Core.List.{List, ◌∷◌, map}
use Prim.Native.Nat.{ℕ, zero, suc, ◌<◌}
use native.Mathlib.Nat.{not-suc-le-zero, le_of_suc-le-suc}
use native.Mathlib.Omega.{arith}
use lib.ListN.{length, get_or}
use lib.Seq.{ext_get_or}
use Rattle.lists.specs.Tab.{tab}

module _ {A : Type 0} where
  pub length_tab : (n : ℕ) (f : ℕ → A) → length (tab n f) ≡ n
  unfolding tab
  length_tab zero f = refl
  length_tab (suc n) f = ap suc (length_tab n (λ i. f (suc i)))

  pub get_or_tab : (n : ℕ) (f : ℕ → A) (i : ℕ) (d : A) → i < n → get_or (tab n f) i d ≡ f i
  unfolding tab
  get_or_tab zero f i d h = absurd (not-suc-le-zero h)
  get_or_tab (suc n) f zero d h = refl
  get_or_tab (suc n) f (suc i) d h = get_or_tab n (λ k. f (suc k)) i d (le_of_suc-le-suc h)

  -- a list of n elements, f 0, f 1, .., is the table of f
  pub tab_of : (d : A) (n : ℕ) (f : ℕ → A) (l : List A) → length l ≡ n → ((i : ℕ) → i < n → get_or l i d ≡ f i) → l ≡ tab n f
  tab_of d n f l e all =
      ext_get_or d l (tab n f) (e ∙ sym (length_tab n f)) (λ i h. same i (subst (λ (m : ℕ). i < m) e h))
    where
      same : (i : ℕ) → i < n → get_or l i d ≡ get_or (tab n f) i d
      same i h = all i h ∙ sym (get_or_tab n f i d h)

  -- two functions that agree below n have the same table
  pub tab_cong : (n : ℕ) {f g : ℕ → A} → ((i : ℕ) → i < n → f i ≡ g i) → tab n f ≡ tab n g
  unfolding tab
  tab_cong zero e = refl
  tab_cong (suc n) {f} {g} e =
      ap (λ x. x ∷ tab n (λ i. f (suc i))) (e 0 (omega arith)) ∙ ap (λ l. g 0 ∷ l) (tab_cong n (λ i h. e (suc i) (omega arith)))

-- what holds of each f i, and of the element that stands for none, holds throughout
pub all_tab : {A : Type 0} (P : A → Type 0) (d : A) → P d → (n : ℕ) (f : ℕ → A) → ((i : ℕ) → P (f i)) → (i : ℕ) → P (get_or (tab n f) i d)
unfolding tab
all_tab P d e zero f h i = e
all_tab P d e (suc n) f h zero = h 0
all_tab P d e (suc n) f h (suc i) = all_tab P d e n (λ k. f (suc k)) (λ k. h (suc k)) i

-- a table mapped
pub map_tab : {A B : Type 0} (g : A → B) (n : ℕ) (f : ℕ → A) → map g (tab n f) ≡ tab n (λ i. g (f i))
unfolding tab
map_tab g zero f = refl
map_tab g (suc n) f = ap (λ l. g (f 0) ∷ l) (map_tab g n (λ i. f (suc i)))

-- a list mapped is the table of what its elements are mapped to
pub tab_map : {A B : Type 0} (g : A → B) (d : A) (n : ℕ) (l : List A) → length l ≡ n → tab n (λ i. g (get_or l i d)) ≡ map g l
tab_map g d n l e = sym (map_tab g n (λ i. get_or l i d)) ∙ ap (map g) (sym (tab_of d n (λ i. get_or l i d) l e (λ i h. refl)))

-- a choice mapped
pub map_cond : {A B : Type 0} (g : A → B) (t : Bool) (a b : A) → g (cond t a b) ≡ cond t (g a) (g b)
map_cond g true a b = refl
map_cond g false a b = refl

-- what holds of both choices holds of the choice
pub cond_both : {A : Type 0} (P : A → Type 0) (t : Bool) {a b : A} → P a → P b → P (cond t a b)
cond_both P true x y = x
cond_both P false x y = y
