-- Groups of w elements put one after the other: their length, their elements, and a list as its groups. Once over w.
-- Assumes nothing.
use mathlib.Core.Path.{◌≡◌, sym, ap, ◌∙◌}
use mathlib.Core.List.{List, ◌++◌, append_assoc, flatten}
use Prim.Native.Nat.{ℕ, zero, suc, ◌+◌, ◌*◌, ◌/◌, ◌%◌, ◌<◌}
use native.Mathlib.Nat.{div-add-mod, div-lt_iff_lt-mul, mod-lt, pos_of_ne-zero, zero-add, suc-add}
use native.Mathlib.Omega.{arith}
use lib.ListN.{length, get_or, length-append, get_or-append}
use lib.Seq.{ext_get_or, get_or-append-add}
use Rattle.lists.specs.Tab.{tab}
use Rattle.lists.proofs.TabLaws.{length_tab, get_or_tab, tab_of, tab_cong}

module _ (w : ℕ) where
  -- k groups of w elements are w k elements
  pub length_flat : (k : ℕ) (g : ℕ → List ℕ) → ((i : ℕ) → length (g i) ≡ w) → length (flatten (tab k g)) ≡ w * k
  unfolding tab flatten
  length_flat zero g e = omega arith
  length_flat (suc k) g e =
      length-append (g 0) (flatten (tab k (λ i. g (suc i)))) ∙ omega (arith, e 0, length_flat k (λ i. g (suc i)) (λ i. e (suc i)))

  -- element w i + r of the whole is element r of group i
  get_or_flat : (k : ℕ) (g : ℕ → List ℕ) → ((i : ℕ) → length (g i) ≡ w) → (i r : ℕ) → i < k → r < w
      → get_or (flatten (tab k g)) (w * i + r) 0 ≡ get_or (g i) r 0
  unfolding tab flatten
  get_or_flat zero g e i r h b = absurd (omega arith)
  get_or_flat (suc k) g e zero r h b =
      ap (λ j. get_or (g 0 ++ flatten (tab k (λ i. g (suc i)))) j 0) (omega arith) ∙ get_or-append (g 0) _ 0 r (omega (arith, e 0))
  get_or_flat (suc k) g e (suc i) r h b =
      ap (λ j. get_or (g 0 ++ flatten (tab k (λ i. g (suc i)))) j 0) (omega (arith, e 0))
      ∙ get_or-append-add (g 0) (flatten (tab k (λ i. g (suc i)))) (w * i + r) 0
      ∙ get_or_flat k (λ i. g (suc i)) (λ i. e (suc i)) i r (omega arith) b

  -- the w elements from w i on are group i
  pub flat_at : (k : ℕ) (g : ℕ → List ℕ) → ((i : ℕ) → length (g i) ≡ w) → (i : ℕ) → i < k
      → tab w (λ r. get_or (flatten (tab k g)) (w * i + r) 0) ≡ g i
  flat_at k g e i h = sym (tab_of 0 w _ (g i) (e i) (λ r b. sym (get_or_flat k g e i r h b)))

  -- a list of w k elements is its k groups of w
  pub flat_of : (k : ℕ) (l : List ℕ) → length l ≡ w * k → l ≡ flatten (tab k (λ i. tab w (λ r. get_or l (w * i + r) 0)))
  flat_of k l e = ext_get_or 0 l (flatten (tab k g)) (e ∙ sym (length_flat k g long)) (λ j h. same j (omega (arith, e)))
    where
      g : ℕ → List ℕ
      g i = tab w (λ r. get_or l (w * i + r) 0)

      long : (i : ℕ) → length (g i) ≡ w
      long i = length_tab w (λ r. get_or l (w * i + r) 0)

      same : (j : ℕ) → j < w * k → get_or l j 0 ≡ get_or (flatten (tab k g)) j 0
      same j h =
          let p : 0 < w = pos_of_ne-zero (λ z. omega (arith, rw z at h)) in
          let s = div-add-mod j w in
          ap (λ j. get_or l j 0) (sym s) ∙ sym (get_or_tab w (λ r. get_or l (w * (j / w) + r) 0) (j % w) 0 (mod-lt j p))
          ∙ sym (get_or_flat k g long (j / w) (j % w) ((div-lt_iff_lt-mul p).1 (omega arith)) (mod-lt j p))
          ∙ ap (λ j. get_or (flatten (tab k g)) j 0) s

-- groups in two runs: the first k, then the others
pub flat_add : (k j : ℕ) (g : ℕ → List ℕ) → flatten (tab (k + j) g) ≡ flatten (tab k g) ++ flatten (tab j (λ i. g (k + i)))
unfolding tab flatten
flat_add zero j g = rw (zero-add j) (ap flatten (tab_cong j (λ i h. ap g (sym (zero-add i)))))
flat_add (suc k) j g =
    ap (λ n. flatten (tab n g)) (suc-add k j) ∙ ap (λ l. g 0 ++ l) (flat_add k j (λ i. g (suc i)))
    ∙ sym (append_assoc (g 0) (flatten (tab k (λ i. g (suc i)))) (flatten (tab j (λ i. g (suc (k + i))))))
    ∙ ap (λ l. g 0 ++ flatten (tab k (λ i. g (suc i))) ++ flatten l) (tab_cong j (λ i h. ap g (sym (suc-add k i))))
