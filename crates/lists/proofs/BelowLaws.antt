-- Lists of numbers below m: tables of such numbers, lists put together from such lists, and their parts.
-- Assumes nothing.
use mathlib.Core.List.{List, [], ◌∷◌, ◌++◌}
use Prim.Native.Nat.{ℕ, zero, suc, ◌<◌}
use native.Mathlib.Omega.{arith}
use lib.ListN.{length, get_or, take, drop}
use lib.Seq.{get_or-drop}
use Rattle.lists.specs.Tab.{tab}
use Rattle.lists.specs.Below.{Below}
use Rattle.lists.proofs.TabLaws.{all_tab}

module _ {m : ℕ} where
  -- no number at all
  pub below_nil : 0 < m → Below m []
  below_nil some = record { low = λ i. some }

  -- one more number, and one less
  below_cons : {x : ℕ} {xs : List ℕ} → x < m → Below m xs → Below m (x ∷ xs)
  below_cons {x} {xs} a b = record { low = at }
    where
      at : (i : ℕ) → get_or (x ∷ xs) i 0 < m
      at zero = a
      at (suc i) = b.low i

  below_rest : {x : ℕ} {xs : List ℕ} → Below m (x ∷ xs) → Below m xs
  below_rest h = record { low = λ i. h.low (suc i) }

  -- a list by its places: past them stands 0
  pub below_places : 0 < m → (l : List ℕ) → ((i : ℕ) → i < length l → get_or l i 0 < m) → Below m l
  below_places some [] h = below_nil some
  below_places some (x ∷ l) h = below_cons (h 0 (omega arith)) (below_places some l (λ i b. h (suc i) (omega arith)))

  -- a table
  pub below_tab : 0 < m → (n : ℕ) (f : ℕ → ℕ) → ((i : ℕ) → f i < m) → Below m (tab n f)
  below_tab some n f h = record { low = all_tab (λ x. x < m) 0 some n f h }

  -- one list after another
  pub below_append : (xs : List ℕ) {ys : List ℕ} → Below m xs → Below m ys → Below m (xs ++ ys)
  below_append [] a b = b
  below_append (x ∷ xs) a b = below_cons (a.low 0) (below_append xs (below_rest a) b)

  -- the first k numbers, and the others
  pub below_take : (k : ℕ) (l : List ℕ) → Below m l → Below m (take k l)
  below_take zero l h = below_nil (omega (arith, h.low 0))
  below_take (suc k) [] h = h
  below_take (suc k) (x ∷ l) h = below_cons (h.low 0) (below_take k l (below_rest h))

  pub below_drop : (k : ℕ) (l : List ℕ) → Below m l → Below m (drop k l)
  below_drop k l h = record { low = λ i. rw (get_or-drop k l i 0) (h.low _) }
