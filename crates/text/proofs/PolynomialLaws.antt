-- The laws of polynomials in text: the two cases of one, what its reader owes at each exit, and that what is read is n residues.
-- Assumes nothing.
use mathlib.Core.Path.{◌≡◌, refl, sym, ap, ◌∙◌, subst}
use mathlib.Core.Bool.{Bool, true, false, cond, true≢false, false≢true}
use mathlib.Core.List.{List, [], ◌∷◌}
use Rattle.std.proofs.Common.{Option, Some, None}
use Prim.Native.Nat.{ℕ, zero, suc, ◌≤◌, ◌<◌}
use native.Mathlib.Decide.{ℕ_discrete}
use native.Mathlib.Omega.{arith}
use lib.Dec.{eqb}
use lib.ListN.{length, get_or, set, replicate, length-set}
use lib.Seq.{get_or-set_same, get_or-set_other}
use borrow.Author.Tests.{eq-eqb, ne_eqb}
use Rattle.residue.specs.Field.{q}
use Rattle.residue.specs.Residues.{Residues}
use Rattle.lists.specs.Tab.{tab}
use Rattle.lists.proofs.TabLaws.{length_tab, get_or_tab}
use Rattle.text.specs.Lines.{comma, split}
use Rattle.text.specs.Terms.{term, allowed, on_term, terms}
use Rattle.text.specs.Polynomials.{zeros, polynomial, Reads}
use Rattle.text.proofs.TermLaws.{allowed_is}

-- a list filled with zeros
pub zeros_filled : (n : ℕ) → replicate n 0 ≡ zeros n
unfolding zeros tab
zeros_filled zero = refl
zeros_filled (suc n) = ap (λ l. 0 ∷ l) (zeros_filled n)

-- ---- the two cases

module _ (n : ℕ) (s : List ℕ) where
  -- no bytes: zero
  pub polynomial_zero : length s ≡ 0 → polynomial n s ≡ Some (zeros n)
  unfolding polynomial
  polynomial_zero e = simp (eq-eqb (length s) 0 e)

  -- some bytes: their terms into a list z of n zeros
  pub polynomial_terms : (length s ≡ 0 → ⊥) → (z : List ℕ) → z ≡ zeros n → terms (length z) 0 z (split comma s) ≡ polynomial n s
  unfolding polynomial zeros
  polynomial_terms h z e = simp (ne_eqb (length s) 0 h, e, length_tab {A = ℕ} n (λ _. 0))

-- ---- what the reader owes at each exit

-- no polynomial, and a polynomial l
pub reads_none : (after : List ℕ) {o : Option (List ℕ)} → o ≡ None → Reads false after o
unfolding Reads
reads_none after e = rw e refl

pub reads_some : (l : List ℕ) {o : Option (List ℕ)} → o ≡ Some l → Reads true l o
unfolding Reads
reads_some l e = rw e (refl, refl)

-- what a reader that owes it has read
pub reads_good : (after : List ℕ) (o : Option (List ℕ)) → Reads true after o → o ≡ Some after
unfolding Reads
reads_good after None e = absurd (true≢false e)
reads_good after (Some l) e = ap Some (sym e.1)

pub reads_bad : (after : List ℕ) (o : Option (List ℕ)) → Reads false after o → o ≡ None
unfolding Reads
reads_bad after None e = refl
reads_bad after (Some l) e = absurd (false≢true e.0)

-- ---- a polynomial is n residues

-- zero is n residues, and stays n residues when one of them is set
zeros_residues : (n : ℕ) → Residues n (zeros n)
unfolding zeros
zeros_residues n = record { long = length_tab n (λ _. 0); low = λ i h. rw (get_or_tab {A = ℕ} n (λ _. 0) i 0 h) (omega arith) }

set_residues : (n : ℕ) (l : List ℕ) (i v : ℕ) → Residues n l → v ≤ 3456 → Residues n (set l i v)
set_residues n l i v r h = record { long = length-set l i v ∙ r.long; low = λ k b. by k b (ℕ_discrete k i) }
  where
    by : (k : ℕ) → k < n → Dec (k ≡ i) → get_or (set l i v) k 0 < q
    by k b (yes p) = rw (p, get_or-set_same l i v 0 (omega (arith, r.long))) (omega arith)
    by k b (no p) = rw (get_or-set_other l i k v 0 p) (r.low k b)

-- each term leaves n residues
terms_residues : (n low : ℕ) (l : List ℕ) (ts : List (List ℕ)) {l' : List ℕ} → Residues n l → terms n low l ts ≡ Some l' → Residues n l'
unfolding terms on_term
terms_residues n low l [] {l'} r e = let same : l ≡ l' = cc in subst (Residues n) same r
terms_residues n low l (t ∷ ts) {l'} r e = by (term t) (λ i v. terms_residues n (suc i) (set l i v) ts) e
  where
    last : (i v : ℕ) (b : Bool) → allowed n low i v ≡ b → (Residues n (set l i v) → terms n (suc i) (set l i v) ts ≡ Some l' → Residues n l')
        → cond b (terms n (suc i) (set l i v) ts) None ≡ Some l' → Residues n l'
    last i v true a f e = f (set_residues n l i v r (allowed_is n low i v a).most) e
    last i v false a f e = let z : ◌≡◌ {A = ℕ} 0 1 = cc in absurd (omega arith)

    by : (x : Option (ℕ × ℕ)) → ((i v : ℕ) → Residues n (set l i v) → terms n (suc i) (set l i v) ts ≡ Some l' → Residues n l')
        → on_term (λ low' m. terms n low' m ts) n low l x ≡ Some l' → Residues n l'
    by None f e = let z : ◌≡◌ {A = ℕ} 0 1 = cc in absurd (omega arith)
    by (Some (i, v)) f e = last i v (allowed n low i v) refl (f i v) e

-- what is read is n residues
pub polynomial_residues : (n : ℕ) (s : List ℕ) {l : List ℕ} → polynomial n s ≡ Some l → Residues n l
unfolding polynomial
polynomial_residues n s {l} e = by (eqb (length s) 0) e
  where
    by : (b : Bool) → cond b (Some (zeros n)) (terms n 0 (zeros n) (split comma s)) ≡ Some l → Residues n l
    by true e = let same : zeros n ≡ l = cc in subst (Residues n) same (zeros_residues n)
    by false e = terms_residues n 0 (zeros n) (split comma s) (zeros_residues n) e
