-- Parsing a printed number, term or polynomial gives it back: place by place, a zero is left out and stays, another number is stored.
-- Assumes nothing.
use mathlib.Core.Path.{◌≡◌, refl, ap, ap₂, ◌∙◌, subst}
use mathlib.Core.Bool.{true}
use mathlib.Core.List.{List, [], ◌∷◌, ◌++◌}
use Rattle.std.proofs.Common.{Some}
use Prim.Native.Nat.{ℕ, zero, suc, ◌+◌, ◌≤◌, ◌<◌}
use native.Mathlib.Omega.{arith}
use lib.Dec.{eqb-suc-zero}
use lib.ListN.{length, get_or, length-append}
use lib.Seq.{append_snoc, set_at}
use borrow.Author.Tests.{le-leb, lt-ltb, ne_eqb}
use Rattle.lists.specs.Tab.{tab}
use Rattle.residue.specs.Field.{q}
use Rattle.residue.specs.Residues.{Residues}
use Rattle.text.specs.Numerals.{number}
use Rattle.text.specs.Terms.{term_of, term, allowed, terms}
use Rattle.text.specs.Polynomials.{zeros, polynomial}
use Rattle.text.proofs.NumeralLaws.{number_is}
use Rattle.text.proofs.TermLaws.{terms_more}
use Rattle.print.specs.Printing.{decimal, printed_term, printed_terms, joined, printed_polynomial}
use Rattle.print.proofs.Each.{Each, more}
use Rattle.print.proofs.JoinedLaws.{joined_first}
use Rattle.print.proofs.PrintingLaws.{terms_some}
use Rattle.print.proofs.BackLaws.{spelled_decimal, decimal_pass, Without, split_joined, terms_no_comma, index_back, value_back}

-- ---- numbers and terms

-- parsing a printed number gives it back
pub number_printed : (v : ℕ) → v < 100000 → number (decimal v) ≡ Some v
number_printed v h = number_is (decimal v) (decimal_pass v h) ∙ ap Some (spelled_decimal v h)

-- parsing a printed term gives its index and its value back
pub term_printed : (i v : ℕ) → i < 100000 → v < 100000 → term (printed_term i v) ≡ Some (i, v)
unfolding term term_of
term_printed i v h k = ap₂ term_of (ap number (index_back i v) ∙ number_printed i h) (ap number (value_back i v) ∙ number_printed v k)

-- "indices strictly rising, below n, values 1..3456": such a term passes
allowed_pass : (n low i v : ℕ) → low ≤ i → i < n → 1 ≤ v → v < q → allowed n low i v ≡ true
unfolding allowed
allowed_pass n low i v rising below nonzero residue =
    simp (le-leb low i rising, lt-ltb i n below, le-leb 1 v nonzero, le-leb v 3456 (omega arith))

-- ---- the terms of a list

-- at place i of the n residues l ++ vs: l stands before it, and each index from low on may come next
record At (n low i : ℕ) (l vs : List ℕ) : Type 0 where
  few : n ≤ 100000
  before : length l ≡ i
  after : i + length vs ≡ n
  rising : low ≤ i
  residues : (k : ℕ) → k < length vs → get_or vs k 0 < q

-- at the next place
at_next : {n low i v : ℕ} {l vs : List ℕ} → At n low i l (v ∷ vs) → (low' : ℕ) → low' ≤ suc i → At n low' (suc i) (l ++ (v ∷ [])) vs
at_next {v = v} {l = l} p low' h = record {
  few = p.few;
  before = length-append l (v ∷ []) ∙ omega arith;
  after = omega arith;
  rising = h;
  residues = λ k b. p.residues (suc k) (omega arith);
}

-- the term of a nonzero number is stored in place of the 0 at i
terms_store : {n low i v : ℕ} {l vs : List ℕ} → At n low i l (v ∷ vs) → 1 ≤ v → (zs : List ℕ) (ts : List (List ℕ))
    → terms n low (l ++ (0 ∷ zs)) (printed_term i v ∷ ts) ≡ terms n (suc i) (l ++ (v ∷ zs)) ts
terms_store {n} {low} {i} {v} {l} p nonzero zs ts =
    let residue : v < q = p.residues 0 (omega arith) in
    terms_more n low (l ++ (0 ∷ zs)) (printed_term i v) ts i v
    (term_printed i v (omega arith) (omega arith))
    (allowed_pass n low i v p.rising (omega arith) nonzero residue)
    ∙ ap (λ m. terms n (suc i) m ts) (set_at l 0 zs v i p.before)

-- the terms of vs into l and then zeros: l and then vs
terms_printed : {n low i : ℕ} {l : List ℕ} (vs : List ℕ) → At n low i l vs → terms n low (l ++ zeros (length vs)) (printed_terms i vs) ≡ Some (l ++ vs)
unfolding terms printed_terms zeros tab
terms_printed [] p = refl
terms_printed {low = low} (zero ∷ vs) p = simp append_snoc at (terms_printed vs (at_next p low (omega arith)))
terms_printed {i = i} (suc v ∷ vs) p =
    rw (eqb-suc-zero v)
    (terms_store p (omega arith) (zeros (length vs)) (printed_terms (suc i) vs)
    ∙ simp append_snoc at (terms_printed vs (at_next p (suc i) (omega arith))))

-- ---- the polynomial

-- pieces joined by commas are read as these pieces, where none is empty and none has a comma; "no terms means zero"
polynomial_joined : (n : ℕ) (ts : List (List ℕ)) → Each (λ t. 0 < length t) ts → Each (Without 44) ts
    → polynomial n (joined ts) ≡ terms n 0 (zeros n) ts
unfolding polynomial joined terms
polynomial_joined n [] filled no_comma = refl
polynomial_joined n (t ∷ ts) (more h filled) no_comma =
    rw (ne_eqb (length (joined (t ∷ ts))) 0 (λ e. omega (arith, joined_first t ts))) (ap (terms n 0 (zeros n)) (split_joined t ts no_comma))

-- parsing a printed polynomial gives it back
pub polynomial_printed : (n : ℕ) (l : List ℕ) → n ≤ 100000 → Residues n l → polynomial n (printed_polynomial l) ≡ Some l
unfolding printed_polynomial
polynomial_printed n l few r =
    polynomial_joined n (printed_terms 0 l) (terms_some 0 l) (terms_no_comma 0 l)
    ∙ subst (λ k. terms n 0 (zeros k) (printed_terms 0 l) ≡ Some l) r.long (terms_printed l start)
  where
    start : At n 0 0 [] l
    start = record {
      few = few;
      before = refl;
      after = omega (arith, r.long);
      rising = omega arith;
      residues = λ k h. r.low k (omega (arith, r.long));
    }
