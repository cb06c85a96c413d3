-- The laws of printed polynomials: the terms of a list and of its parts, the turn of the loop that prints them, and the length.
-- Assumes nothing.
use mathlib.Core.Path.{◌≡◌, sym, ap, ◌∙◌}
use mathlib.Core.Bool.{Bool, true, false, cond}
use mathlib.Core.List.{List, [], ◌∷◌, ◌++◌, append-nil}
use Prim.Native.Nat.{ℕ, suc, ◌+◌, ◌*◌, ◌≤◌, ◌<◌}
use native.Mathlib.Decide.{ℕ_discrete}
use native.Mathlib.Nat.{add-zero}
use native.Mathlib.Numerals.{add-one}
use native.Mathlib.Omega.{arith}
use lib.Dec.{eqb}
use lib.ListN.{length, get_or, take, drop, length-append, take-append-drop}
use lib.Seq.{length-take-le, take-suc}
use borrow.Author.Tests.{eq-eqb, ne_eqb}
use Rattle.lists.proofs.TabLaws.{cond_both}
use Rattle.print.specs.Printing.{decimal, printed_term, printed_terms, joined, printed_polynomial}
use Rattle.print.specs.Places.{printed_place}
use Rattle.print.proofs.Each.{Each, none, more}
use Rattle.print.proofs.DecimalLaws.{decimal_four}
use Rattle.print.proofs.JoinedLaws.{joined_more, joined_length, joined_longer}

-- ---- a term

-- two numbers and the colon
pub length_term : (i v : ℕ) → length (printed_term i v) ≡ length (decimal i) + (1 + length (decimal v))
unfolding printed_term
length_term i v = length-append (decimal i) (58 ∷ decimal v) ∙ omega arith

-- ---- what a place adds

-- a zero adds nothing
pub place_zero : (first : Bool) (i v : ℕ) → v ≡ 0 → printed_place first i v ≡ []
unfolding printed_place
place_zero first i v e = rw (eq-eqb v 0 e)

-- another number its term, where it is the first
pub place_first : (first : Bool) (i v : ℕ) → (v ≡ 0 → ⊥) → first ≡ true → printed_place first i v ≡ printed_term i v
unfolding printed_place
place_first first i v h e = rw (ne_eqb v 0 h, e)

-- and else a comma and its term
pub place_next : (first : Bool) (i v : ℕ) → (v ≡ 0 → ⊥) → first ≡ false → printed_place first i v ≡ 44 ∷ printed_term i v
unfolding printed_place
place_next first i v h e = rw (ne_eqb v 0 h, e)

-- ---- the terms of a list

-- those of two lists, one after the other
terms_append : (i : ℕ) (l m : List ℕ) → printed_terms i (l ++ m) ≡ printed_terms i l ++ printed_terms (i + length l) m
unfolding printed_terms
terms_append i [] m = ap (λ k. printed_terms k m) (sym (add-zero i))
terms_append i (v ∷ l) m = by (eqb v 0) (terms_append (suc i) l m ∙ ap (λ k. printed_terms (suc i) l ++ printed_terms k m) next)
  where
    next : suc i + length l ≡ i + suc (length l)
    next = omega arith

    by : (b : Bool) → printed_terms (suc i) (l ++ m) ≡ printed_terms (suc i) l ++ printed_terms (i + suc (length l)) m
        → cond b (printed_terms (suc i) (l ++ m)) (printed_term i v ∷ printed_terms (suc i) (l ++ m))
        ≡ cond b (printed_terms (suc i) l) (printed_term i v ∷ printed_terms (suc i) l) ++ printed_terms (i + suc (length l)) m
    by true e = e
    by false e = ap (λ ts. printed_term i v ∷ ts) e

-- none of them is empty
pub terms_some : (i : ℕ) (l : List ℕ) → Each (λ t. 0 < length t) (printed_terms i l)
unfolding printed_terms
terms_some i [] = none
terms_some i (v ∷ l) =
    let some : 0 < length (printed_term i v) = omega (arith, length_term i v) in
    cond_both (Each (λ t. 0 < length t)) (eqb v 0) (terms_some (suc i) l) (more some (terms_some (suc i) l))

-- ---- the polynomial

-- what is printed for a place more
place_more : (l : List ℕ) (i : ℕ) → i < length l
    → printed_polynomial (take (i + 1) l)
    ≡ printed_polynomial (take i l) ++ printed_place (eqb (length (printed_polynomial (take i l))) 0) i (get_or l i 0)
unfolding printed_polynomial printed_place printed_terms
place_more l i h =
    ap joined (ap (printed_terms 0) one_more ∙ terms_append 0 (take i l) (v ∷ []) ∙ ap (λ k. ts ++ printed_terms k (v ∷ [])) place)
    ∙ by (eqb v 0)
  where
    v : ℕ
    v = get_or l i 0

    ts : List (List ℕ)
    ts = printed_terms 0 (take i l)

    one_more : take (i + 1) l ≡ take i l ++ (v ∷ [])
    one_more = ap (λ k. take k l) (add-one i) ∙ take-suc l i 0 h

    place : 0 + length (take i l) ≡ i
    place = omega (arith, length-take-le i l (omega arith))

    by : (b : Bool) → joined (ts ++ cond b [] (printed_term i v ∷ []))
        ≡ joined ts ++ cond b [] (cond (eqb (length (joined ts)) 0) (printed_term i v) (44 ∷ printed_term i v))
    by true = ap joined (append-nil ts) ∙ sym (append-nil (joined ts))
    by false = joined_more (terms_some 0 (take i l)) (printed_term i v)

-- the loop's turn: its term is the first one as long as the place after what is printed is the place where printing began
pub printed_more : (l : List ℕ) (i at next : ℕ) → i < length l → next ≡ at + length (printed_polynomial (take i l))
    → printed_polynomial (take (i + 1) l) ≡ printed_polynomial (take i l) ++ printed_place (eqb next at) i (get_or l i 0)
printed_more l i at next h e =
    place_more l i h ∙ ap (λ b. printed_polynomial (take i l) ++ printed_place b i (get_or l i 0)) (by (ℕ_discrete long 0))
  where
    long : ℕ
    long = length (printed_polynomial (take i l))

    by : Dec (long ≡ 0) → eqb long 0 ≡ eqb next at
    by (yes z) = eq-eqb long 0 z ∙ sym (eq-eqb next at (omega arith))
    by (no z) = ne_eqb long 0 z ∙ sym (ne_eqb next at (λ (w : next ≡ at). z (omega arith)))

-- the first places take no more room than all
pub printed_within : (l : List ℕ) (n : ℕ) → length (printed_polynomial (take n l)) ≤ length (printed_polynomial l)
unfolding printed_polynomial
printed_within l n =
    let all = ap (printed_terms 0) (sym (take-append-drop n l)) ∙ terms_append 0 (take n l) (drop n l) in
    omega (arith, ap (λ ts. length (joined ts)) all, joined_longer (printed_terms 0 (take n l)) (printed_terms (0 + length (take n l)) (drop n l)))

-- ---- its length

-- four digits, a colon, four digits and a comma for a place, of a list whose first place is index i
terms_length : (i : ℕ) (l : List ℕ) → i + length l ≤ 10000 → ((k : ℕ) → k < length l → get_or l k 0 < 10000)
    → length (joined (printed_terms i l)) ≤ 10 * length l
unfolding printed_terms joined
terms_length i [] h low = omega arith
terms_length i (v ∷ l) h low = by (eqb v 0) (terms_length (suc i) l (omega arith) (λ k b. low (suc k) (omega arith)))
  where
    by : (b : Bool) → length (joined (printed_terms (suc i) l)) ≤ 10 * length l
        → length (joined (cond b (printed_terms (suc i) l) (printed_term i v ∷ printed_terms (suc i) l))) ≤ 10 * suc (length l)
    by true e = omega arith
    by false e =
        let four : (length (decimal i) ≤ 4) × (length (decimal v) ≤ 4) = (decimal_four i (omega arith), decimal_four v (low 0 (omega arith))) in
        omega (arith, joined_length (printed_term i v) (printed_terms (suc i) l), length_term i v)

-- ten bytes for a place, of a list of at most 10,000 numbers below 10,000
pub length_polynomial : (l : List ℕ) → length l ≤ 10000 → ((k : ℕ) → k < length l → get_or l k 0 < 10000)
    → length (printed_polynomial l) ≤ 10 * length l
unfolding printed_polynomial
length_polynomial l h low = terms_length 0 l (omega arith) low
