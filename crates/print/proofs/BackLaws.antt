-- What is printed is what reading takes: printed numbers are numbers and spell themselves, and pieces are found again between commas and at colons.
-- Assumes nothing.
use mathlib.Core.Path.{◌≡◌, refl, sym, ap, ◌∙◌}
use mathlib.Core.Bool.{Bool, true, false, ◌||◌}
use mathlib.Core.List.{List, [], ◌∷◌, ◌++◌}
use Prim.Native.Nat.{ℕ, zero, suc, ◌+◌, ◌-◌, ◌*◌, ◌/◌, ◌%◌, ◌^◌, ◌<◌}
use native.Mathlib.Decide.{ℕ_discrete}
use native.Mathlib.Nat.{pow-succ'}
use native.Mathlib.Numerals.{add-one}
use native.Mathlib.Omega.{arith}
use lib.Dec.{eqb}
use lib.ListN.{length, get_or, take, drop}
use lib.Seq.{take_at, drop-append-add}
use borrow.Author.Tests.{eq-eqb, ne_eqb, le-leb}
use Rattle.lists.specs.First.{first_where}
use Rattle.text.specs.Lines.{up_to, past, on_first, split}
use Rattle.text.specs.Numerals.{is_digit, all_digits, spelled, unpadded, is_number}
use Rattle.lists.proofs.TabLaws.{cond_both}
use Rattle.print.specs.Printing.{digits, width, decimal, printed_term, printed_terms, joined}
use Rattle.print.proofs.Each.{Each, none, more, each_append, each_map}
use Rattle.print.proofs.DecimalLaws.{Digit, decimal_digits, decimal_length, decimal_unpadded, below_width}

-- ---- numbers

-- one text after another
spelled_append : (acc : ℕ) (s t : List ℕ) → spelled acc (s ++ t) ≡ spelled (spelled acc s) t
unfolding spelled
spelled_append acc [] t = refl
spelled_append acc (c ∷ s) t = spelled_append (10 * acc + (c - 48)) s t

-- k digits spell a number that k digits are enough for
spelled_digits : (k v : ℕ) → v < 10 ^ k → spelled 0 (digits k v) ≡ v
unfolding spelled digits
spelled_digits zero v h = omega arith
spelled_digits (suc k) v h =
    let shorter : v / 10 < 10 ^ k = omega (arith, pow-succ' 10 k) in
    spelled_append 0 (digits k (v / 10)) ((48 + v % 10) ∷ []) ∙ omega (arith, spelled_digits k (v / 10) shorter)

-- a printed number spells the number
pub spelled_decimal : (v : ℕ) → v < 100000 → spelled 0 (decimal v) ≡ v
unfolding decimal
spelled_decimal v h = spelled_digits (width v) v (below_width v h)

-- digits pass the test for digits
digits_pass : {s : List ℕ} → Each Digit s → all_digits s ≡ true
unfolding is_digit
digits_pass none = refl
digits_pass (more {x = c} d e) = simp (le-leb 48 c d.low, le-leb c 57 d.high, digits_pass e)

-- the two ways to have no leading zero
zero_unpadded : unpadded (decimal 0) ≡ true
unfolding unpadded decimal width digits
zero_unpadded = refl

other_unpadded : (s : List ℕ) → (get_or s 0 0 ≡ 48 → ⊥) → unpadded s ≡ true
unfolding unpadded
other_unpadded s e = rw (ne_eqb (get_or s 0 0) 48 e) (by (eqb (length s) 1))
  where
    by : (b : Bool) → (b || true) ≡ true
    by true = refl
    by false = refl

-- a printed number passes the test for leading zeros: 0 has one digit, and no other begins with `0`
unpadded_pass : (v : ℕ) → v < 100000 → unpadded (decimal v) ≡ true
unpadded_pass v h = by (ℕ_discrete (get_or (decimal v) 0 0) 48)
  where
    by : Dec (get_or (decimal v) 0 0 ≡ 48) → unpadded (decimal v) ≡ true
    by (yes e) = rw (decimal_unpadded v h e) zero_unpadded
    by (no e) = other_unpadded (decimal v) e

-- a printed number is a number
pub decimal_pass : (v : ℕ) → v < 100000 → is_number (decimal v) ≡ true
unfolding is_number
decimal_pass v h =
    let long = decimal_length v h in
    simp (le-leb 1 (length (decimal v)) long.0, le-leb (length (decimal v)) 5 long.1, digits_pass (decimal_digits v), unpadded_pass v h)

-- ---- pieces

-- a byte that does not stand in a text
abbrev pub Without : ℕ → List ℕ → Type 0
Without c = Each (λ x. c ≡ x → ⊥)

-- a text without c is one piece
split_one : {c : ℕ} {t : List ℕ} → Without c t → split c t ≡ t ∷ []
unfolding split on_first
split_one none = refl
split_one {c} (more {x = x} h e) = rw (ne_eqb c x h, split_one e)

-- where t has no c, the first piece of t, c and s is t, and the others are those of s
split_piece : {c : ℕ} {t : List ℕ} → Without c t → (s : List ℕ) → split c (t ++ (c ∷ s)) ≡ t ∷ split c s
unfolding split on_first
split_piece {c} none s = rw (eq-eqb c c refl)
split_piece {c} (more {x = x} h e) s = rw (ne_eqb c x h, split_piece e s)

-- joined by commas and split at commas
pub split_joined : (t : List ℕ) (ts : List (List ℕ)) → Each (Without 44) (t ∷ ts) → split 44 (joined (t ∷ ts)) ≡ t ∷ ts
unfolding joined
split_joined t [] (more h e) = split_one h
split_joined t (u ∷ ts) (more h e) = split_piece h (joined (u ∷ ts)) ∙ ap (λ ps. t ∷ ps) (split_joined u ts e)

-- the first c of a text that has it after t, where t has none
first_piece : {c : ℕ} {t : List ℕ} → Without c t → (s : List ℕ) → first_where (eqb c) (t ++ (c ∷ s)) ≡ length t
unfolding first_where
first_piece {c} none s = rw (eq-eqb c c refl)
first_piece {c} (more {x = x} h e) s = rw (ne_eqb c x h, first_piece e s)

-- ---- terms

-- a number has no byte that is no digit
decimal_without : (c v : ℕ) → (Digit c → ⊥) → Without c (decimal v)
decimal_without c v no_digit = each_map (λ x d e. no_digit (rw e d)) (decimal_digits v)

-- no term has a comma
term_no_comma : (i v : ℕ) → Without 44 (printed_term i v)
unfolding printed_term
term_no_comma i v =
    each_append (decimal_without 44 i (λ d. omega (arith, d.low)))
    (more (λ e. omega arith) (decimal_without 44 v (λ d. omega (arith, d.low))))

-- nor has any of several
pub terms_no_comma : (i : ℕ) (l : List ℕ) → Each (Without 44) (printed_terms i l)
unfolding printed_terms
terms_no_comma i [] = none
terms_no_comma i (v ∷ l) = cond_both (Each (Without 44)) (eqb v 0) (terms_no_comma (suc i) l) (more (term_no_comma i v) (terms_no_comma (suc i) l))

-- the colon of a term is the one after the index
term_colon : (i v : ℕ) → first_where (eqb 58) (decimal i ++ (58 ∷ decimal v)) ≡ length (decimal i)
term_colon i v = first_piece (decimal_without 58 i (λ d. omega (arith, d.high))) (decimal v)

-- before it stands the index
pub index_back : (i v : ℕ) → up_to 58 (printed_term i v) ≡ decimal i
unfolding up_to printed_term
index_back i v = ap (λ k. take k (decimal i ++ (58 ∷ decimal v))) (term_colon i v) ∙ take_at (decimal i) (58 ∷ decimal v) _ refl

-- and after it the value
pub value_back : (i v : ℕ) → past 58 (printed_term i v) ≡ decimal v
unfolding past printed_term
value_back i v =
    ap (λ k. drop k (decimal i ++ (58 ∷ decimal v))) (ap suc (term_colon i v) ∙ sym (add-one (length (decimal i))))
    ∙ drop-append-add (decimal i) (58 ∷ decimal v) 1
