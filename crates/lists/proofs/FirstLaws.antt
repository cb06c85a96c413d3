-- The laws of the first place at which a test holds: what it says of the places, the turns of a loop that looks for it, several lists.
-- Assumes nothing.
use mathlib.Core.Path.{◌≡◌, refl, sym, ap, ◌∙◌}
use mathlib.Core.Bool.{Bool, true, false, false≢true, cond}
use mathlib.Core.List.{List, [], ◌∷◌, ◌++◌, flatten, append-nil}
use Prim.Native.Nat.{ℕ, zero, suc, ◌+◌, ◌≤◌, ◌<◌}
use native.Mathlib.Decide.{dec_lt}
use native.Mathlib.Numerals.{add-one, one-add}
use native.Mathlib.Omega.{arith}
use lib.Dec.{ltb}
use lib.ListN.{length, get_or, drop, length-append}
use lib.Seq.{drop-cons}
use borrow.Author.Tests.{lt-ltb, le-ltb}
use Rattle.std.proofs.Common.{Some, None, position}
use Rattle.std.specs.List.{position_or_len}
use Rattle.std.proofs.lemmas.List.Recursion.{is_position_or_len}
use Rattle.lists.specs.First.{first_where, first_through}

-- the lists one after the other are as long as all of them
pub length_through : (l : List ℕ) (ls : List (List ℕ)) → length (flatten (l ∷ ls)) ≡ length l + length (flatten ls)
unfolding flatten
length_through l ls = length-append l (flatten ls)

pub length_one : (l : List ℕ) → length (flatten (l ∷ [])) ≡ length l
unfolding flatten
length_one l = ap length (append-nil l)

module _ (p : ℕ → Bool) where
  -- ---- what it says of the places

  -- it is at most the length
  pub first_within : (xs : List ℕ) → first_where p xs ≤ length xs
  unfolding first_where
  first_within [] = omega arith
  first_within (x ∷ xs) = by (p x) (first_within xs)
    where
      by : (b : Bool) → first_where p xs ≤ length xs → cond b 0 (suc (first_where p xs)) ≤ suc (length xs)
      by true h = omega arith
      by false h = omega arith

  -- at no place before it does the test hold
  pub first_before : (xs : List ℕ) (i : ℕ) → i < first_where p xs → p (get_or xs i 0) ≡ false
  unfolding first_where
  first_before [] i h = absurd (omega arith)
  first_before (x ∷ xs) i h = by (p x) refl i h (first_before xs)
    where
      by : (b : Bool) → p x ≡ b → (i : ℕ) → i < cond b 0 (suc (first_where p xs))
          → ((k : ℕ) → k < first_where p xs → p (get_or xs k 0) ≡ false) → p (get_or (x ∷ xs) i 0) ≡ false
      by true e i h r = absurd (omega arith)
      by false e zero h r = e
      by false e (suc i) h r = r i (omega arith)

  -- where it is a place, the test holds there
  pub first_holds : (xs : List ℕ) → first_where p xs < length xs → p (get_or xs (first_where p xs) 0) ≡ true
  unfolding first_where
  first_holds [] h = absurd (omega arith)
  first_holds (x ∷ xs) h = by (p x) refl h (first_holds xs)
    where
      by : (b : Bool) → p x ≡ b → cond b 0 (suc (first_where p xs)) < suc (length xs)
          → (first_where p xs < length xs → p (get_or xs (first_where p xs) 0) ≡ true) → p (get_or (x ∷ xs) (cond b 0 (suc (first_where p xs))) 0) ≡ true
      by true e h r = e
      by false e h r = r (omega arith)

  -- where the test holds at no place, it is the length
  pub first_nowhere : (xs : List ℕ) → ((i : ℕ) → i < length xs → p (get_or xs i 0) ≡ false) → first_where p xs ≡ length xs
  first_nowhere xs h = by (dec_lt (first_where p xs) (length xs))
    where
      by : Dec (first_where p xs < length xs) → first_where p xs ≡ length xs
      by (yes b) = absurd (false≢true (sym (h (first_where p xs) b) ∙ first_holds xs b))
      by (no b) = omega (arith, first_within xs, b)

  -- ---- as the library's searches say it

  or_length : (xs : List ℕ) → first_where p xs ≡ position_or_len p xs
  unfolding first_where
  or_length xs = is_position_or_len (first_where p) p refl (λ x ys. rw one-add refl) xs

  -- where the test holds somewhere, `position` is the first place
  pub position_here : (xs : List ℕ) → first_where p xs < length xs → position p xs ≡ Some (first_where p xs)
  position_here xs h = rw (← or_length xs, lt-ltb (first_where p xs) (length xs) h) refl

  pub position_nowhere : (xs : List ℕ) → length xs ≤ first_where p xs → position p xs ≡ None
  position_nowhere xs h = rw (← or_length xs, le-ltb (first_where p xs) (length xs) h) refl

  -- `position` finds a place: it is the first
  pub position_some : (xs : List ℕ) (i : ℕ) → position p xs ≡ Some i → (first_where p xs ≡ i) × (i < length xs)
  position_some xs i e = by (dec_lt (first_where p xs) (length xs))
    where
      by : Dec (first_where p xs < length xs) → (first_where p xs ≡ i) × (i < length xs)
      by (yes b) =
          let here : Some (first_where p xs) ≡ Some i = sym (position_here xs b) ∙ e in
          let is : first_where p xs ≡ i = cc in
          (is, omega (arith, is, b))
      by (no b) =
          let nowhere : None ≡ Some i = sym (position_nowhere xs (omega (arith, b))) ∙ e in
          cc

  -- `position` finds none: the first place is the length
  pub position_none : (xs : List ℕ) → position p xs ≡ None → first_where p xs ≡ length xs
  position_none xs e = by (dec_lt (first_where p xs) (length xs))
    where
      by : Dec (first_where p xs < length xs) → first_where p xs ≡ length xs
      by (yes b) =
          let here : Some (first_where p xs) ≡ None = sym (position_here xs b) ∙ e in
          cc
      by (no b) = omega (arith, first_within xs, b)

  -- ---- the turns of a loop at the place i, and its end

  pub first_more : (xs : List ℕ) (i : ℕ) → i < length xs → p (get_or xs i 0) ≡ false
      → first_where p (drop i xs) ≡ suc (first_where p (drop (i + 1) xs))
  unfolding first_where
  first_more xs i h e = rw (add-one, drop-cons xs i 0) (simp e)

  pub first_here : (xs : List ℕ) (i : ℕ) → i < length xs → p (get_or xs i 0) ≡ true → first_where p (drop i xs) ≡ 0
  unfolding first_where
  first_here xs i h e = rw (drop-cons xs i 0) (simp e)

  pub first_none : first_where p [] ≡ 0
  unfolding first_where
  first_none = refl

  -- ---- through several lists

  append_here : (xs ys : List ℕ) → first_where p xs < length xs → first_where p (xs ++ ys) ≡ first_where p xs
  unfolding first_where
  append_here [] ys h = absurd (omega arith)
  append_here (x ∷ xs) ys h = by (p x) h (append_here xs ys)
    where
      by : (b : Bool) → cond b 0 (suc (first_where p xs)) < suc (length xs)
          → (first_where p xs < length xs → first_where p (xs ++ ys) ≡ first_where p xs)
          → cond b 0 (suc (first_where p (xs ++ ys))) ≡ cond b 0 (suc (first_where p xs))
      by true h r = refl
      by false h r = ap suc (r (omega arith))

  append_past : (xs ys : List ℕ) → length xs ≤ first_where p xs → first_where p (xs ++ ys) ≡ length xs + first_where p ys
  unfolding first_where
  append_past [] ys h = omega arith
  append_past (x ∷ xs) ys h = by (p x) h (append_past xs ys)
    where
      by : (b : Bool) → suc (length xs) ≤ cond b 0 (suc (first_where p xs))
          → (length xs ≤ first_where p xs → first_where p (xs ++ ys) ≡ length xs + first_where p ys)
          → cond b 0 (suc (first_where p (xs ++ ys))) ≡ suc (length xs) + first_where p ys
      by true h r = absurd (omega arith)
      by false h r = omega (arith, r (omega arith))

  -- the first list has it: its place there
  pub through_here : (l : List ℕ) (ls : List (List ℕ)) → first_where p l < length l → first_through p (l ∷ ls) ≡ first_where p l
  unfolding first_through flatten
  through_here l ls h = append_here l (flatten ls) h

  -- the first list hasn't: its length, and then the count goes on
  pub through_past : (l : List ℕ) (ls : List (List ℕ)) → length l ≤ first_where p l → first_through p (l ∷ ls) ≡ length l + first_through p ls
  unfolding first_through flatten
  through_past l ls h = append_past l (flatten ls) h

  -- so the one or the other, by a test of the place in the first list
  pub through_cond : (l : List ℕ) (ls : List (List ℕ))
      → first_through p (l ∷ ls) ≡ cond (ltb (first_where p l) (length l)) (first_where p l) (length l + first_through p ls)
  through_cond l ls = by (dec_lt (first_where p l) (length l))
    where
      by : Dec (first_where p l < length l)
          → first_through p (l ∷ ls) ≡ cond (ltb (first_where p l) (length l)) (first_where p l) (length l + first_through p ls)
      by (yes b) = through_here l ls b ∙ sym (ap (λ t. cond t (first_where p l) (length l + first_through p ls)) (lt-ltb (first_where p l) (length l) b))
      by (no b) =
          through_past l ls (omega (arith, b))
          ∙ sym (ap (λ t. cond t (first_where p l) (length l + first_through p ls)) (le-ltb (first_where p l) (length l) (omega (arith, b))))

  -- of one list: its own first place
  pub through_one : (l : List ℕ) → first_through p (l ∷ []) ≡ first_where p l
  unfolding first_through flatten
  through_one l = ap (first_where p) (append-nil l)

  -- where the test holds in none of the lists, it holds in the first nowhere, and in none of the others
  pub through_clear : (l : List ℕ) (ls : List (List ℕ)) → length (flatten (l ∷ ls)) ≤ first_through p (l ∷ ls)
      → (first_where p l ≡ length l) × (length (flatten ls) ≤ first_through p ls)
  through_clear l ls h = by (dec_lt (first_where p l) (length l))
    where
      by : Dec (first_where p l < length l) → (first_where p l ≡ length l) × (length (flatten ls) ≤ first_through p ls)
      by (yes b) = absurd (omega (arith, h, length_through l ls, through_here l ls b))
      by (no b) =
          (omega (arith, first_within l, b), omega (arith, h, length_through l ls, through_past l ls (omega (arith, b))))
