-- The test of two lists passes exactly where they are equal; and its turns, place by place.
-- Assumes nothing.
use mathlib.Core.Bool.{true, ◌&&◌}
use mathlib.Core.List.{List}
use mathlib.Core.Path.{◌≡◌, refl, sym, ap, ◌∙◌, subst}
use Prim.Native.Nat.{ℕ, zero, suc, ◌+◌}
use native.Mathlib.Numerals.{add-one}
use lib.Dec.{T, eqb, eqb→eq}
use lib.ListN.{length, get_or}
use lib.Seq.{ext_get_or}
use borrow.Author.Tests.{eq-eqb, eqb-true}
use Rattle.lists.specs.Every.{below, agree, equal}
use Rattle.lists.proofs.Every.{both_true, at_below}

-- no place is compared at first
pub agree_none : (a b : List ℕ) → agree 0 a b ≡ true
unfolding agree below
agree_none a b = refl

-- one place more
pub agree_more : (a b : List ℕ) (i : ℕ) → agree (i + 1) a b ≡ (eqb (get_or a i 0) (get_or b i 0) && agree i a b)
unfolding agree below
agree_more a b i = ap (λ k. agree k a b) (add-one i)

-- lists as long as each other are equal where they agree at all places
pub agree_equal : (n : ℕ) (a b : List ℕ) → length a ≡ n → length b ≡ n → equal a b ≡ agree n a b
unfolding equal
agree_equal n a b ea eb = rw (eq-eqb (length a) (length b) (ea ∙ sym eb)) (ap (λ k. agree k a b) ea)

-- a list is equal to itself
agree_same : (n : ℕ) (l : List ℕ) → agree n l l ≡ true
unfolding agree below
agree_same zero l = refl
agree_same (suc n) l = rw (eq-eqb (get_or l n 0) (get_or l n 0) refl) (agree_same n l)

pub equal_same : (l : List ℕ) → equal l l ≡ true
equal_same l = agree_equal (length l) l l refl refl ∙ agree_same (length l) l

-- and lists that pass the test are the same
pub equal_true : (a b : List ℕ) → equal a b ≡ true → a ≡ b
unfolding equal agree
equal_true a b e =
    let t = both_true (eqb (length a) (length b)) (agree (length a) a b) e in
    ext_get_or 0 a b (eqb-true (length a) (length b) t.0)
    (λ i h. eqb→eq _ _ (at_below (λ k. eqb (get_or a k 0) (get_or b k 0)) (length a) (subst T (sym t.1) tt) i h))
