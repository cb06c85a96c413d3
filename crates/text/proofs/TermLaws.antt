-- The laws of terms in text: what the test of a term says, and the turns of the loop that stores them.
-- Assumes nothing.
use mathlib.Core.Path.{◌≡◌, refl, ap, ◌∙◌}
use mathlib.Core.Bool.{true, false}
use mathlib.Core.List.{List, [], ◌∷◌}
use Rattle.std.proofs.Common.{Option, Some, None}
use Prim.Native.Nat.{ℕ, suc, ◌≤◌, ◌<◌}
use lib.Dec.{leb, ltb}
use lib.ListN.{set}
use borrow.Author.Tests.{leb-true, ltb-true}
use Rattle.lists.proofs.Every.{both_true}
use Rattle.text.specs.Terms.{term_of, term, allowed, on_term, terms}

-- no index, no term, and no value, none
pub term_of_not : (x : Option ℕ) → term_of None x ≡ None
unfolding term_of
term_of_not (Some v) = refl
term_of_not None = refl

pub term_of_bare : (x : Option ℕ) → term_of x None ≡ None
unfolding term_of
term_of_bare (Some i) = refl
term_of_bare None = refl

-- what the test of a term says, for its storing: there is a place for it, and it is a residue
pub record Allowed (n i v : ℕ) : Type 0 where
  pub below : i < n
  pub most : v ≤ 3456

pub allowed_is : (n low i v : ℕ) → allowed n low i v ≡ true → Allowed n i v
unfolding allowed
allowed_is n low i v e =
    let a = both_true (ltb i n) _ (both_true (leb low i) _ e).1 in
    record { below = ltb-true i n a.0; most = leb-true v 3456 (both_true (leb 1 v) (leb v 3456) a.1).1 }

-- ---- the turns of the loop, by pieces

module _ (n low : ℕ) (l : List ℕ) where
  -- no piece
  pub terms_none : terms n low l [] ≡ Some l
  unfolding terms
  terms_none = refl

  module _ (t : List ℕ) (ts : List (List ℕ)) where
    -- a piece that is no term
    pub terms_not : term t ≡ None → terms n low l (t ∷ ts) ≡ None
    unfolding terms on_term
    terms_not e = ap (on_term (λ low' l'. terms n low' l' ts) n low l) e

    -- a term that isn't allowed
    pub terms_refused : (i v : ℕ) → term t ≡ Some (i, v) → allowed n low i v ≡ false → terms n low l (t ∷ ts) ≡ None
    unfolding terms on_term
    terms_refused i v e a = ap (on_term (λ low' l'. terms n low' l' ts) n low l) e ∙ simp a

    -- a term that is
    pub terms_more : (i v : ℕ) → term t ≡ Some (i, v) → allowed n low i v ≡ true → terms n low l (t ∷ ts) ≡ terms n (suc i) (set l i v) ts
    unfolding terms on_term
    terms_more i v e a = ap (on_term (λ low' l'. terms n low' l' ts) n low l) e ∙ simp a
