-- The laws of pieces joined by commas: a piece more at the end, and the lengths.
-- Assumes nothing.
use mathlib.Core.Path.{◌≡◌, refl, sym, ap, ◌∙◌}
use mathlib.Core.Bool.{cond}
use mathlib.Core.List.{List, [], ◌∷◌, ◌++◌, append_assoc}
use Prim.Native.Nat.{ℕ, ◌+◌, ◌≤◌, ◌<◌}
use native.Mathlib.Omega.{arith}
use lib.Dec.{eqb}
use lib.ListN.{length, length-append}
use borrow.Author.Tests.{ne_eqb}
use Rattle.print.specs.Printing.{joined}
use Rattle.print.proofs.Each.{Each, none, more}

-- a piece more comes after a comma
joined_comma : (u : List ℕ) (ts : List (List ℕ)) (t : List ℕ) → joined (u ∷ (ts ++ (t ∷ []))) ≡ joined (u ∷ ts) ++ (44 ∷ t)
unfolding joined
joined_comma u [] t = refl
joined_comma u (w ∷ ts) t = ap (λ s. u ++ (44 ∷ s)) (joined_comma w ts t) ∙ sym (append_assoc u (44 ∷ joined (w ∷ ts)) (44 ∷ t))

-- what is joined is as long as the first piece, or longer
pub joined_first : (u : List ℕ) (ts : List (List ℕ)) → length u ≤ length (joined (u ∷ ts))
unfolding joined
joined_first u [] = omega arith
joined_first u (w ∷ ts) = omega (arith, length-append u (44 ∷ joined (w ∷ ts)))

-- a piece more, where none is empty: after a comma unless nothing stands there yet
pub joined_more : {ts : List (List ℕ)} → Each (λ t. 0 < length t) ts → (t : List ℕ)
    → joined (ts ++ (t ∷ [])) ≡ joined ts ++ cond (eqb (length (joined ts)) 0) t (44 ∷ t)
unfolding joined
joined_more none t = refl
joined_more (more {x = u} {xs = ts} h e) t =
    joined_comma u ts t
    ∙ ap (λ b. joined (u ∷ ts) ++ cond b t (44 ∷ t)) (sym (ne_eqb (length (joined (u ∷ ts))) 0 (λ z. omega (arith, joined_first u ts))))

-- a piece in front takes its length and a comma, at most
pub joined_length : (t : List ℕ) (ts : List (List ℕ)) → length (joined (t ∷ ts)) ≤ length t + (1 + length (joined ts))
unfolding joined
joined_length t [] = omega arith
joined_length t (u ∷ ts) = omega (arith, length-append t (44 ∷ joined (u ∷ ts)))

-- more pieces make it no shorter
pub joined_longer : (ts us : List (List ℕ)) → length (joined ts) ≤ length (joined (ts ++ us))
unfolding joined
joined_longer [] us = omega arith
joined_longer (t ∷ []) us = joined_first t us
joined_longer (t ∷ u ∷ ts) us =
    omega (arith, length-append t (44 ∷ joined (u ∷ ts)), length-append t (44 ∷ joined (u ∷ (ts ++ us))), joined_longer (u ∷ ts) us)
