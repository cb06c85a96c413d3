-- The pieces of a text as the library's `split` gives them, one after the other.
-- Assumes nothing.
use mathlib.Core.Bool.{Bool, true, false, cond}
use mathlib.Core.List.{List, [], ◌∷◌, ◌++◌}
use denote.Ref.{Bor}
use denote.Param.Members.{Mut}
use Rattle.std.proofs.Common.{◌≡◌, ℕ, refl, sym, ap, ap₂, subst, ◌∙◌, arith, length, get_or, eqb, Some}
use Rattle.std.proofs.lemmas.Fn.{always_returns_same}
use Rattle.std.proofs.lemmas.Grind.{common_steps}
use Rattle.std.proofs.lemmas.List.Splits.{slice_split_none, slice_split_at}
use Rattle.std.specs.Bool.{MatchBool}
use Rattle.std.specs.Fn.{CalledAt}
use Rattle.std.specs.List.{slice_split, onto_first, IsFirstMatchOrLen, All}
use Rattle.std.specs.Slice.Iter.{split_steps, split_rest, split_done, split_callee}
use Rattle.std.specs.declared.slice.Split.{Split}
use Rattle.text.specs.Lines.{on_first, split}
use Rattle.text.proofs.LineLaws.{split_first}

-- the same pieces
split_is : (c : ℕ) (s : List ℕ) → slice_split (eqb c) s ≡ split c s
unfolding split on_first
split_is c [] = refl
split_is c (x ∷ s) = ap₂ (λ a b. cond (eqb c x) a b) (ap (λ ps. [] ∷ ps) (split_is c s)) (ap (onto_first x) (split_is c s) ∙ onto_is)
  where
    onto_is : onto_first x (split c s) ≡ on_first x (split c s)
    onto_is = ap (onto_first x) (split_first c s) ∙ sym (ap (on_first x) (split_first c s))

-- what is left: nothing once it is done
abbrev pub pieces_left : ℕ → Bool → List ℕ → List (List ℕ)
pieces_left c done s = cond done [] (split c s)

-- the first piece of what is left, and the rest
first_piece : (c : ℕ) (xs x rest : List ℕ) (done : Bool) → MatchBool done (xs ≡ x) ((y : ℕ) × (xs ≡ x ++ (y ∷ rest))) → IsFirstMatchOrLen (eqb c) xs (length x)
    → slice_split (eqb c) xs ≡ x ∷ cond done [] (slice_split (eqb c) rest)
first_piece c xs x rest true e h =
    ap (slice_split (eqb c)) e ∙ slice_split_none (eqb c) x (λ k d l. subst (λ ys. eqb c (get_or ys k d) ≡ false) e (h.0 k d (omega arith) l))
first_piece c xs x rest false e h =
    let front : All (λ z. eqb c z ≡ false) x = λ k d l. let a = h.0 k d (omega arith) l in let b = e.1 in grind (arith, common_steps) in
    let hit : eqb c e.0 ≡ true = let b = e.1 in let a = h.1 (grind (arith, common_steps)) e.0 in grind (arith, common_steps) in
    ap (slice_split (eqb c)) e.1 ∙ slice_split_at (eqb c) x e.0 rest front hit

module _ {F : Type 0} (g : Mut F (Bor ℕ × Unit {0}) Bool) (c : ℕ) where
  -- a call of `next` that gives a piece
  pub next_piece : (s t : Split ℕ F) (x : Bor (List ℕ))
      → ((a : ℕ) (b : Bool) (q : F) → CalledAt g (split_callee s) a b q → (q ≡ split_callee s) × (b ≡ eqb c a)) → split_steps g s (Some x) t
      → pieces_left c (split_done s) (split_rest s) ≡ x.now ∷ pieces_left c (split_done t) (split_rest t)
  next_piece s t x tests k =
      let computes = always_returns_same g (λ a r. r ≡ eqb c a.0.now) (split_callee s) (λ a r q call. let m = tests a.0.now r q (record { shown = a.0; shows = refl; called = call }) in (m.1, m.0)) in
      let piece = first_piece c (split_rest s) x.now (split_rest t) (split_done t) k.1 (k.2 (eqb c) computes).1 in
      ap (λ b. pieces_left c b (split_rest s)) k.0
      ∙ sym (split_is c (split_rest s)) ∙ piece
      ∙ ap (λ ps. x.now ∷ cond (split_done t) [] ps) (split_is c (split_rest t))
