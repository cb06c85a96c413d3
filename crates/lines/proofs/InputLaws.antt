-- What the first line of a text says, by whether an LF ends it and by its name.
-- Assumes nothing.
use mathlib.Core.Bool.{Bool, true, false, ◌&&◌, cond}
use mathlib.Core.List.{List}
use Rattle.std.proofs.Common.{Option, Some, None, Bor, MatchOption, position}
use Rattle.std.proofs.lemmas.Option.{none-some}
use mathlib.Core.Path.{◌≡◌, refl, sym, ap, ◌∙◌}
use Prim.Native.Nat.{ℕ, ◌≤◌, ◌<◌}
use native.Mathlib.Omega.{arith}
use lib.Dec.{eqb, ltb}
use lib.ListN.{length, take, drop}
use borrow.Author.Tests.{lt-ltb, le-ltb}
use Rattle.lists.specs.First.{first_where}
use Rattle.residue.specs.Residues.{Residues}
use Rattle.text.specs.Lines.{lf, up_to, begins}
use Rattle.text.specs.Numerals.{number}
use Rattle.text.specs.Polynomials.{polynomial}
use Rattle.lists.proofs.Every.{both_true}
use Rattle.lists.proofs.FirstLaws.{position_some}
use Rattle.text.proofs.LineLaws.{begins_long, up_to_found}
use Rattle.text.proofs.NumeralLaws.{number_bound}
use Rattle.text.proofs.PolynomialLaws.{polynomial_residues}
use Rattle.lines.specs.Input.{is_line, body, set_in, polynomial_in}
use Rattle.lines.specs.Names.{set_name}

module _ (name s : List ℕ) where
  -- an LF ends it: the name decides
  pub line_ended : first_where (eqb lf) s < length s → is_line name s ≡ begins name (up_to lf s)
  unfolding is_line
  line_ended h = ap (λ b. b && begins name (up_to lf s)) (lt-ltb (first_where (eqb lf) s) (length s) h)

  -- no LF: it is none
  pub line_open : length s ≤ first_where (eqb lf) s → is_line name s ≡ false
  unfolding is_line
  line_open h = ap (λ b. b && begins name (up_to lf s)) (le-ltb (first_where (eqb lf) s) (length s) h)

  -- what follows the name in the bytes before the LF, as a search for it answers
  pub line_after : {end : ℕ} → position (eqb lf) s ≡ Some end → (r : Option (Bor (List ℕ)))
      → MatchOption r (begins name (take end s) ≡ false) (λ x. (begins name (take end s) ≡ true) × (x.now ≡ drop (length name) (take end s)))
      → MatchOption r (is_line name s ≡ false) (λ x. (is_line name s ≡ true) × (x.now ≡ body name s))
  unfolding body
  line_after {end} e r h = by r h
    where
      text_is : take end s ≡ up_to lf s
      text_is = up_to_found lf s (sym e)

      ended : is_line name s ≡ begins name (take end s)
      ended = line_ended (omega (arith, position_some (eqb lf) s end e)) ∙ ap (begins name) (sym text_is)

      by : (r : Option (Bor (List ℕ)))
          → MatchOption r (begins name (take end s) ≡ false) (λ x. (begins name (take end s) ≡ true) × (x.now ≡ drop (length name) (take end s)))
          → MatchOption r (is_line name s ≡ false) (λ x. (is_line name s ≡ true) × (x.now ≡ body name s))
      by None h = ended ∙ h
      by (Some x) h = (ended ∙ h.0, h.1 ∙ ap (drop (length name)) text_is)

  -- its name fits into it
  pub line_long : is_line name s ≡ true → length name ≤ length (up_to lf s)
  unfolding is_line
  line_long e = begins_long name (up_to lf s) (both_true (ltb (first_where (eqb lf) s) (length s)) (begins name (up_to lf s)) e).1

  -- a polynomial's line, and none
  pub polynomial_line : (n : ℕ) → is_line name s ≡ true → polynomial_in name n s ≡ polynomial n (body name s)
  unfolding polynomial_in
  polynomial_line n e = ap (λ b. cond b (polynomial n (body name s)) None) e

  pub polynomial_none : (n : ℕ) → is_line name s ≡ false → polynomial_in name n s ≡ None
  unfolding polynomial_in
  polynomial_none n e = ap (λ b. cond b (polynomial n (body name s)) None) e

  -- what is read is n residues
  pub line_residues : (n : ℕ) (l : List ℕ) → polynomial_in name n s ≡ Some l → Residues n l
  line_residues n l e = by (is_line name s) refl
    where
      by : (b : Bool) → is_line name s ≡ b → Residues n l
      by true f = polynomial_residues n (body name s) (sym (polynomial_line n f) ∙ e)
      by false f = absurd (none-some l (sym (polynomial_none n f) ∙ e))

-- the set's line, and none
pub set_line : (s : List ℕ) → is_line set_name s ≡ true → set_in s ≡ number (body set_name s)
unfolding set_in
set_line s e = ap (λ b. cond b (number (body set_name s)) None) e

pub set_none : (s : List ℕ) → is_line set_name s ≡ false → set_in s ≡ None
unfolding set_in
set_none s e = ap (λ b. cond b (number (body set_name s)) None) e

-- a set's number has at most 5 digits
pub set_small : (s : List ℕ) (v : ℕ) → set_in s ≡ Some v → v < 100000
set_small s v e = by (is_line set_name s) refl
  where
    by : (b : Bool) → is_line set_name s ≡ b → v < 100000
    by true f = number_bound (body set_name s) v (sym (set_line s f) ∙ e)
    by false f = let h : None ≡ Some v = sym (set_none s f) ∙ e in let z : ◌≡◌ {A = ℕ} 0 1 = cc in absurd (omega arith)
