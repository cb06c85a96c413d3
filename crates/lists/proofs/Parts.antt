-- A buffer of which a part was lent and came back filled: what its front then holds, and that two parts one after the other make the whole.
-- And a list that a loop reads part by part. Assumes nothing.
use mathlib.Core.Path.{◌≡◌, refl, sym, ap, ◌∙◌}
use mathlib.Core.List.{List, ◌++◌, append_assoc, append-nil}
use Prim.Native.Nat.{ℕ, ◌+◌, ◌-◌, ◌≤◌, ◌<◌}
use native.Mathlib.Omega.{arith}
use lib.ListN.{length, get_or, take, drop, length-append, get_or-append}
use lib.Seq.{get_or-drop, length-take-le, take_at, drop_at, drop-length, drop-drop}
use borrow.Rule.Slice.PartMut.{put_mid, Post-is}

module _ {A : Type 0} where
  -- the places from a to e were lent and hold `part` now: up to e there is what was there up to a, then the part
  pub take_put : (l part : List A) (a e : ℕ) → a ≤ e → e ≤ length l → length part ≡ e - a → take e (put_mid a (e - a) l part) ≡ take a l ++ part
  take_put l part a e h k p =
      ap (take e) (ap (λ xs. take a l ++ (part ++ xs)) (Post-is a e l h) ∙ sym (append_assoc (take a l) part (drop e l)))
      ∙ take_at (take a l ++ part) (drop e l) e (omega (arith, length-append (take a l) part, length-take-le a l (omega arith)))

  -- the first h places were lent and came back as p, then the others and came back as q
  pub both_parts : (h : ℕ) (d p q : List A) → length p ≡ h → put_mid h (length (p ++ drop h d) - h) (p ++ drop h d) q ≡ p ++ q
  both_parts h d p q lp =
      let rest : length (p ++ drop h d) - h ≡ length (drop h d) = omega (arith, length-append p (drop h d)) in
      rw (rest, take_at p (drop h d) h lp, drop_at p (drop h d) h lp, drop-length (drop h d)) (ap (λ l. p ++ l) (append-nil q))

-- ---- the part that a loop reads next, at place n of a list

-- it holds what the list holds there
pub part_at : (n : ℕ) (l part rest : List ℕ) → drop n l ≡ part ++ rest → (i j : ℕ) → i < length part → n + i ≡ j
    → get_or part i 0 ≡ get_or l j 0
part_at n l part rest e i j h s =
    sym (get_or-append part rest 0 i h) ∙ ap (λ xs. get_or xs i 0) (sym e) ∙ get_or-drop n l i 0 ∙ ap (λ k. get_or l k 0) s

-- and after it comes the rest
pub part_rest : (n : ℕ) (l part rest : List ℕ) → drop n l ≡ part ++ rest → (m : ℕ) → n + length part ≡ m → drop m l ≡ rest
part_rest n l part rest e m h =
    sym (drop-drop (length part) n l ∙ ap (λ i. drop i l) h) ∙ ap (drop (length part)) e ∙ drop_at part rest (length part) refl
