-- What the tests of a call say, as rows of document 01's table: each test is a row, and what is answered past it is what the rows after it
-- say. Assumes nothing.
use mathlib.Core.Bool.{Bool, true, false, false≢true, cond, ◌&&◌}
use mathlib.Core.List.{List, [], ◌∷◌, flatten}
use mathlib.Core.Logic.{◌≢◌, ◌↔◌}
use mathlib.Core.Path.{◌≡◌, refl, sym, ap, ap₂, ◌∙◌, subst}
use Prim.Native.Nat.{ℕ, ◌≤◌, ◌<◌}
use native.Mathlib.Omega.{arith}
use lib.Dec.{eqb, ltb}
use lib.ListN.{length}
use borrow.Author.Tests.{ltb-true, ltb-false, eqb-true, eqb-false, lt-ltb, eq-eqb}
use Rattle.lists.specs.Every.{equal}
use Rattle.lists.specs.First.{first_where, first_through}
use Rattle.residue.specs.Large.{too_large}
use Rattle.algebra.specs.SlotBySlot.{is_zero}
use Rattle.marks.specs.Marks.{no_mark}
use Rattle.packing.specs.Packing.{groups}
use Rattle.answers.specs.Answers.{Answer}
use Rattle.answers.specs.declared.Parameters.{Parameters}
use Rattle.std.specs.Prelude.{Option, Some as Known, None}
use Rattle.answers.specs.Answers.{number_of, place_of}
use Rattle.answers.specs.Replies.{Reply, reply, Outcome}
use Rattle.answers.specs.Sets.{parameters_of, set_of, for_set}
use Rattle.answers.specs.Tests.{in_order, at_first, in_range}
use Rattle.stages.specs.Making.{small_f, small_g, f_image, g_image}
use Rattle.stages.specs.Sealing.{r_image}
use Rattle.lists.proofs.EqualLaws.{equal_same, equal_true}
use Rattle.lists.proofs.Every.{both_true}
use Rattle.lists.proofs.FirstLaws.{first_before, first_holds}
use Rattle.answers.proofs.Exits.{for_known}
use Rattle.demands.specs.Exactly.{Row, Exactly, Some, First}
use Rattle.demands.specs.Table.{unknown_set, Right, wrong_length, first_such, large_number}
use Rattle.demands.specs.TableOwn.{slots_of_f, slots_of_g, slots_of_r, zero_slot, bad_mark, differs}

-- the answer of an outcome is that of its reply
pub of_outcome : {R : Reply} {r : Answer} {Holds : Reply → Type 0} (rows : List Row) → Outcome R r Holds → Exactly rows R
    → Exactly rows (reply (number_of r) (place_of r))
of_outcome rows o = subst (Exactly rows) (ap₂ reply (sym o.number) (sym o.place))

-- ---- rows put one after the other

-- R is what the rows say, and its number is above k where it isn't 0
pub record Settled (k : ℕ) (rows : List Row) (R : Reply) : Type 0 where
  pub says : Exactly rows R
  pub above : 0 < R.number → k < R.number

-- after all rows: 0
pub done : (k : ℕ) → Settled k [] (reply 0 0)
unfolding Exactly
done k = record { says = (refl, refl); above = λ h. absurd (omega arith) }

module _ (k : ℕ) (row : Row) (rows : List Row) (rises : k < row.number) where
  -- at a row whose condition holds: its number
  here : (p : ℕ) → row.when → row.place p → Settled k (row ∷ rows) (reply row.number p)
  unfolding Exactly
  here p w e = record { says = (λ _. w, λ _. (refl, e), λ n. absurd (n w)); above = λ _. rises }

  -- past a row whose condition doesn't: what the rows after it say
  past : {R : Reply} → ¬ row.when → Settled row.number rows R → Settled k (row ∷ rows) R
  unfolding Exactly
  past n t =
      record {
        says = (λ e. absurd (omega (arith, rises, e, t.above (omega (arith, rises, e)))), λ w. absurd (n w), λ _. t.says);
        above = λ h. omega (arith, rises, t.above h);
      }

-- ---- 1 and 2: the set and the lengths

-- a set is known where it is one of the two, and n = set decides its lengths
known_numbers : (set : ℕ) (s : Parameters) → set_of set ≡ Known s
    → (s ≡ parameters_of set s.root s.step) × ¬ ((set ≢ 576) × (set ≢ 1152))
unfolding set_of parameters_of
known_numbers set s = by (eqb set 576) (eqb set 1152) refl refl
  where
    by : (a b : Bool) → eqb set 576 ≡ a → eqb set 1152 ≡ b
        → cond a (Known (parameters_of 576 49 2)) (cond b (Known (parameters_of 1152 7 1)) None) ≡ Known s
        → (s ≡ parameters_of set s.root s.step) × ¬ ((set ≢ 576) × (set ≢ 1152))
    by true b ea eb e =
        let p : parameters_of 576 49 2 ≡ s = cc in
        rw (← p, eqb-true set 576 ea) (refl, λ n. n.0 refl)
    by false true ea eb e =
        let p : parameters_of 1152 7 1 ≡ s = cc in
        rw (← p, eqb-true set 1152 eb) (refl, λ n. n.1 refl)
    by false false ea eb e = let z : ◌≡◌ {A = ℕ} 0 1 = cc in absurd (omega arith)

-- and unknown where it is neither
pub unknown_numbers : (set : ℕ) → set_of set ≡ None → (set ≢ 576) × (set ≢ 1152)
unfolding set_of
unknown_numbers set = by (eqb set 576) (eqb set 1152) refl refl
  where
    by : (a b : Bool) → eqb set 576 ≡ a → eqb set 1152 ≡ b
        → cond a (Known (parameters_of 576 49 2)) (cond b (Known (parameters_of 1152 7 1)) None) ≡ None → (set ≢ 576) × (set ≢ 1152)
    by true b ea eb e = let z : ◌≡◌ {A = ℕ} 0 1 = cc in absurd (omega arith)
    by false true ea eb e = let z : ◌≡◌ {A = ℕ} 0 1 = cc in absurd (omega arith)
    by false false ea eb e = (eqb-false set 576 ea, eqb-false set 1152 eb)

-- the test of the lengths, as a call makes it
unfoldable pub right : List (List ℕ × ℕ) → Bool
right [] = true
right (b ∷ []) = eqb (length b.0) b.1
right (b ∷ c ∷ bs) = eqb (length b.0) b.1 && right (c ∷ bs)

-- where it passes, all the lengths are right
right_true : (bs : List (List ℕ × ℕ)) → right bs ≡ true → Right bs
unfolding right Right
right_true [] e = tt
right_true (b ∷ []) e = (eqb-true _ _ e, tt)
right_true (b ∷ c ∷ bs) e =
    let t = both_true (eqb (length b.0) b.1) (right (c ∷ bs)) e in
    (eqb-true _ _ t.0, right_true (c ∷ bs) t.1)

-- and where they are, it passes
true_right : (bs : List (List ℕ × ℕ)) → Right bs → right bs ≡ true
unfolding right Right
true_right [] r = refl
true_right (b ∷ []) r = eq-eqb _ _ r.0
true_right (b ∷ c ∷ bs) r = rw (eq-eqb (length b.0) b.1 r.0) (true_right (c ∷ bs) r.1)

-- the row of the lengths, by their test
lengths : (buffers : List (List ℕ × ℕ)) (rows : List Row) (R : Reply) (b : Bool) → right buffers ≡ b → Settled 2 rows R
    → Settled 1 (wrong_length buffers ∷ rows) (cond b R (reply 2 0))
lengths buffers rows R true e t = past 1 (wrong_length buffers) rows (omega arith) (λ n. n (right_true buffers e)) t
lengths buffers rows R false e t =
    here 1 (wrong_length buffers) rows (omega arith) 0 (λ r. false≢true (sym e ∙ true_right buffers r)) refl

-- so the tests that every call makes are rows 1 and 2, where the rest makes the others
pub in_order_lem : (set : ℕ) (fits : Parameters → Bool) (rest : Parameters → Reply) (buffers : List (List ℕ × ℕ)) (rows : List Row)
    → ((w step : ℕ) → fits (parameters_of set w step) ≡ right buffers) → ((s : Parameters) → set_of set ≡ Known s → Settled 2 rows (rest s))
    → Exactly (unknown_set set ∷ wrong_length buffers ∷ rows) (in_order set fits rest)
unfolding in_order for_set
in_order_lem set fits rest buffers rows test after = (by (set_of set) refl).says
  where
    by : (c : Option Parameters) → set_of set ≡ c
        → Settled 0 (unknown_set set ∷ wrong_length buffers ∷ rows) (for_set c (reply 1 0) (λ s. cond (fits s) (rest s) (reply 2 0)))
    by None e = here 0 (unknown_set set) (wrong_length buffers ∷ rows) (omega arith) 0 (unknown_numbers set e) refl
    by (Known s) e =
        let k = known_numbers set s e in
        past 0 (unknown_set set) (wrong_length buffers ∷ rows) (omega arith) k.1
        (lengths buffers rows (rest s) (fits s) (sym (ap fits k.0 ∙ test s.root s.step)) (after s e))

-- ---- 3, 4 and 5: a test of numbers, and the first place at which it holds

module _ (bad : ℕ → Bool) (P : ℕ → Type 0) (same : (x : ℕ) → (bad x ≡ true) ↔ P x) where
  -- where the first place is one of the list's, it is "first such"
  such : (l : List ℕ) → first_where bad l < length l → First P l (first_where bad l)
  unfolding First
  such l h = (h, (same _).0 (first_holds bad l h), λ i b p. false≢true (sym (first_before bad l i b) ∙ (same _).1 p))

  -- where it is the length, no number is such
  none_such : (l : List ℕ) → length l ≤ first_where bad l → ¬ Some P l
  unfolding Some
  none_such l h w = false≢true (sym (first_before bad l w.0 (omega (arith, h, w.1))) ∙ (same _).1 w.2)

  -- so the test is a row
  at_first_lem : (k number : ℕ) (inputs : List (List ℕ)) (rows : List Row) (R : Reply) → k < number → Settled number rows R
      → Settled k (first_such number P inputs ∷ rows) (at_first number bad inputs R)
  unfolding at_first first_through Some First
  at_first_lem k number inputs rows R rises t = by (ltb (first_where bad (flatten inputs)) (length (flatten inputs))) refl
    where
      by : (b : Bool) → ltb (first_where bad (flatten inputs)) (length (flatten inputs)) ≡ b
          → Settled k (first_such number P inputs ∷ rows) (cond b (reply number (first_where bad (flatten inputs))) R)
      by true e =
          let f = such (flatten inputs) (ltb-true _ _ e) in
          here k (first_such number P inputs) rows rises (first_where bad (flatten inputs)) (first_where bad (flatten inputs), f.0, f.1) f
      by false e = past k (first_such number P inputs) rows rises (none_such (flatten inputs) (ltb-false _ _ e)) t

-- "a list number or packed group is above 3456"
pub in_range_lem : (inputs : List (List ℕ)) (rows : List Row) (R : Reply) → Settled 3 rows R → Settled 2 (large_number inputs ∷ rows) (in_range inputs R)
unfolding in_range too_large
in_range_lem inputs rows R = at_first_lem too_large (λ x. 3456 < x) (λ x. (ltb-true 3456 x, lt-ltb 3456 x)) 2 3 inputs rows R (omega arith)

-- "a slot of f or g is zero", of the images in the set
pub slots_zero : (set : ℕ) (seed : List ℕ) (s : Parameters) → set_of set ≡ Known s
    → Settled 2 (zero_slot set seed ∷ [])
    (at_first 4 is_zero (f_image s.half s.root (small_f seed) ∷ g_image s.half s.root (small_g seed) ∷ []) (reply 0 0))
unfolding is_zero slots_of_f slots_of_g
slots_zero set seed s e =
    subst (λ l. Settled 2 (zero_slot set seed ∷ []) (at_first 4 is_zero l (reply 0 0)))
    (ap₂ (λ f g. f ∷ g ∷ []) (for_known set s [] (λ p. f_image p.half p.root (small_f seed)) e)
    (for_known set s [] (λ p. g_image p.half p.root (small_g seed)) e))
    (at_first_lem is_zero (λ x. x ≡ 0) (λ x. (eqb-true x 0, eq-eqb x 0)) 2 4 (slots_of_f set seed ∷ slots_of_g set seed ∷ []) [] (reply 0 0) (omega arith)
    (done 4))

-- "a mark above 2"
pub marks_bad : (marks : List ℕ) → Settled 2 (bad_mark marks ∷ []) (at_first 5 no_mark (marks ∷ []) (reply 0 0))
unfolding no_mark
marks_bad marks =
    at_first_lem no_mark (λ m. 2 < m) (λ m. (ltb-true 2 m, lt-ltb 2 m)) 2 5 (marks ∷ []) [] (reply 0 0) (omega arith) (done 5)

-- ---- 6: a test of two lists

-- "the images differ", the lent one and that of r in the set
pub images_differ : (set : ℕ) (image hblock : List ℕ) (s : Parameters) → set_of set ≡ Known s
    → Settled 3 (differs set image hblock ∷ []) (cond (equal (groups image) (r_image s.half s.root hblock)) (reply 0 0) (reply 6 0))
unfolding slots_of_r
images_differ set image hblock s e =
    subst (λ l. Settled 3 (differs set image hblock ∷ []) (cond (equal (groups image) l) (reply 0 0) (reply 6 0)))
    (for_known set s [] (λ p. r_image p.half p.root hblock) e) (by (equal (groups image) (slots_of_r set hblock)) refl)
  where
    by : (b : Bool) → equal (groups image) (slots_of_r set hblock) ≡ b
        → Settled 3 (differs set image hblock ∷ []) (cond b (reply 0 0) (reply 6 0))
    by true t = past 3 (differs set image hblock) [] (omega arith) (λ n. n (equal_true _ _ t)) (done 6)
    by false t =
        here 3 (differs set image hblock) [] (omega arith) 0
        (λ q. false≢true (sym t ∙ subst (λ l. equal (groups image) l ≡ true) q (equal_same (groups image)))) refl
