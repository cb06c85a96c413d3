-- Three times a polynomial, and a polynomial plus 1, by residues: coefficient by coefficient.
-- Assumes nothing.
use mathlib.Core.List.{List, [], ◌∷◌, map}
use mathlib.Core.Path.{◌≡◌, refl, sym, ap, ap₂, ◌∙◌}
use Prim.Native.Nat.{ℕ, ◌+◌, ◌*◌, ◌<◌}
use native.Mathlib.Omega.{arith}
use lib.IntN.{ℤ, pos, ◌*ℤ◌}
use lib.ListN.{length, get_or, set, length-map}
use Rattle.residue.specs.Field.{addq, mulq}
use Rattle.residue.specs.Residues.{Residues}
use Rattle.residue.specs.Signed.{residue_of}
use Rattle.algebra.specs.SlotBySlot.{times, inverses}
use Rattle.small.specs.Sampling.{sampled}
use Rattle.slots.specs.Ready.{Ready}
use Rattle.stages.specs.Images.{tripled, plus_one}
use Rattle.residue.proofs.SignedLaws.{residue_of_add, residue_of_mul}
use Rattle.algebra.proofs.Lists.{times_residues, inverses_residues}
use Rattle.algebra.proofs.Sets.{half_positive}
use Rattle.small.proofs.SmallLaws.{length_sampled}
use Rattle.stages.proofs.ImageLaws.{residues_as, whole_residues}

pub length_tripled : (p : List ℤ) → length (tripled p) ≡ length p
unfolding tripled
length_tripled p = length-map p (λ z. pos 3 *ℤ z)

pub length_plus_one : (p : List ℤ) → length (plus_one p) ≡ length p
unfolding plus_one
length_plus_one [] = refl
length_plus_one (z ∷ p) = refl

-- the residue of 3z is 3 times that of z
pub map_tripled : (p : List ℤ) → map (mulq 3) (map residue_of p) ≡ map residue_of (tripled p)
unfolding tripled residue_of
map_tripled [] = refl
map_tripled (z ∷ p) = ap₂ (λ x l. x ∷ l) (sym (residue_of_mul (pos 3) z)) (map_tripled p)

-- the first coefficient plus 1, the others as they were
pub plus_one_is : (p : List ℤ) {v : ℕ} → 0 < length p → v ≡ addq (get_or (map residue_of p) 0 0) 1 → set (map residue_of p) 0 v ≡ map residue_of (plus_one p)
unfolding plus_one residue_of
plus_one_is [] h e = absurd (omega arith)
plus_one_is (z ∷ p) h e = ap (λ x. x ∷ map residue_of p) (e ∙ sym (residue_of_add z (pos 1)))

-- ---- what n/4 bytes sample, tripled: the list l, of n = 2h numbers

-- n is not 0
pub some_numbers : {h step : ℕ} {powers : List ℕ} → Ready h step powers → 0 < h + h
some_numbers {h} {step} ready = omega (arith, half_positive h _ (record { log = step; turns = ready.turns; root = refl }))

module _ (block : List ℕ) {n : ℕ} {l : List ℕ} (size : n ≡ 4 * length block) (is : l ≡ map (mulq 3) (map residue_of (sampled block))) where
  long : length (tripled (sampled block)) ≡ n
  long = length_tripled (sampled block) ∙ length_sampled block ∙ sym size

  pub tripled_is : l ≡ map residue_of (tripled (sampled block))
  tripled_is = is ∙ map_tripled (sampled block)

  pub tripled_residues : Residues n l
  tripled_residues = residues_as (whole_residues (tripled (sampled block)) long) tripled_is refl

  -- with 1 added to its first number
  module _ (some : 0 < n) {v : ℕ} (sum : v ≡ addq (get_or l 0 0) 1) where
    pub first_plus_one : set l 0 v ≡ map residue_of (plus_one (tripled (sampled block)))
    first_plus_one =
        ap (λ k. set k 0 v) tripled_is
        ∙ plus_one_is (tripled (sampled block)) (omega (arith, long, some)) (sum ∙ ap (λ k. addq (get_or k 0 0) 1) tripled_is)

    pub plus_one_residues : Residues n (set l 0 v)
    plus_one_residues =
        residues_as (whole_residues (plus_one (tripled (sampled block))) (length_plus_one (tripled (sampled block)) ∙ long)) first_plus_one refl

-- ---- slots written into a room of m numbers are residues

pub inverted : (m : ℕ) (a : List ℕ) {n : ℕ} {l : List ℕ} → l ≡ inverses m a → m ≡ n → Residues n l
inverted m a e h = residues_as (inverses_residues m a) e (sym h)

pub multiplied : (m : ℕ) (a b : List ℕ) {n : ℕ} {l : List ℕ} → l ≡ times m a b → m ≡ n → Residues n l
multiplied m a b e h = residues_as (times_residues m a b) e (sym h)
