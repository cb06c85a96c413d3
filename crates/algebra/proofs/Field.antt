-- The residues as a ring, by the laws of the crate `residue`, and ι, which takes a number to its residue there.
-- Assumes nothing.
use mathlib.Core.Path.{◌≡◌, refl, sym, ap, ap₂, ◌∙◌, subst}
use mathlib.Core.HLevel.{Σ_prop_path}
use mathlib.Core.Logic.{◌≢◌}
use Prim.Native.Nat.{ℕ, zero, suc, ◌+◌, ◌%◌, ◌<◌}
use native.Mathlib.Nat.{ℕ_set, mod-mod, mod-lt, mod-eq_of_lt, mod-add-mod, add-mod-mod}
use native.Mathlib.Numerals.{add-one}
use native.Mathlib.Omega.{arith}
use lib.Dec.{lit<}
use Rattle.residue.specs.Field.{q, addq, negq, subq, mulq, powq, invq}
use Rattle.residue.proofs.FieldLaws as Q
use Rattle.residue.proofs.PowerLaws.{powq_zero, powq_suc}
use Rattle.residue.proofs.Inverse.{mulq_invq}
use Rattle.residue.proofs.Mod.{mul_mod_mod, mod_mul_mod}
use Rattle.algebra.specs.Numbers.{residues, sum}
use Rattle.algebra.proofs.Ring.{Ring, pow, pow_zero, pow_suc, mul_comm, mul_assoc, one_mul, mul_nil, add_mul, minus}
use Rattle.algebra.proofs.Sum.{sum_zero, sum_suc}
use Rattle.algebra.proofs.Map.{Map}

-- a number below q
abbrev Low : Type 0
Low = (x : ℕ) × (x % q ≡ x)

abbrev low : (x : ℕ) → x < q → Low
low x h = (x, mod-eq_of_lt h)

same : {a b : Low} → a.0 ≡ b.0 → a ≡ b
same p = Σ_prop_path (λ x. ℕ_set (x % q) x) p

bound : (a : Low) → a.0 < q
bound a = subst (λ x. x < q) a.1 (mod-lt a.0 (lit< tt))

pub F : Ring
unfolding addq
F =
    record {
      num =
          record {
            C = Low;
            nil = low 0 (lit< tt);
            add = λ a b. low (addq a.0 b.0) (Q.addq_lt a.0 b.0);
            sub = λ a b. low (subq a.0 b.0) (Q.subq_lt a.0 b.0);
            mul = λ a b. low (mulq a.0 b.0) (Q.mulq_lt a.0 b.0);
          };
      one = low 1 (lit< tt);
      neg = low 3456 (lit< tt);
      l_add_assoc = λ a b c. same (Q.addq_assoc a.0 b.0 c.0);
      l_add_comm = λ a b. same (Q.addq_comm a.0 b.0);
      l_add_nil = λ a. same (Q.addq_zero (bound a));
      l_mul_assoc = λ a b c. same (Q.mulq_assoc a.0 b.0 c.0);
      l_mul_comm = λ a b. same (Q.mulq_comm a.0 b.0);
      l_mul_one = λ a. same (Q.mulq_one (bound a));
      l_mul_nil = λ a. same (Q.mulq_zero a.0);
      l_mul_add = λ a b c. same (Q.mulq_addq a.0 b.0 c.0);
      l_one_neg = same refl;
      l_sub = λ a b. same (Q.subq_mulq a.0 b.0);
    }

open F use {num, one as 𝟙, neg as ν}
open F.num use {C, nil as 𝟘, add as ◌⊕◌, mul as ◌⊗◌}

infixl 60 ◌⊕◌
infixl 70 ◌⊗◌
pub ι : ℕ → C
unfolding F
ι x = (x % q, mod-mod x q)

-- residues with equal ι are equal
pub ι_injective : {x y : ℕ} → x < q → y < q → ι x ≡ ι y → x ≡ y
unfolding F ι
ι_injective hx hy e = sym (mod-eq_of_lt hx) ∙ ap (λ a. a.0) e ∙ mod-eq_of_lt hy

pub ι_keeps : Map residues num ι
unfolding F ι addq subq negq mulq
ι_keeps =
    record {
      nil = same refl;
      add = λ x y. same (simp (mod-mod, mod-add-mod, add-mod-mod));
      sub = λ x y. same (simp (mod-mod, mod-add-mod, add-mod-mod));
      mul = λ x y. same (simp (mod-mod, mul_mod_mod, mod_mul_mod));
    }

pub ι_one : ι 1 ≡ 𝟙
unfolding F ι
ι_one = same refl

pub ι_neg : ι 3456 ≡ ν
unfolding F ι
ι_neg = same refl

pub ι_negq : (x : ℕ) → ι (negq x) ≡ ν ⊗ ι x
ι_negq x = ap ι (Q.negq_mulq x) ∙ ι_keeps.mul 3456 x ∙ ap (λ r. r ⊗ ι x) ι_neg

pub ι_powq : (x n : ℕ) → ι (powq x n) ≡ pow F (ι x) n
ι_powq x zero = ap ι (powq_zero x) ∙ ι_one ∙ sym (pow_zero F (ι x))
ι_powq x (suc n) =
    ap ι (powq_suc x n) ∙ ι_keeps.mul x (powq x n) ∙ ap (λ r. ι x ⊗ r) (ι_powq x n) ∙ mul_comm F (ι x) (pow F (ι x) n)
    ∙ sym (pow_suc F (ι x) n)

ι_suc : (n : ℕ) → ι (addq n 1) ≡ ι (suc n)
unfolding F ι addq
ι_suc n = same (mod-mod (n + 1) q ∙ ap (λ k. k % q) (add-one n))

-- 1 + 1 + .. + 1, n times, is n
pub ι_count : (n : ℕ) → sum num n (λ _. 𝟙) ≡ ι n
ι_count zero = sum_zero num _ ∙ sym ι_keeps.nil
ι_count (suc n) = sum_suc num n _ ∙ ap₂ ◌⊕◌ (ι_count n) (sym ι_one) ∙ sym (ι_keeps.add n 1) ∙ ι_suc n

-- a (1/a) = 1
pub ι_inverse : (a : ℕ) → 0 < a → a < q → ι a ⊗ ι (invq a) ≡ 𝟙
ι_inverse a p h = sym (ι_keeps.mul a (invq a)) ∙ ap ι (mulq_invq a p h) ∙ ι_one

less_one : (v : ℕ) → v < q → v ≢ 1 → 0 < addq v 3456
unfolding addq
less_one v h ne = omega arith

-- what a residue other than 1 keeps is 0
pub keeps_nil : (v : ℕ) → v < q → v ≢ 1 → (x : C) → ι v ⊗ x ≡ x → x ≡ 𝟘
keeps_nil v h ne x e =
    sym (one_mul F x) ∙ ap (λ r. r ⊗ x) (sym (mul_comm F (ι (invq m)) (ι m) ∙ ι_inverse m (less_one v h ne) (Q.addq_lt v 3456)))
    ∙ mul_assoc F (ι (invq m)) (ι m) x ∙ ap (λ r. ι (invq m) ⊗ r) gone ∙ mul_nil F (ι (invq m))
  where
    m : ℕ
    m = addq v 3456

    gone : ι m ⊗ x ≡ 𝟘
    gone = rw (ι_keeps.add v 3456, add_mul, e, ι_neg) (minus F x)
