-- What is known of a set's parameters, one record for both sets: the lengths fit n = 2h, and the root has the order 6h.
-- Assumes nothing.
use mathlib.Core.Bool.{Bool, true, false, cond}
use mathlib.Core.Path.{◌≡◌, refl}
use Prim.Native.Nat.{ℕ, ◌+◌, ◌*◌, ◌%◌, ◌≤◌}
use native.Mathlib.Omega.{arith}
use lib.Dec.{eqb}
use borrow.Author.Tests.{eqb-true}
use Rattle.std.proofs.Common.{Some, None}
use Rattle.residue.specs.Field.{generator, powq}
use Rattle.answers.specs.declared.Parameters.{Parameters}
use Rattle.answers.specs.Sets.{parameters_of, set_of}

pub record IsSet (set : ℕ) (s : Parameters) : Type 0 where
  pub size : s.n ≡ set
  pub whole : s.n ≡ s.half + s.half
  pub slots : s.slots ≡ s.half + s.half
  pub small : s.n ≤ 1152
  pub turns : s.step * (6 * s.half) ≡ 3456
  pub root : powq generator s.step ≡ s.root
  pub seed : s.seed ≡ 4 * s.message
  pub packed : s.packed ≡ 3 * s.half
  pub private : s.private ≡ s.packed + s.packed
  pub hblock : s.hblock ≡ 32 + s.gblock
  pub eighth : s.half ≡ 4 * s.message
  pub words : s.message % 4 ≡ 0
  pub gblock : s.gblock ≡ 2 * s.message
  pub key : s.key ≡ 32

-- ---- the two sets, by computed tests

is_576 : IsSet 576 (parameters_of 576 49 2)
unfolding parameters_of powq
is_576 =
    record {
      size = refl;
      whole = refl;
      slots = refl;
      small = omega arith;
      turns = refl;
      root = refl;
      seed = refl;
      packed = refl;
      private = refl;
      hblock = refl;
      eighth = refl;
      words = refl;
      gblock = refl;
      key = refl;
    }

is_1152 : IsSet 1152 (parameters_of 1152 7 1)
unfolding parameters_of powq
is_1152 =
    record {
      size = refl;
      whole = refl;
      slots = refl;
      small = omega arith;
      turns = refl;
      root = refl;
      seed = refl;
      packed = refl;
      private = refl;
      hblock = refl;
      eighth = refl;
      words = refl;
      gblock = refl;
      key = refl;
    }

-- ---- so every set that is known is one

pub known_set : (set : ℕ) (s : Parameters) → set_of set ≡ Some s → IsSet set s
unfolding set_of
known_set set s = by (eqb set 576) (eqb set 1152) refl refl
  where
    by : (a b : Bool) → eqb set 576 ≡ a → eqb set 1152 ≡ b
        → cond a (Some (parameters_of 576 49 2)) (cond b (Some (parameters_of 1152 7 1)) None) ≡ Some s → IsSet set s
    by true b ea eb e =
        let p : parameters_of 576 49 2 ≡ s = cc in
        rw (← p, eqb-true set 576 ea) is_576
    by false true ea eb e =
        let p : parameters_of 1152 7 1 ≡ s = cc in
        rw (← p, eqb-true set 1152 eb) is_1152
    by false false ea eb e = let z : ◌≡◌ {A = ℕ} 0 1 = cc in absurd (omega arith)
