-- Demand 2: "Transforming, multiplying slot by slot and transforming back equals the schoolbook product", of the definitions that the
-- promises of the calls cite, for every set number. Assumes nothing.
use mathlib.Core.List.{List, []}
use mathlib.Core.Logic.{◌≢◌}
use mathlib.Core.Path.{◌≡◌, refl, sym, ap, ◌∙◌, subst}
use Prim.Native.Nat.{ℕ, ◌+◌, ◌*◌, ◌<◌}
use native.Mathlib.Omega.{arith}
use Rattle.residue.specs.Field.{powq}
use Rattle.residue.specs.Residues.{Residues}
use Rattle.algebra.specs.Numbers.{residues}
use Rattle.algebra.specs.Product.{product}
use Rattle.algebra.specs.Roots.{IsRoot}
use Rattle.algebra.specs.SlotBySlot.{times}
use Rattle.algebra.specs.Transform.{image, reverse}
use Rattle.answers.specs.declared.Parameters.{Parameters}
use Rattle.std.specs.Prelude.{Option, Some, None}
use Rattle.answers.specs.Sets.{set_of, for_set}
use Rattle.calls_product.specs.Product.{product_of}
use Rattle.calls_transforms.specs.Transform.{transform_of}
use Rattle.calls_transforms.specs.Reverse.{reverse_of}
use Rattle.algebra.proofs.Sets.{root_turn, root_order}
use Rattle.algebra.proofs.Theorems.{reverse_times}
use Rattle.answers.proofs.SetLaws.{IsSet, known_set}
use Rattle.demands.specs.Slots.{times_of}

-- the root of a set serves the transform
pub set_root : {set : ℕ} {s : Parameters} → IsSet set s → IsRoot s.half s.root
set_root {s = s} i = record { log = s.step; turns = i.turns; root = i.root }

-- "order of w": 3n, and no smaller power of the root is 1
pub set_order : (set : ℕ) (s : Parameters) → set_of set ≡ Some s
    → (powq s.root (3 * s.n) ≡ 1) × ((k : ℕ) → 0 < k → k < 3 * s.n → powq s.root k ≢ 1)
set_order set s e =
    let i = known_set set s e in
    let three : 6 * s.half ≡ 3 * s.n = omega (arith, i.whole) in (
      subst (λ m. powq s.root m ≡ 1) three (root_turn s.half s.root (set_root i)),
      λ k p l. root_order s.half s.root (set_root i) k p (omega (arith, l, three)),
    )

-- an element of the set: n = 2h residues
set_residues : {set : ℕ} {s : Parameters} → IsSet set s → {l : List ℕ} → Residues set l → Residues (s.half + s.half) l
set_residues i {l} = subst (λ n. Residues n l) (sym i.size ∙ i.whole)

-- "the schoolbook product folded by x^n - x^(n/2) + 1"
pub product_by_images : (set : ℕ) (a b : List ℕ) → Residues set a → Residues set b
    → reverse_of set (times_of set (transform_of set a) (transform_of set b)) ≡ product_of set a b
unfolding reverse_of times_of transform_of product_of for_set
product_by_images set a b ra rb = by (set_of set) (known_set set)
  where
    by : (c : Option Parameters) → ((s : Parameters) → c ≡ Some s → IsSet set s)
        → for_set c [] (λ s. reverse s.half s.root
        (for_set c [] (λ s. times s.slots (for_set c [] (λ s. image s.half s.root a)) (for_set c [] (λ s. image s.half s.root b)))))
        ≡ for_set c [] (λ s. product residues s.half a b)
    by None known = refl
    by (Some s) known =
        let i = known s refl in
        ap (λ n. reverse s.half s.root (times n (image s.half s.root a) (image s.half s.root b))) i.slots
        ∙ reverse_times s.half s.root (set_root i) a b (set_residues i ra) (set_residues i rb)
