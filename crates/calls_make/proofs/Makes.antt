-- What `make` owes and asks where the set is known and the lengths are right; what its stages yield: the images of f and g, a zero slot in them, the keys.
-- Assumes nothing.
use mathlib.Core.Bool.{Bool, ◌&&◌}
use mathlib.Core.List.{List, [], ◌∷◌, ◌++◌, flatten}
use mathlib.Core.Path.{◌≡◌, refl, ap, ap₂}
use Prim.Native.Nat.{ℕ, ◌+◌, ◌*◌, ◌%◌}
use native.Mathlib.Omega.{arith}
use lib.Dec.{eqb}
use lib.ListN.{length}
use borrow.Author.Tests.{eq-eqb}
use Rattle.std.proofs.Common.{Option, Some, position, option_map}
use Rattle.std.specs.Option.{option_or}
use Rattle.residue.specs.Field.{generator, powq}
use Rattle.residue.specs.Residues.{Residues}
use Rattle.algebra.specs.SlotBySlot.{times, inverses, is_zero}
use Rattle.packing.specs.Packing.{packed}
use Rattle.answers.specs.Answers.{Answer}
use Rattle.answers.specs.declared.Parameters.{Parameters}
use Rattle.answers.specs.Replies.{Reply, reply, leaves, Outcome}
use Rattle.answers.specs.Sets.{set_of, for_set}
use Rattle.answers.specs.Tests.{at_first}
use Rattle.stages.specs.Images.{tripled, plus_one}
use Rattle.stages.specs.Making.{small_f, small_g, f_image, g_image, h_image, public_key, private_key}
use Rattle.answers.proofs.Counting.{counted, counted_one}
use Rattle.answers.proofs.Exits.{right_lengths}
use Rattle.answers.proofs.SetLaws.{known_set}
use Rattle.stages.proofs.ImageLaws.{residues_as, image_of_residues}
use Rattle.calls_make.specs.Make.{make_reply, public_of, private_of, Make}

-- the test of the lengths
abbrev pub fits : (seed public private : ℕ) → Parameters → Bool
fits seed public private s = eqb seed s.seed && (eqb public s.packed && eqb private s.private)

module _ (seed public private public' private' : List ℕ) where
  -- what is answered once the lengths are right, and what the buffers hold then, with h = n/2 and the root w
  abbrev pub rest : ℕ → ℕ → Reply
  rest h w = at_first 4 is_zero (f_image h w (small_f seed) ∷ g_image h w (small_g seed) ∷ []) (reply 0 0)

  abbrev pub Holds : ℕ → ℕ → Reply → Type 0
  Holds h w R = (public' ≡ leaves R (public_key h w seed) public) × (private' ≡ leaves R (private_key h w seed) private)

  -- the promise of `make`, from what `make_in` owes with the half and the step of the engine made for the set
  pub owed : (set : ℕ) (s : Parameters) → set_of set ≡ Some s
      → (length seed ≡ s.seed) × (length public ≡ s.packed) × (length private ≡ s.private)
      → {h step : ℕ} → (h ≡ s.half) × (step ≡ s.step)
      → (r : Answer) → Outcome (rest h (powq generator step)) r (Holds h (powq generator step))
      → Make set seed public private r public' private'
  unfolding Make make_reply public_of private_of for_set
  owed set s known long e r x =
      right_lengths _ set _ _ s known (simp (eq-eqb _ _ long.0, eq-eqb _ _ long.1, eq-eqb _ _ long.2)) r (rw (known, ← (known_set set s known).root, ← e.0, ← e.1) x)

-- what `make_in` asks, with h = n/2: a set that is known, and the right lengths
pub asked : (set : ℕ) {seed public private : ℕ} {s : Parameters} → set_of set ≡ Some s
    → (seed ≡ s.seed) × (public ≡ s.packed) × (private ≡ s.private) → {h : ℕ} → h ≡ s.half
    → ((h ≡ seed) × (h % 16 ≡ 0)) × ((public ≡ 3 * h) × (private ≡ 3 * h + 3 * h))
asked set {s = s} known l half =
    let i = known_set set s known in (
      (omega (arith, half, i.eighth, i.seed, l.0), omega (arith, half, i.eighth, i.words)),
      (omega (arith, half, i.packed, l.1), omega (arith, half, i.packed, i.private, l.2)),
    )

-- ---- where f and g hold the images

module _ (h w : ℕ) (seed : List ℕ) {f g : List ℕ} (f_is : f ≡ f_image h w (small_f seed)) (g_is : g ≡ g_image h w (small_g seed)) where
  pub f_residues : Residues (h + h) f
  unfolding f_image
  f_residues = residues_as (image_of_residues h w (plus_one (tripled (small_f seed)))) f_is refl

  pub g_residues : Residues (h + h) g
  unfolding g_image
  g_residues = residues_as (image_of_residues h w (tripled (small_g seed))) g_is refl

  -- what the search through them finds is the first zero slot
  pub zero_slot : {first rest at : Option ℕ} → first ≡ position is_zero f → rest ≡ position is_zero g
      → at ≡ option_or first (option_map (λ i. h + h + i) rest)
      → at ≡ position is_zero (flatten (f_image h w (small_f seed) ∷ g_image h w (small_g seed) ∷ []))
  zero_slot a b e =
      rw (← f_is, ← g_is) (counted is_zero f (g ∷ []) f_residues.long a (counted_one is_zero g b) e)

  -- what is packed are the keys
  h_is : times (length f) g (inverses (length f) f) ≡ h_image h w (small_f seed) (small_g seed)
  unfolding h_image
  h_is = rw (f_residues.long, f_is, g_is) refl

  pub public_is : packed (times (length f) g (inverses (length f) f)) ≡ public_key h w seed
  unfolding public_key
  public_is = ap packed h_is

  pub private_is : packed f ++ packed (inverses (length f) (times (length f) g (inverses (length f) f))) ≡ private_key h w seed
  unfolding private_key
  private_is = ap₂ (λ a b. packed a ++ packed b) f_is (ap₂ inverses f_residues.long h_is)
