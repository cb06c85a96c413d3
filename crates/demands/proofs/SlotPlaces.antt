-- "slot for f; n + slot for g": the places that row 4 counts through the slots of f and then of g, f having n slots.
-- Assumes nothing.
use mathlib.Core.List.{List, [], ◌∷◌, ◌++◌, flatten, append-nil}
use mathlib.Core.Path.{◌≡◌, refl, sym, ap, ◌∙◌}
use Prim.Native.Nat.{ℕ, ◌+◌, ◌<◌}
use native.Mathlib.Omega.{arith}
use lib.ListN.{length, get_or, get_or-append}
use lib.Seq.{get_or-append-add}
use Rattle.algebra.specs.Transform.{image}
use Rattle.answers.specs.declared.Parameters.{Parameters}
use Rattle.std.specs.Prelude.{Option, Some, None}
use Rattle.answers.specs.Sets.{set_of}
use Rattle.stages.specs.Images.{image_of}
use Rattle.stages.specs.Making.{small_f, f_image}
use Rattle.lists.proofs.TabLaws.{length_tab}
use Rattle.answers.proofs.Exits.{for_known}
use Rattle.answers.proofs.SetLaws.{known_set}
use Rattle.demands.specs.Table.{unknown_set}
use Rattle.demands.specs.TableOwn.{slots_of_f, slots_of_g}
use Rattle.demands.proofs.ExactlyLaws.{unknown_numbers}

-- f has n slots
f_long : (set : ℕ) (seed : List ℕ) (s : Parameters) → set_of set ≡ Some s → length (slots_of_f set seed) ≡ set
unfolding slots_of_f f_image image_of image
f_long set seed s e =
    let i = known_set set s e in
    ap length (for_known set s [] (λ p. f_image p.half p.root (small_f seed)) e) ∙ length_tab _ _ ∙ sym i.whole ∙ i.size

-- so before place n a slot of f, from place n on a slot of g
pub make_place : (set : ℕ) (seed : List ℕ) (k : ℕ) → ¬ (unknown_set set).when
    → (k < set → get_or (flatten (slots_of_f set seed ∷ slots_of_g set seed ∷ [])) k 0 ≡ get_or (slots_of_f set seed) k 0)
    × (get_or (flatten (slots_of_f set seed ∷ slots_of_g set seed ∷ [])) (set + k) 0 ≡ get_or (slots_of_g set seed) k 0)
unfolding flatten
make_place set seed k known = by (set_of set) refl
  where
    by : (c : Option Parameters) → set_of set ≡ c
        → (k < set → get_or (slots_of_f set seed ++ (slots_of_g set seed ++ [])) k 0 ≡ get_or (slots_of_f set seed) k 0)
        × (get_or (slots_of_f set seed ++ (slots_of_g set seed ++ [])) (set + k) 0 ≡ get_or (slots_of_g set seed) k 0)
    by None e = absurd (known (unknown_numbers set e))
    by (Some s) e =
        let l = f_long set seed s e in (
          λ h. get_or-append (slots_of_f set seed) _ 0 k (omega (arith, h, l)),
          ap (λ n. get_or (slots_of_f set seed ++ (slots_of_g set seed ++ [])) (n + k) 0) (sym l)
              ∙ get_or-append-add (slots_of_f set seed) _ k 0 ∙ ap (λ m. get_or m k 0) (append-nil (slots_of_g set seed)),
        )
