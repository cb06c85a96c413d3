-- One outcome at the exports too: where a call's promise leaves one answer and one content of each buffer, its export leaves one number, one
-- place and that content; and one start and one length of a half. Assumes nothing.
use mathlib.Core.List.{List}
use mathlib.Core.Path.{◌≡◌, sym, ap, ◌∙◌}
use Prim.Native.Nat.{ℕ}
use native.Mathlib.Omega.{arith}
use lib.ListN.{length}
use Rattle.answers.specs.Answers.{Answer}
use Rattle.answers.specs.Answers.{number_of, place_of}
use Rattle.calls_halves.specs.Halves.{further}
use Rattle.face.specs.Exported.{Exported, PartOf}

-- `unique` is `λ r s. product-unique set a b before`, say; `Same` is what it says of the buffers
pub exported_unique : {Kept Kept' : Answer → Type 0} {Same : Type 0} {n m p o : ℕ} → ((r s : Answer) → Kept r → Kept' s → (r ≡ s) × Same)
    → Exported Kept n p → Exported Kept' m o → (n ≡ m) × (p ≡ o) × Same
exported_unique unique x y =
    let e = unique _ _ x.kept y.kept in
    (x.number_is ∙ ap number_of e.0 ∙ sym y.number_is, x.place_is ∙ ap place_of e.0 ∙ sym y.place_is, e.1)

-- `unique` is `λ x y i j. f-half-unique set key place`, or that of `h-half-unique`
pub part_unique : (key : List ℕ) (place : ℕ × ℕ) {Kept : List ℕ → ℕ × ℕ → Type 0} {a b n m : ℕ}
    → ((x y : List ℕ) (i j : ℕ × ℕ) → Kept x i → Kept y j → (x ≡ y) × (i ≡ j))
    → PartOf key place Kept a n → PartOf key place Kept b m → (a ≡ b) × (n ≡ m)
unfolding further
part_unique key place unique x y =
    let e = unique _ _ _ _ x.kept y.kept in
    (omega (arith, ap (λ q. q.1) e.1), sym x.within ∙ ap length e.0 ∙ y.within)
