-- A step done block by block, once for the listing and its reverse: its length, a step that undoes another, and the turn of a loop.
-- Assumes nothing.
use mathlib.Core.Path.{◌≡◌, refl, sym, ap, ◌∙◌}
use mathlib.Core.List.{List, [], ◌∷◌, ◌++◌, append_assoc, append-nil}
use Prim.Native.Nat.{ℕ, ◌+◌, ◌-◌, ◌%◌, ◌≤◌, ◌<◌}
use native.Mathlib.Omega.{arith}
use lib.ListN.{length, take, drop, length-append, length-drop, take-append-drop}
use lib.Seq.{length-take-le, take_all, take_at, drop_at, drop-drop}
use borrow.Rule.Slice.PartMut.{put_mid, same_len_mid, mid_len}
use Rattle.lists.specs.Below.{Below}
use Rattle.lists.proofs.BelowLaws.{below_nil, below_append, below_take, below_drop}
use Rattle.lists.proofs.Parts.{take_put}
use Rattle.bits.specs.Blocks.{blocks, blockwise}
use Rattle.bits.proofs.Blocks.{Words, total, blocks_none}

module _ (step : ℕ → List ℕ → List ℕ) (takes gives : ℕ → ℕ) (sized : (B : ℕ) (xs : List ℕ) → length (step B xs) ≡ gives B) where
  -- each block gives its own
  pub length_blockwise : (Bs xs : List ℕ) → length (blockwise step takes Bs xs) ≡ total gives Bs
  unfolding blockwise total
  length_blockwise [] xs = refl
  length_blockwise (B ∷ Bs) xs =
      length-append (step B (take (takes B) xs)) (blockwise step takes Bs (drop (takes B) xs))
      ∙ omega (arith, sized B (take (takes B) xs), length_blockwise Bs (drop (takes B) xs))

  -- what a step `back` undoes block by block, it undoes
  pub blockwise_undo : (back : ℕ → List ℕ → List ℕ) (m : ℕ)
      → ((B : ℕ) → B % 32 ≡ 0 → (xs : List ℕ) → length xs ≡ takes B → Below m xs → back B (step B xs) ≡ xs)
      → (Bs : List ℕ) → Words Bs → (xs : List ℕ) → length xs ≡ total takes Bs → Below m xs
      → blockwise back gives Bs (blockwise step takes Bs xs) ≡ xs
  unfolding blockwise Words total
  blockwise_undo back m undo [] w xs long low = take_all 0 xs (omega arith)
  blockwise_undo back m undo (B ∷ Bs) w xs long low =
      let front = step B (take (takes B) xs) in
      let rest = blockwise step takes Bs (drop (takes B) xs) in
      ap (λ ys. back B ys ++ blockwise back gives Bs (drop (gives B) (front ++ rest))) (take_at front rest (gives B) (sized B _))
      ∙ ap (λ ys. back B front ++ blockwise back gives Bs ys) (drop_at front rest (gives B) (sized B _))
      ∙ ap (λ ys. ys ++ blockwise back gives Bs rest)
      (undo B w.0 (take (takes B) xs) (length-take-le (takes B) xs (omega arith)) (below_take (takes B) xs low))
      ∙ ap (λ ys. take (takes B) xs ++ ys)
      (blockwise_undo back m undo Bs w.1 (drop (takes B) xs) (omega (arith, length-drop (takes B) xs)) (below_drop (takes B) xs low))
      ∙ take-append-drop (takes B) xs

-- what each block gives is below m
pub below_blockwise : (step : ℕ → List ℕ → List ℕ) (takes : ℕ → ℕ) (m : ℕ) → 0 < m → ((B : ℕ) (xs : List ℕ) → Below m (step B xs))
    → (Bs xs : List ℕ) → Below m (blockwise step takes Bs xs)
unfolding blockwise
below_blockwise step takes m some low [] xs = below_nil some
below_blockwise step takes m some low (B ∷ Bs) xs =
    below_append (step B (take (takes B) xs)) (low B (take (takes B) xs)) (below_blockwise step takes m some low Bs (drop (takes B) xs))

-- ---- the loop that does it

-- At its head, at bit `at` of n: of the whole, o elements stand in the buffer l of m, and those of the blocks left, from place i of xs on, are to come.
pub record Progress (step : ℕ → List ℕ → List ℕ) (takes : ℕ → ℕ) (whole xs : List ℕ) (n m at i o : ℕ) (l : List ℕ) : Type 0 where
  pub upto : at ≤ n
  pub words : at % 32 ≡ 0
  pub long : length l ≡ m
  pub so_far : whole ≡ take o l ++ blockwise step takes (blocks (n - at)) (drop i xs)

module _ {step : ℕ → List ℕ → List ℕ} {takes : ℕ → ℕ} {whole xs : List ℕ} {n m : ℕ} where
  pub progress_start : (l : List ℕ) → length l ≡ m → whole ≡ blockwise step takes (blocks n) xs → Progress step takes whole xs n m 0 0 0 l
  progress_start l k e =
      let all : n ≡ n - 0 = omega arith in
      record { upto = omega arith; words = refl; long = k; so_far = e ∙ ap (λ b. blockwise step takes (blocks b) xs) all }

  -- a turn lends the places from o to e and has the next block done there, of b bits from t elements of xs
  pub progress_turn : {at i o : ℕ} {l : List ℕ} → Progress step takes whole xs n m at i o l → (B i' e b t : ℕ) (part : List ℕ)
      → blocks (n - at) ≡ B ∷ blocks (n - at - B) → B ≤ n - at → B % 32 ≡ 0 → i' ≡ i + takes B → o ≤ e → e ≤ length l → b ≡ B → t ≡ takes B
      → part ≡ step b (take t (drop i xs)) → length part ≡ e - o → Progress step takes whole xs n m (at + B) i' e (put_mid o (e - o) l part)
  unfolding blockwise
  progress_turn {at} {i} {o} {l} r B i' e b t part first fits words next h k whole_block taken done size =
      let p = rw (whole_block, taken) at done in
      let left : n - at - B ≡ n - (at + B) = omega arith in
      let others : List ℕ → List ℕ = λ ys. blockwise step takes (blocks (n - (at + B))) ys in
      record {
        upto = omega (arith, r.upto);
        words = omega (arith, r.words);
        long = same_len_mid o (e - o) l part (size ∙ sym (mid_len o e l k)) ∙ r.long;
        so_far =
            r.so_far ∙ ap (λ Bs. take o l ++ blockwise step takes Bs (drop i xs)) (first ∙ ap (λ b. B ∷ blocks b) left)
            ∙ ap (λ ys. take o l ++ (ys ++ others (drop (takes B) (drop i xs)))) (sym p)
            ∙ ap (λ ys. take o l ++ (part ++ others ys)) (drop-drop (takes B) i xs ∙ ap (λ j. drop j xs) (sym next))
            ∙ sym (append_assoc (take o l) part (others (drop i' xs)))
            ∙ ap (λ ys. ys ++ others (drop i' xs)) (sym (take_put l part o e h k size));
      }

  -- when no bits are left, the buffer is the whole
  pub progress_end : {at i o : ℕ} {l : List ℕ} → Progress step takes whole xs n m at i o l → n ≤ at → m ≤ o → l ≡ whole
  unfolding blockwise
  progress_end {at} {i} {o} {l} r h k =
      let none : n - at ≡ 0 = omega arith in
      sym (r.so_far ∙ ap (λ Bs. take o l ++ blockwise step takes Bs (drop i xs)) (ap blocks none ∙ blocks_none)
      ∙ append-nil (take o l) ∙ take_all o l (omega (arith, r.long)))
