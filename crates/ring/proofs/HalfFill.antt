-- The filling of a buffer of 2h places by a loop that stores at k and at h + k in each turn: the invariant, its start, its turn and its end.
-- Assumes nothing.
use mathlib.Core.Path.{◌≡◌, ◌∙◌}
use mathlib.Core.List.{List}
use Prim.Native.Nat.{ℕ, ◌+◌, ◌≤◌, ◌<◌}
use native.Mathlib.Decide.{ℕ_discrete}
use native.Mathlib.Omega.{arith}
use lib.ListN.{length, get_or, set, length-set}
use lib.Seq.{get_or-set_same, get_or-set_other}
use Rattle.lists.specs.Tab.{tab}
use Rattle.lists.proofs.TabLaws.{tab_of}
use Rattle.algebra.proofs.Halves.{halves}

-- at a loop's head: the buffer l has 2h places, and the first k of each half hold what f says
pub record HalfFill (f : ℕ → ℕ) (h : ℕ) (l : List ℕ) (k : ℕ) : Type 0 where
  pub upto : k ≤ h
  pub long : length l ≡ h + h
  pub low : (i : ℕ) → i < k → get_or l i 0 ≡ f i
  pub high : (i : ℕ) → i < k → get_or l (h + i) 0 ≡ f (h + i)

-- nothing is filled at the start
pub half_start : (f : ℕ → ℕ) {h : ℕ} {l : List ℕ} → length l ≡ h + h → HalfFill f h l 0
half_start f e = record { upto = omega arith; long = e; low = λ i p. absurd (omega arith); high = λ i p. absurd (omega arith) }

-- a turn stores f k at k and f (h + k) at h + k
pub half_turn : {f : ℕ → ℕ} {h : ℕ} {l : List ℕ} {k : ℕ} → HalfFill f h l k → (v w : ℕ) → k < h → v ≡ f k → w ≡ f (h + k)
    → HalfFill f h (set (set l k v) (h + k) w) (k + 1)
half_turn {f} {h} {l} {k} r v w b ev ew =
    record {
      upto = omega arith;
      long = length-set (set l k v) (h + k) w ∙ length-set l k v ∙ r.long;
      low = λ i p. get_or-set_other (set l k v) (h + k) i w 0 (λ e. omega arith) ∙ lower i p (ℕ_discrete i k);
      high = λ i p. upper i p (ℕ_discrete i k);
    }
  where
    lower : (i : ℕ) → i < k + 1 → Dec (i ≡ k) → get_or (set l k v) i 0 ≡ f i
    lower i p (yes e) = rw e (get_or-set_same l k v 0 (omega (arith, r.long)) ∙ ev)
    lower i p (no e) = get_or-set_other l k i v 0 e ∙ r.low i (omega arith)

    upper : (i : ℕ) → i < k + 1 → Dec (i ≡ k) → get_or (set (set l k v) (h + k) w) (h + i) 0 ≡ f (h + i)
    upper i p (yes e) = rw e (get_or-set_same (set l k v) (h + k) w 0 (omega (arith, length-set l k v, r.long)) ∙ ew)
    upper i p (no e) =
        get_or-set_other (set l k v) (h + k) (h + i) w 0 (λ x. e (omega arith)) ∙ get_or-set_other l k (h + i) v 0 (λ x. omega arith)
        ∙ r.high i (omega arith)

-- when both halves are filled, the buffer is the table
pub half_end : {f : ℕ → ℕ} {h : ℕ} {l : List ℕ} {k : ℕ} → HalfFill f h l k → h ≤ k → l ≡ tab (h + h) f
half_end {f} {h} {l} r b =
    tab_of 0 (h + h) f l r.long
    (halves h (λ i. get_or l i 0 ≡ f i) (λ i p. r.low i (omega arith)) (λ i p. r.high i (omega arith)))
