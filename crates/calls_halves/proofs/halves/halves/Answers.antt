-- `halves` keeps its promise: the first part begins where the key does, the second where the first one ends.
-- Assumes nothing.
use mathlib.Core.Bool.{false}
use mathlib.Core.List.{List, []}
use mathlib.Core.Path.{◌≡◌, refl, sym, ap, ◌∙◌}
use Prim.Native.Nat.{ℕ}
use native.Mathlib.Omega.{arith}
use lib.ListN.{take, drop}
use lib.Seq.{length-take-le}
use borrow.Author.Rules.{part_to_end}
use Rattle.small.specs.Sampling.{first_half, second_half}
use Rattle.answers.proofs.SetLaws.{IsSet, known_set}
use Rattle.calls_halves.specs.Halves.{handed, further, FHalf, HHalf}
use Rattle.calls_halves.proofs.HalvesLaws.{nothing_further, handed_unknown, handed_known, handed_other, middle}
use Rattle.calls_halves.proofs.halves.halves.Goals as goal

pub slice_bounds-result-end-then-key-s : goal.slice_bounds-result-end-then-key-s
slice_bounds-result-end-then-key-s c =
    let set : IsSet c.args.set c.in-Some.s = known_set _ _ (sym c.in-Some.ensures) in
    sym (length-take-le _ _ (omega arith))

pub slice_bounds-result-count : goal.slice_bounds-result-count
slice_bounds-result-count c =
    let set : IsSet c.args.set c.in-Some.s = known_set _ _ (sym c.in-Some.ensures) in
    omega arith

pub slice_bounds-result-start : goal.slice_bounds-result-start
slice_bounds-result-start c =
    let set : IsSet c.args.set c.in-Some.s = known_set _ _ (sym c.in-Some.ensures) in
    omega arith

pub returns-then-key-s : goal.returns-then-key-s
unfolding first_half second_half further
returns-then-key-s c =
    let e = handed_known c.args.set c.args.key.now _ (sym c.in-Some.ensures) c.if-key-s.true in
    let m = middle c.args.set c.args.key.now _ (sym c.in-Some.ensures) c.if-key-s.true in
    record {
      first = record { content = rw e (ap (λ m. take m c.args.key.now) m); lent = refl };
      second = record {
        content = rw e (part_to_end c.args.key.now _ ∙ ap (λ m. drop m c.args.key.now) m);
        lent = rw e (ap (further c.args.key.ref_ptr) m);
      };
    }

-- nothing is handed back: both parts are empty, at the key's place
module _ (set : ℕ) (key : List ℕ) (p : ℕ × ℕ) (e : handed set key ≡ false) where
  first_empty : FHalf set key p [] p
  first_empty = record { content = rw e refl; lent = refl }

  second_empty : HHalf set key p [] p
  second_empty = record { content = rw e refl; lent = rw e (nothing_further p) }

pub returns-else-key-s : goal.returns-else-key-s
returns-else-key-s c =
    let e = handed_other c.args.set c.args.key.now _ (sym c.in-Some.ensures) c.if-key-s.false in
    record { first = first_empty _ _ _ e; second = second_empty _ _ _ e }

pub returns-in-None : goal.returns-in-None
returns-in-None c =
    let e = handed_unknown c.args.set c.args.key.now (sym c.in-None.ensures) in
    record { first = first_empty _ _ _ e; second = second_empty _ _ _ e }
