-- `Engine::slot_sum` meets its contract: after t pairs the sum has 2t slots, and `even` and `odd` are the exponents of the next two powers.
-- Assumes nothing.
use Rattle.std.proofs.Common.{rules}
use Rattle.std.proofs.lemmas.List.{length-append, length-drop}
use mathlib.Core.Path.{◌≡◌, refl, sym, ap, ap₂, ◌∙◌}
use mathlib.Core.List.{List, [], ◌∷◌, ◌++◌}
use Prim.Native.Nat.{ℕ, ◌+◌, ◌*◌, ◌<◌}
use native.Mathlib.Omega.{arith}
use lib.ListN.{length, get_or, drop}
use Rattle.lists.proofs.Parts.{part_at, part_rest}
use Rattle.residue.specs.Field.{q, generator, addq, mulq, powq}
use Rattle.residue.specs.Residues.{Residues}
use Rattle.algebra.specs.Numbers.{residues, sum}
use Rattle.algebra.specs.Transform.{slot_sum}
use Rattle.algebra.proofs.Sum.{sum_zero}
use Rattle.ring.proofs.Sums.{sum_low}
use Rattle.slots.proofs.Logs.{log_one, log_add, opposite_power}
use Rattle.slots.proofs.ReadyLaws.{root_log, root_whole, step_small}
use Rattle.slots.proofs.SlotLaws.{slot_term, slots_more}
use Rattle.slots.proofs.engine.Engine.slot_sum.Goals as goal

-- the pair that is read at place 2t: it is within the list, and holds the residues that stand there
module _ (t : ℕ) (a pair rest : List ℕ) (e : drop (t + t) a ≡ pair ++ rest) (two : length pair ≡ 2) where
  room : t + t + 1 < length a
  room = omega (arith, two, ap length e, length-append pair rest, length-drop (t + t) a)

  first : get_or pair 0 0 ≡ get_or a (t + t) 0
  first = part_at (t + t) a pair rest e 0 _ (omega (arith, two)) (omega arith)

  second : get_or pair 1 0 ≡ get_or a (t + t + 1) 0
  second = part_at (t + t) a pair rest e 1 _ (omega (arith, two)) refl

  first_low : {n : ℕ} → Residues n a → get_or pair 0 0 < q
  first_low r = omega (arith, first, r.low (t + t) (omega (arith, room, r.long)))

  second_low : {n : ℕ} → Residues n a → get_or pair 1 0 < q
  second_low r = omega (arith, second, r.low (t + t + 1) (omega (arith, room, r.long)))

pub loop-pair-init : goal.loop-pair-init
loop-pair-init c =
    let log = c.opposite-log.result in
    let one = log_one log (omega arith) in
    let two = c.advance-two.ensures ∙ log_add log 1 1 one one refl in
    let four = c.advance-four.ensures ∙ log_add log 2 2 two two refl in
    record {
      upto = omega arith;
      size = search rules;
      rest = search rules;
      six = c.advance-six.ensures ∙ log_add log 4 2 four two refl;
      sum = sym (sum_zero residues _);
      even = one;
      odd = c.advance-odd.ensures ∙ log_add log 4 1 four one refl;
    }

pub invariant_of-sum : goal.invariant_of-sum
invariant_of-sum c = let t = length c.loop-pair.yielded in record { below = sum_low _ (t + t) c.loop-pair.invariant.sum }

pub invariant_of-sum-2 : goal.invariant_of-sum-2
invariant_of-sum-2 c = let t = length c.loop-pair.yielded in record { below = sum_low _ (t + t) c.loop-pair.invariant.sum }

pub invariant_of-first : goal.invariant_of-first
invariant_of-first c =
    let read = c.loop-pair.invariant in
    let step = c.in-Some.ensures.steps in
    record { below = first_low (length c.loop-pair.yielded) _ _ _ (read.rest ∙ step.1.0) (step.1.1 ∙ read.size) c.requires.0 }

pub invariant_of-second : goal.invariant_of-second
invariant_of-second c =
    let read = c.loop-pair.invariant in
    let step = c.in-Some.ensures.steps in
    record { below = second_low (length c.loop-pair.yielded) _ _ _ (read.rest ∙ step.1.0) (step.1.1 ∙ read.size) c.requires.0 }

pub loop-pair-preserved : goal.loop-pair-preserved
loop-pair-preserved c =
    let l = c.loop-pair in
    let t = length l.yielded in
    let a = c.args.a.now in
    let pair = c.in-Some.pair.now in
    let rest = c.next.new.self.rest.now in
    let engine = c.args.self.now in
    let step = c.in-Some.ensures.steps in
    let e : drop (t + t) a ≡ pair ++ rest = l.invariant.rest ∙ step.1.0 in
    let two : length pair ≡ 2 = step.1.1 ∙ l.invariant.size in
    let more : length (l.yielded ++ (c.in-Some.pair ∷ [])) ≡ t + 1 = length-append l.yielded (c.in-Some.pair ∷ []) in
    let log = c.opposite-log.result in
    let below = root_log engine.ready c.args.j (omega arith) in
    let root = opposite_power engine.step c.args.j (step_small engine.ready) (root_whole engine.ready) below c.opposite-log.ensures in
    record {
      upto = omega (arith, more, room t a pair rest e two);
      size = step.0 ∙ l.invariant.size;
      rest = part_rest (t + t) a pair rest e _ (omega (arith, more, two));
      six = l.invariant.six;
      sum =
          c.plus_pair-sum.ensures
          ∙ ap₂ (λ x y. addq (addq l.sum.0 (mulq x (powq generator l.even))) (mulq y (powq generator l.odd)))
          (first t a pair rest e two) (second t a pair rest e two)
          ∙ slots_more _ a c.args.j log root t l.invariant.sum l.invariant.even l.invariant.odd
          ∙ ap (λ n. sum residues (n + n) (slot_term (powq generator engine.step) a c.args.j)) (sym more);
      even = c.advance-even.ensures ∙ log_add log (6 * t + 1) 6 l.invariant.even l.invariant.six (omega (arith, more));
      odd = c.advance-odd-in-loop-pair.ensures ∙ log_add log (6 * t + 5) 6 l.invariant.odd l.invariant.six (omega (arith, more));
    }

pub returns : goal.returns
unfolding slot_sum slot_term
returns c =
    let s = c.args in
    let read = c.loop-pair.invariant in
    let t = length c.loop-pair.yielded in
    let few : length c.loop-pair.pair-iterator.rest.now < c.loop-pair.pair-iterator.size = c.in-None.ensures.steps.1.0 in
    let whole : t ≡ s.self.now.half = omega (arith, few, read.upto, read.size, ap length read.rest, length-drop (t + t) s.a.now, c.requires.0.long) in
    read.sum ∙ ap (λ n. sum residues (n + n) (slot_term (powq generator s.self.now.step) s.a.now s.j)) whole
