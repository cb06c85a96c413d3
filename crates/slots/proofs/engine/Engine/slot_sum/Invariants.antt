-- `Engine::slot_sum` meets its contract: after t pairs the sum has 2t slots, and `even` and `odd` are the exponents of the next two powers.
-- Assumes nothing.
use mathlib.Core.Path.{◌≡◌}
use Prim.Native.Nat.{◌+◌, ◌*◌, ◌%◌, ◌≤◌}
use lib.ListN.{length, drop}
use Rattle.residue.specs.Field.{generator, powq}
use Rattle.algebra.specs.Numbers.{residues, sum}
use Rattle.slots.proofs.SlotLaws.{slot_term}
use Rattle.slots.proofs.engine.Engine.slot_sum.Given as goal

abbrev pub invariant-loop-pair : goal.invariant-loop-pair
invariant-loop-pair l = let t = length l.yielded in record {
  upto : t + t ≤ length l.a;
  size : l.pair-iterator.size ≡ 2;
  rest : drop (t + t) l.a ≡ l.pair-iterator.rest.now;
  six : l.six ≡ l.log * 6 % 3456;
  sum : l.sum.0 ≡ sum residues (t + t) (slot_term (powq generator l.self.step) l.a l.j);
  even : l.even ≡ l.log * (6 * t + 1) % 3456;
  odd : l.odd ≡ l.log * (6 * t + 5) % 3456;
}
