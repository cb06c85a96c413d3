-- `packing::pack` meets its contract: at pair k the list is read up to 2 k, and the first 3 k bytes are those of the packed form.
-- Assumes nothing.
use Rattle.std.proofs.Common.{◌≡◌, ◌*◌, length, get_or, drop}
use Rattle.lists.proofs.Fill.{Fill}
use Rattle.packing.specs.Packing.{packed}
use Rattle.packing.proofs.pack.Given as goal

abbrev pub invariant-loop-k : goal.invariant-loop-k
invariant-loop-k l = let k = l.k-iterator.count in record {
  size : l.k-iterator.iter.size ≡ 2;
  rest : drop (2 * k) l.list ≡ l.k-iterator.iter.rest.now;
  filled : Fill (λ j. get_or (packed l.list) j 0) (length l.initial.bytes) l.bytes (3 * k);
}
