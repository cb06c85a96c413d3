-- `packing::unpack_pairs` meets its contract: at group k of three bytes they are read up to 3 k, and the first 2 k numbers are those of the groups.
-- Assumes nothing.
use Rattle.std.proofs.Common.{◌≡◌, ◌*◌, length, get_or, drop}
use Rattle.lists.proofs.Fill.{Fill}
use Rattle.packing.specs.Packing.{groups}
use Rattle.packing.proofs.unpack_pairs.Given as goal

abbrev pub invariant-loop-k : goal.invariant-loop-k
invariant-loop-k l = let k = l.k-iterator.count in record {
  size : l.k-iterator.iter.size ≡ 3;
  rest : drop (3 * k) l.bytes ≡ l.k-iterator.iter.rest.now;
  filled : Fill (λ j. get_or (groups l.bytes) j 0) (length l.initial.list) l.list (2 * k);
}
