-- unpack: the numbers behind are written, and the rest is as it was.
-- Assumes nothing.
use Rattle.std.proofs.Common.{◌≡◌, ℕ, ◌<◌, ◌≤◌, get_or}
use Rattle.bench_rooms.specs.Rooms.{number_at}
use Rattle.bench_rooms.proofs.room.unpack.Given as goal

abbrev pub invariant-loop-k : goal.invariant-loop-k
invariant-loop-k l = record {
  numbers : (j : ℕ) → j < l.k → j < l.count → get_or l.out j 0 ≡ number_at l.packed j;
  rest : (j : ℕ) → l.count ≤ j → get_or l.out j 0 ≡ get_or l.fn.out j 0;
}
