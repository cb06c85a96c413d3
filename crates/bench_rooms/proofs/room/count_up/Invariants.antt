-- count_up: the bytes behind are written, and the rest is as it was.
-- Assumes nothing.
use Rattle.std.proofs.Common.{◌≡◌, ℕ, ◌+◌, ◌<◌, ◌≤◌, get_or}
use Rattle.bench_rooms.proofs.room.count_up.Given as goal

abbrev pub invariant-loop-k : goal.invariant-loop-k
invariant-loop-k l = record {
  bytes : (j : ℕ) → j < l.k → j < 32 → get_or l.room j 0 ≡ j + 1;
  rest : (j : ℕ) → 32 ≤ j → get_or l.room j 0 ≡ get_or l.fn.room j 0;
}
