-- put: the values behind are stored.
-- Assumes nothing.
use Rattle.std.proofs.Common.{◌≡◌, take}
use Rattle.bench_rooms.specs.Rooms.{stored}
use Rattle.bench_rooms.proofs.room.put.Given as goal

abbrev pub invariant-loop-place : goal.invariant-loop-place
invariant-loop-place g l = l.room ≡ stored l.initial.room (take l.place-index l.values)
