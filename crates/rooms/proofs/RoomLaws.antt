-- The part of a room that is lent: its first k places.
-- Assumes nothing.
use Rattle.std.proofs.Common.{List, ◌≡◌, ℕ, ◌≤◌, length, take, length-take-le, arith}

pub part_long : (k m : ℕ) (room : List ℕ) → m ≡ length room → k ≤ m → length (take k room) ≡ k
part_long k m room e h = length-take-le k room (omega (arith, e, h))
