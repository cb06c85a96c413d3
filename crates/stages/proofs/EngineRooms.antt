-- The part of a room that a list of an engine's n = 2h numbers takes.
-- Assumes nothing.
use mathlib.Core.List.{List}
use mathlib.Core.Path.{◌≡◌, ◌∙◌}
use Prim.Native.Nat.{ℕ, ◌+◌}
use native.Mathlib.Omega.{arith}
use lib.ListN.{length, take}
use Rattle.rooms.proofs.RoomLaws.{part_long}
use Rattle.slots.specs.Ready.{Ready}
use Rattle.slots.proofs.ReadyLaws.{half_small}

pub engine_part : {h s n : ℕ} {powers : List ℕ} (room : List ℕ) → Ready h s powers → 1152 ≡ length room → n ≡ h + h → length (take n room) ≡ h + h
engine_part room ready e n = part_long _ 1152 room e (omega (arith, n, half_small ready)) ∙ n
