-- What the rooms hold, by their places.
-- Assumes nothing: these are definitions.
use Rattle.std.specs.Prelude.{◌≡◌, ◌+◌, ◌*◌, ◌/◌, ◌%◌, ◌<◌, ◌≤◌, ◌==◌, ℕ, List, fold, min, if◌then◌else◌, replicate, slice_index, slice_set}
use Rattle.bench_rooms.specs.declared.room.TheConstants.{BYTES}
use Rattle.bench_rooms.specs.declared.room.Input.{Input}
use Rattle.bench_rooms.specs.declared.room.Input.TheVariants.{Filled, Triples, ZerosBut, Counting}

-- each value stored at its place, if the list has it
abbrev pub stored : {A : Type 0} → List A → List (ℕ × A) → List A
stored = fold (λ xs v. slice_set xs v.0 v.1)

-- the bytes of an input
abbrev pub IsRoomOf : Input → List ℕ → Type 0
IsRoomOf (Filled byte) room = room ≡ replicate BYTES byte
IsRoomOf (Triples bytes) room =
    ((k : ℕ) → k < BYTES / 3 * 3 → slice_index room k ≡ slice_index bytes (k % 3))
    × ((k : ℕ) → BYTES / 3 * 3 ≤ k → slice_index room k ≡ 0)
IsRoomOf (ZerosBut values) room = room ≡ stored (replicate BYTES 0) values.now
IsRoomOf Counting room =
    ((k : ℕ) → k < 32 → slice_index room k ≡ k + 1) × ((k : ℕ) → 32 ≤ k → slice_index room k ≡ 0)

-- number k of a packed image: of the three bytes of its pair, the first and the middle one's low half, or the high half and the last
abbrev pub number_at : List ℕ → ℕ → ℕ
number_at packed k =
    let first = slice_index packed (k / 2 * 3) in
    let middle = slice_index packed (k / 2 * 3 + 1) in
    let last = slice_index packed (k / 2 * 3 + 2) in
    if k % 2 == 0 then first + middle % 16 * 256 else middle / 16 + last * 16

-- how many numbers an image gives a list that holds n: the pairs that both have
abbrev pub unpacked_count : ℕ → ℕ → ℕ
unpacked_count bytes n = min (bytes / 3) (n / 2) * 2
