-- "An answer is a number and a place": the table of document 01, for each case of the code's enum.
-- Assumes nothing: these are definitions.
use Rattle.std.specs.Prelude.{ℕ, Result, Ok, Err}
use Rattle.answers.specs.declared.Refusal.{Refusal}
use Rattle.answers.specs.declared.Refusal.TheVariants.{UnknownSet, WrongLength, TooLarge, ZeroSlot, BadMark, Differs, Malformed}

-- done, or a refusal: the code's `Answer`
abbrev pub Answer : Type 0
Answer = Result (Unit {0}) Refusal

-- "no."
abbrev pub number_of : Answer → ℕ
number_of (Ok _) = 0
number_of (Err UnknownSet) = 1
number_of (Err WrongLength) = 2
number_of (Err (TooLarge p)) = 3
number_of (Err (ZeroSlot p)) = 4
number_of (Err (BadMark p)) = 5
number_of (Err Differs) = 6
number_of (Err (Malformed p)) = 7

-- "The place is 0 except where stated."
abbrev pub place_of : Answer → ℕ
place_of (Ok _) = 0
place_of (Err UnknownSet) = 0
place_of (Err WrongLength) = 0
place_of (Err (TooLarge p)) = p
place_of (Err (ZeroSlot p)) = p
place_of (Err (BadMark p)) = p
place_of (Err Differs) = 0
place_of (Err (Malformed p)) = p
