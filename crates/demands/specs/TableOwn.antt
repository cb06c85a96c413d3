-- Document 01's table of the numbers that a call can answer: the rows that one call has alone.
-- Assumes nothing: these are definitions.
use Rattle.std.specs.Prelude.{List, [], ◌∷◌, ◌≢◌, ◌≡◌, ℕ, ◌<◌}
use Rattle.packing.specs.Packing.{groups}
use Rattle.answers.specs.Sets.{set_of, for_set}
use Rattle.stages.specs.Making.{small_f, small_g, f_image, g_image}
use Rattle.stages.specs.Sealing.{r_image}
use Rattle.demands.specs.Exactly.{Row}
use Rattle.demands.specs.Table.{first_such}

-- the slots of f, those of g, and "the image of the r sampled from the H block", in the set that a number names
unfoldable pub slots_of_f : ℕ → List ℕ → List ℕ
slots_of_f set seed = for_set (set_of set) [] (λ s. f_image s.half s.root (small_f seed))

unfoldable pub slots_of_g : ℕ → List ℕ → List ℕ
slots_of_g set seed = for_set (set_of set) [] (λ s. g_image s.half s.root (small_g seed))

unfoldable pub slots_of_r : ℕ → List ℕ → List ℕ
slots_of_r set hblock = for_set (set_of set) [] (λ s. r_image s.half s.root hblock)

-- "| 4 | make: a slot of f or g is zero | slot for f; n + slot for g; f first |"
abbrev pub zero_slot : ℕ → List ℕ → Row
zero_slot set seed = first_such 4 (λ x. x ≡ 0) (slots_of_f set seed ∷ slots_of_g set seed ∷ [])

-- "| 5 | open-2: a mark above 2 | first such |"
abbrev pub bad_mark : List ℕ → Row
bad_mark marks = first_such 5 (λ m. 2 < m) (marks ∷ [])

-- "| 6 | open-3: the images differ | 0 |"
abbrev pub differs : ℕ → List ℕ → List ℕ → Row
differs set image hblock = record { number = 6; when = groups image ≢ slots_of_r set hblock; place = λ p. p ≡ 0 }
