-- The lengths that blocks and lists have to have, beside an engine whose lists are n = 2h numbers.
-- Assumes nothing: these are definitions.
use Rattle.std.specs.Prelude.{List, ◌≡◌, ℕ, ◌+◌, ◌*◌, ◌%◌, length}
use Rattle.slots.specs.declared.engine.Engine.{Engine}
use Rattle.slots.specs.Engines.{size}

-- n/4 bytes, a whole number of 8, to be sampled into a list of n numbers
abbrev pub SampleFits : Engine → List ℕ → List ℕ → Type 0
SampleFits engine block out = (length block % 8 ≡ 0) × (size engine ≡ 4 * length block) × (length out ≡ size engine)

-- an H block: 32 key bytes and n/4 bytes, a whole number of 8, from which r is sampled
abbrev pub HblockFits : Engine → List ℕ → Type 0
HblockFits engine hblock = (engine.half % 16 ≡ 0) × (length hblock + length hblock ≡ 64 + engine.half)
