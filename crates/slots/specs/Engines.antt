-- What an engine works over: lists of n = 2h numbers, with the root w = 7^step.
-- Assumes nothing: these are definitions.
use Rattle.std.specs.Prelude.{ℕ, ◌+◌}
use Rattle.residue.specs.Field.{generator, powq}
use Rattle.slots.specs.declared.engine.Engine.{Engine}

-- n
abbrev pub size : Engine → ℕ
size engine = engine.half + engine.half

-- w
abbrev pub root : Engine → ℕ
root engine = powq generator engine.step
