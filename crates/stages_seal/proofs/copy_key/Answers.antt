-- `copy_key` meets its contract: the first 32 bytes.
-- Assumes nothing.
use Rattle.std.proofs.Common.{rules}
use Rattle.stages.specs.Sealing.{key_bytes}
use Rattle.stages_seal.proofs.copy_key.Goals as goal

pub returns : goal.returns
unfolding key_bytes
returns c = search rules
