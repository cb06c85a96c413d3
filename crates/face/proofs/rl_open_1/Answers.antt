-- `rl_open_1` keeps its promise: what it hands out is the number and the place of the answer with which `open_1` kept its own.
-- Assumes nothing.
use Rattle.face.proofs.rl_open_1.Goals as goal

pub returns : goal.returns
returns c =
    record {
      answer = _;
      kept = c.open_1.ensures;
      number_is = c.from.ensures.0;
      place_is = c.from.ensures.1;
    }
