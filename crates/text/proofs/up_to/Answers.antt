-- `text::up_to` meets its contract: the bytes before the place that was found.
-- Assumes nothing.
use Rattle.text.proofs.LineLaws.{up_to_found, up_to_none}
use Rattle.text.proofs.up_to.Goals as goal

pub returns-in-Some : goal.returns-in-Some
returns-in-Some c = up_to_found c.args.byte c.args.s.now c.in-Some.ensures

pub returns-in-None : goal.returns-in-None
returns-in-None c = up_to_none c.args.byte c.args.s.now c.in-None.ensures
