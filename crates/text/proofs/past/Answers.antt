-- `text::past` meets its contract: the bytes after the place that was found, and none where none was.
-- Assumes nothing.
use Rattle.text.proofs.LineLaws.{past_found, past_none}
use Rattle.text.proofs.past.Goals as goal

pub returns-in-Some : goal.returns-in-Some
returns-in-Some c = past_found c.args.byte c.args.s.now c.in-Some.ensures

pub returns-in-None : goal.returns-in-None
returns-in-None c = past_none c.args.byte c.args.s.now c.in-None.ensures
