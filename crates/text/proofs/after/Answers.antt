-- `text::after` meets its contract: it is the library's search for a prefix.
-- Assumes nothing.
use Rattle.text.proofs.LineLaws.{after_is}
use Rattle.text.proofs.after.Goals as goal

pub returns : goal.returns
returns c = after_is c.args.name.now c.args.s.now c.strip_prefix.result c.strip_prefix.ensures.cases
