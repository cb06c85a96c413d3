-- `text::terms_into` meets its contract: at each turn the terms of the pieces left, into the list as it is, are what is left to do.
-- Assumes nothing.
use Rattle.std.proofs.Common.{◌≡◌, length}
use Rattle.std.specs.Slice.Iter.{split_rest, split_done}
use Rattle.text.specs.Lines.{comma, split}
use Rattle.text.specs.Terms.{terms}
use Rattle.text.proofs.SplitLaws.{pieces_left}
use Rattle.text.proofs.terms_into.Given as goal

abbrev pub invariant-loop-piece : goal.invariant-loop-piece
invariant-loop-piece l =
    (length l.list ≡ l.n)
    × (terms l.n 0 l.initial.list (split comma l.s) ≡ terms l.n l.low l.list (pieces_left comma (split_done l.piece-iterator) (split_rest l.piece-iterator)))
