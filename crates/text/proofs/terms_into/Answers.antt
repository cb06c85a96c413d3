-- `text::terms_into` meets its contract: at each turn the terms of the pieces left, into the list as it is, are what is left to do.
-- Assumes nothing.
use Rattle.std.proofs.Common.{◌≡◌, ◌∷◌, Some, rules, tests, refl, sym, ap, ◌∙◌, add-one, length, length-set, set}
use Rattle.std.specs.Slice.Iter.{split_rest, split_done}
use Rattle.text.specs.Lines.{comma, split}
use Rattle.text.specs.Terms.{term, terms}
use Rattle.text.proofs.PolynomialLaws.{reads_none, reads_some}
use Rattle.text.proofs.SplitLaws.{pieces_left, next_piece}
use Rattle.text.proofs.TermLaws.{terms_none, terms_not, terms_refused, terms_more}
use Rattle.text.proofs.terms_into.Goals as goal
use Rattle.text.proofs.terms_into.Goals.{In-Some, In-Some-term}

-- what is left to do at the turn of a piece
turn : (c : In-Some)
    → terms (length c.args.list.now) 0 c.args.list.now (split comma c.args.s.now)
    ≡ terms (length c.args.list.now) c.loop-piece.low c.loop-piece.list
    (c.in-Some.piece.now ∷ pieces_left comma (split_done c.next.new.self) (split_rest c.next.new.self))
turn c =
    let left = next_piece _ comma c.loop-piece.piece-iterator c.next.new.self c.in-Some.piece (λ a b q k. search (rules, tests)) c.in-Some.ensures.steps in
    c.loop-piece.invariant.1 ∙ ap (terms (length c.args.list.now) c.loop-piece.low c.loop-piece.list) left

-- the term that the piece is
found : (c : In-Some-term) → term c.in-Some.piece.now ≡ Some (c.in-Some-term.index, c.in-Some-term.value)
found c = sym c.term.ensures ∙ c.in-Some-term.is

pub loop-piece-init : goal.loop-piece-init
loop-piece-init c =
    let it = c.into_iter-piece-iterator.ensures.into_iter_gives in
    let left : pieces_left comma (split_done c.into_iter-piece-iterator.result) (split_rest c.into_iter-piece-iterator.result) ≡ split comma c.args.s.now = cc in
    (refl, ap (terms (length c.args.list.now) 0 c.args.list.now) (sym left))

pub returns-in_default : goal.returns-in_default
returns-in_default c =
    reads_none _ (turn (goal.at.returns-in_default c).In-Some ∙ terms_not _ _ _ c.in-Some.piece.now _ (sym c.term.ensures ∙ c.in_default.is))

pub returns-then-not-in_range : goal.returns-then-not-in_range
returns-then-not-in_range c =
    let here = goal.at.returns-then-not-in_range c in
    reads_none _ (turn here.In-Some
    ∙ terms_refused _ _ _ c.in-Some.piece.now _ _ _ (found here.In-Some-term) (sym c.in_range.ensures.test ∙ c.if-not-in_range.true))

pub loop-piece-preserved : goal.loop-piece-preserved
loop-piece-preserved c =
    let here = goal.at.loop-piece-preserved c in
    let stored = set c.loop-piece.list c.in-Some-term.index c.in-Some-term.value in
    let others = pieces_left comma (split_done c.next.new.self) (split_rest c.next.new.self) in
    let next = ap (λ low. terms (length c.args.list.now) low stored others) (add-one c.in-Some-term.index) in (
      simp length-set c.loop-piece.invariant.0,
      turn here.In-Some
          ∙ terms_more _ _ _ c.in-Some.piece.now others _ _ (found here.In-Some-term) (sym c.in_range.ensures.test ∙ c.if-not-in_range.false) ∙ sym next,
    )

pub returns : goal.returns
returns c =
    let it = c.loop-piece.piece-iterator in
    let none_left = ap (λ done. terms (length c.args.list.now) c.loop-piece.low c.loop-piece.list (pieces_left comma done (split_rest it))) c.in-None.ensures.steps.0 in
    reads_some _ (c.loop-piece.invariant.1 ∙ none_left ∙ terms_none _ _ _)
