-- `slotwise::same` meets its contract: what is kept is whether the places read agree.
-- Assumes nothing.
use Rattle.std.proofs.Common.{◌&&◌, length, nat_eq, sym, ap, ap₂, ◌∙◌, arith}
use Rattle.std.proofs.lemmas.List.{length_push}
use Rattle.std.proofs.lemmas.Slice.Zip.{zip_turn, zip_end}
use Rattle.lists.specs.Every.{agree}
use Rattle.lists.proofs.EqualLaws.{agree_none, agree_more, agree_equal}
use Rattle.slotwise.proofs.same.Goals as goal

pub loop-x-init : goal.loop-x-init
loop-x-init c = sym (agree_none _ _)

pub loop-x-preserved : goal.loop-x-preserved
loop-x-preserved c =
    let a = c.args.a.now in
    let b = c.args.b.now in
    let n = length c.loop-x.yielded in
    let at =
    zip_turn a b c.loop-x.yielded c.into_iter-x-iterator.result c.loop-x.x-iterator c.next.new.self _ (cc) (cc) c.loop-x.yielded_by
    (c.in-Some.x, c.in-Some.y) c.in-Some.is c.next.ensures.steps in
    ap₂ (λ t u. t && u) (ap₂ nat_eq (at.2 0) (at.3 0)) c.loop-x.invariant ∙ sym (agree_more a b n)
    ∙ ap (λ k. agree k a b) (sym (length_push c.loop-x.yielded (c.in-Some.x, c.in-Some.y)))

pub returns : goal.returns
returns c =
    let a = c.args.a.now in
    let b = c.args.b.now in
    let all =
    zip_end a b c.loop-x.yielded c.into_iter-x-iterator.result c.loop-x.x-iterator c.next.new.self _ (cc) (cc) c.loop-x.yielded_by
    c.in-None.is c.next.ensures.steps in
    c.loop-x.invariant ∙ sym (agree_equal (length c.loop-x.yielded) a b (omega (arith, all)) (omega (arith, all)))
