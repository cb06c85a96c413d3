-- `open_2` keeps its promise: the exits in the order of the numbers, each by what is known there.
-- Assumes nothing.
use mathlib.Core.Bool.{false}
use mathlib.Core.Path.{◌≡◌, refl, sym, ◌∙◌}
use native.Mathlib.Omega.{arith}
use lib.ListN.{length}
use Rattle.std.proofs.Common.{rules}
use Rattle.answers.specs.Replies.{leaves}
use Rattle.answers.proofs.Exits.{unknown_exit, wrong_length_lem}
use Rattle.answers.proofs.SetLaws.{IsSet, known_set}
use Rattle.calls_open_2.specs.OpenTwo.{open_two_reply, OpenTwo}
use Rattle.calls_open_2.proofs.OpenTwos.{fits, owed}
use Rattle.calls_open_2.proofs.open_2.Goals as goal

pub returns-in_err-s : goal.returns-in_err-s
unfolding OpenTwo open_two_reply leaves
returns-in_err-s c =
    unknown_exit _ c.args.set _ _ (search rules) c.set_of.ensures c.in_err-s.ensures.ok_part refl

pub returns-then-not-message-s : goal.returns-then-not-message-s
unfolding OpenTwo open_two_reply leaves
returns-then-not-message-s c =
    let a = c.args in
    let wrong : fits (length a.marks.now) (length a.gblock.now) (length a.message.now) c.in_ok-s.s ≡ false = grind arith in
    wrong_length_lem _ a.set _ _ c.in_ok-s.s (sym c.set_of.ensures ∙ c.in_ok-s.ensures.ok_part) wrong refl

pub open_2_in-requires : goal.open_2_in-requires
open_2_in-requires c =
    let a = c.args in
    let s = c.in_ok-s.s in
    let set : IsSet a.set s = known_set _ _ (sym c.set_of.ensures ∙ c.in_ok-s.ensures.ok_part) in
    let lengths = c.if-not-message-s.false in
    (omega (arith, lengths, set.words), omega (arith, lengths, set.whole, set.eighth, set.small), omega (arith, lengths, set.whole, set.eighth), omega (arith, lengths, set.gblock))

pub returns : goal.returns
returns c =
    owed _ _ _ _ _ _ (sym c.set_of.ensures ∙ c.in_ok-s.ensures.ok_part)
    c.if-not-message-s.false _ c.open_2_in.ensures
