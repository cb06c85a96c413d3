-- `open_3` keeps its promise: the exits in the order of the numbers, each by what is known there.
-- Assumes nothing.
use mathlib.Core.Bool.{false}
use mathlib.Core.Path.{◌≡◌, refl, sym, ◌∙◌}
use lib.ListN.{length}
use Rattle.std.proofs.Common.{rules, arith}
use Rattle.answers.specs.Replies.{leaves}
use Rattle.answers.proofs.Exits.{unknown_exit, wrong_length_lem}
use Rattle.answers.proofs.SetLaws.{known_set}
use Rattle.calls_open_3.specs.OpenThree.{open_three_reply, OpenThree}
use Rattle.calls_open_3.proofs.OpenThrees.{fits, lengths, owed}
use Rattle.calls_open_3.proofs.open_3.Goals as goal

pub returns-in_err-s : goal.returns-in_err-s
unfolding OpenThree open_three_reply leaves
returns-in_err-s c =
    unknown_exit _ c.args.set _ _ (search rules) c.set_of.ensures c.in_err-s.ensures.ok_part refl

pub returns-then-not-key-s : goal.returns-then-not-key-s
unfolding OpenThree open_three_reply leaves
returns-then-not-key-s c =
    let wrong : fits (length c.args.image.now) (length c.args.hblock.now) (length c.args.key.now) c.in_ok-s.s ≡ false = grind arith in
    wrong_length_lem _ c.args.set _ _ c.in_ok-s.s (sym c.set_of.ensures ∙ c.in_ok-s.ensures.ok_part) wrong refl

pub new-requires : goal.new-requires
new-requires c = (known_set c.args.set _ (sym c.set_of.ensures ∙ c.in_ok-s.ensures.ok_part)).turns

pub open_3_in-requires : goal.open_3_in-requires
open_3_in-requires c =
    lengths _ _ _ c.args.set _ (sym c.set_of.ensures ∙ c.in_ok-s.ensures.ok_part) c.if-not-key-s.false c.new.ensures.0

pub returns : goal.returns
returns c =
    owed c.args.image.now c.args.hblock.now c.args.key.now _ c.args.set _ (sym c.set_of.ensures ∙ c.in_ok-s.ensures.ok_part) c.if-not-key-s.false
    c.new.ensures _ c.open_3_in.ensures
