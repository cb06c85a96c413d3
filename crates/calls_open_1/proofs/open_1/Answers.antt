-- `open_1` keeps its promise: the exits in the order of the numbers, each by what is known there.
-- Assumes nothing.
use mathlib.Core.Bool.{false}
use mathlib.Core.Path.{◌≡◌, refl, sym, ◌∙◌}
use native.Mathlib.Omega.{arith}
use lib.ListN.{length}
use Rattle.std.proofs.Common.{rules}
use Rattle.answers.specs.Replies.{leaves}
use Rattle.answers.proofs.Exits.{unknown_exit, wrong_length_lem}
use Rattle.answers.proofs.SetLaws.{IsSet, known_set}
use Rattle.calls_open_1.specs.OpenOne.{open_one_reply, OpenOne}
use Rattle.calls_open_1.proofs.OpenOnes.{fits, owed}
use Rattle.calls_open_1.proofs.open_1.Goals as goal

pub returns-in_err-s : goal.returns-in_err-s
unfolding OpenOne open_one_reply leaves
returns-in_err-s c =
    unknown_exit _ c.args.set _ _ (search rules) c.set_of.ensures c.in_err-s.ensures.ok_part (refl, refl)

pub returns-then-not-image-s : goal.returns-then-not-image-s
unfolding OpenOne open_one_reply leaves
returns-then-not-image-s c =
    let a = c.args in
    let wrong : fits (length a.private.now) (length a.cipher.now) (length a.marks.now) (length a.image.now) c.in_ok-s.s ≡ false = grind arith in
    wrong_length_lem _ a.set _ _ c.in_ok-s.s (sym c.set_of.ensures ∙ c.in_ok-s.ensures.ok_part) wrong (refl, refl)

pub new-requires : goal.new-requires
new-requires c = (known_set _ _ (sym c.set_of.ensures ∙ c.in_ok-s.ensures.ok_part)).turns

pub open_1_in-requires : goal.open_1_in-requires
open_1_in-requires c =
    let a = c.args in
    let s = c.in_ok-s.s in
    let set : IsSet a.set s = known_set _ _ (sym c.set_of.ensures ∙ c.in_ok-s.ensures.ok_part) in
    let lengths = c.if-not-image-s.false in
    record {
      inputs = (omega (arith, lengths, set.private, set.packed, c.new.ensures), omega (arith, lengths, set.packed, c.new.ensures));
      outputs = (omega (arith, lengths, set.whole, c.new.ensures), omega (arith, lengths, set.packed, c.new.ensures));
    }

pub returns : goal.returns
returns c =
    let a = c.args in
    let half : c.new.result.half ≡ c.in_ok-s.s.half = c.new.ensures.0 in
    let step : c.new.result.step ≡ c.in_ok-s.s.step = c.new.ensures.1 in
    owed a.private.now a.cipher.now a.marks.now a.image.now _ _ a.set c.in_ok-s.s (sym c.set_of.ensures ∙ c.in_ok-s.ensures.ok_part)
    c.if-not-image-s.false _ (rw (← half, ← step) c.open_1_in.ensures)
