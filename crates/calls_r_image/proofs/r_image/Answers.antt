-- `r_image` keeps its promise: the exits in the order of the numbers, each by what is known there.
-- Assumes nothing.
use mathlib.Core.Bool.{false}
use mathlib.Core.Path.{◌≡◌, refl, sym, ◌∙◌}
use lib.ListN.{length}
use Rattle.std.proofs.Common.{rules, arith}
use Rattle.answers.specs.Replies.{leaves}
use Rattle.answers.proofs.Exits.{unknown_exit, wrong_length_lem}
use Rattle.answers.proofs.SetLaws.{known_set}
use Rattle.calls_r_image.specs.RImage.{r_image_reply, RImage}
use Rattle.calls_r_image.proofs.RImages.{fits, lengths, owed}
use Rattle.calls_r_image.proofs.r_image.Goals as goal

pub returns-in_err-s : goal.returns-in_err-s
unfolding RImage r_image_reply leaves
returns-in_err-s c =
    unknown_exit _ c.args.set _ _ (search rules) c.set_of.ensures c.in_err-s.ensures.ok_part refl

pub returns-then-not-image-s : goal.returns-then-not-image-s
unfolding RImage r_image_reply leaves
returns-then-not-image-s c =
    let wrong : fits (length c.args.hblock.now) (length c.args.image.now) c.in_ok-s.s ≡ false = grind arith in
    wrong_length_lem _ c.args.set _ _ c.in_ok-s.s (sym c.set_of.ensures ∙ c.in_ok-s.ensures.ok_part) wrong refl

pub new-requires : goal.new-requires
new-requires c = (known_set c.args.set _ (sym c.set_of.ensures ∙ c.in_ok-s.ensures.ok_part)).turns

pub r_image_in-requires : goal.r_image_in-requires
r_image_in-requires c =
    lengths _ _ c.args.set _ (sym c.set_of.ensures ∙ c.in_ok-s.ensures.ok_part) c.if-not-image-s.false c.new.ensures.0

pub returns : goal.returns
returns c =
    owed c.args.hblock.now c.args.image.now _ c.args.set _ (sym c.set_of.ensures ∙ c.in_ok-s.ensures.ok_part) c.if-not-image-s.false c.new.ensures c.r_image_in.ensures
