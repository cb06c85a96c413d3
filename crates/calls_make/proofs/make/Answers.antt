-- `make` keeps its promise: the exits in the order of the numbers, each by what is known there.
-- Assumes nothing.
use mathlib.Core.Bool.{false}
use mathlib.Core.Path.{◌≡◌, refl, sym, ◌∙◌}
use lib.ListN.{length}
use Rattle.std.proofs.Common.{rules, arith}
use Rattle.answers.specs.Replies.{leaves}
use Rattle.answers.proofs.Exits.{unknown_exit, wrong_length_lem}
use Rattle.answers.proofs.SetLaws.{known_set}
use Rattle.calls_make.specs.Make.{make_reply, Make}
use Rattle.calls_make.proofs.Makes.{fits, owed, asked}
use Rattle.calls_make.proofs.make.Goals as goal

pub returns-in_err-s : goal.returns-in_err-s
unfolding Make make_reply leaves
returns-in_err-s c =
    unknown_exit _ c.args.set _ _ (search rules) c.set_of.ensures c.in_err-s.ensures.ok_part (refl, refl)

pub returns-then-not-private-s : goal.returns-then-not-private-s
unfolding Make make_reply leaves
returns-then-not-private-s c =
    let a = c.args in
    let wrong : fits (length a.seed.now) (length a.public.now) (length a.private.now) c.in_ok-s.s ≡ false = grind arith in
    wrong_length_lem _ a.set _ _ c.in_ok-s.s (sym c.set_of.ensures ∙ c.in_ok-s.ensures.ok_part) wrong (refl, refl)

pub new-requires : goal.new-requires
new-requires c = (known_set c.args.set c.in_ok-s.s (sym c.set_of.ensures ∙ c.in_ok-s.ensures.ok_part)).turns

pub make_in-requires : goal.make_in-requires
make_in-requires c =
    let fit = asked c.args.set (sym c.set_of.ensures ∙ c.in_ok-s.ensures.ok_part) c.if-not-private-s.false c.new.ensures.0 in
    record { seed_fits = fit.0; keys_fit = fit.1 }

pub returns : goal.returns
returns c =
    let a = c.args in
    owed a.seed.now a.public.now a.private.now _ _ a.set c.in_ok-s.s (sym c.set_of.ensures ∙ c.in_ok-s.ensures.ok_part) c.if-not-private-s.false c.new.ensures _ c.make_in.ensures
