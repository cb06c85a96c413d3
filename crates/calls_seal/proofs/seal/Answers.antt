-- `seal` keeps its promise: the exits in the order of the numbers, each by what is known there.
-- Assumes nothing.
use mathlib.Core.Bool.{false}
use mathlib.Core.Path.{◌≡◌, refl, sym, ◌∙◌}
use lib.ListN.{length}
use Rattle.std.proofs.Common.{rules, arith}
use Rattle.answers.specs.Replies.{leaves}
use Rattle.answers.proofs.Exits.{unknown_exit, wrong_length_lem}
use Rattle.answers.proofs.SetLaws.{known_set}
use Rattle.calls_seal.specs.Seal.{seal_reply, Seal}
use Rattle.calls_seal.proofs.Seals.{fits, lengths, owed}
use Rattle.calls_seal.proofs.seal.Goals as goal

pub returns-in_err-s : goal.returns-in_err-s
unfolding Seal seal_reply leaves
returns-in_err-s c =
    unknown_exit _ c.args.set _ _ (search rules) c.set_of.ensures c.in_err-s.ensures.ok_part (refl, refl)

pub returns-then-not-key-s : goal.returns-then-not-key-s
unfolding Seal seal_reply leaves
returns-then-not-key-s c =
    let a = c.args in
    let wrong : fits (length a.public.now) (length a.message.now) (length a.hblock.now) (length a.gblock.now) (length a.cipher.now) (length a.key.now) c.in_ok-s.s ≡ false = grind arith steps 40000000 in
    wrong_length_lem _ a.set _ _ c.in_ok-s.s (sym c.set_of.ensures ∙ c.in_ok-s.ensures.ok_part) wrong (refl, refl)

pub seal_known-requires : goal.seal_known-requires
seal_known-requires c =
    let known = sym c.set_of.ensures ∙ c.in_ok-s.ensures.ok_part in
    let l = lengths _ _ _ _ _ _ c.args.set _ known c.if-not-key-s.false refl in
    record { turns = (known_set c.args.set _ known).turns; blocks = (l.0, l.1, l.2, l.3); buffers = (l.4, l.5, l.6) }

pub returns : goal.returns
returns c =
    owed c.args.public.now c.args.message.now c.args.hblock.now c.args.gblock.now c.args.cipher.now c.args.key.now _ _ c.args.set _
    (sym c.set_of.ensures ∙ c.in_ok-s.ensures.ok_part) c.if-not-key-s.false (refl, refl) _ c.seal_known.ensures
