-- `test_list` tells the refusal at each of its exits; what passes all the tests is an element of the set.
-- Assumes nothing.
use mathlib.Core.Bool.{true, false, ◌&&◌}
use mathlib.Core.List.{[], ◌∷◌}
use mathlib.Core.Path.{◌≡◌, sym, ◌∙◌}
use native.Mathlib.Omega.{arith}
use lib.Dec.{eqb}
use lib.ListN.{length}
use Rattle.std.proofs.Common.{rules, Err}
use Rattle.residue.specs.Large.{too_large}
use Rattle.answers.specs.declared.Refusal.TheVariants.{UnknownSet}
use Rattle.answers.specs.Replies.{Reply, reply}
use Rattle.residue.proofs.LargeLaws.{residues_through}
use Rattle.answers.proofs.Counting.{counted_one}
use Rattle.answers.proofs.Exits.{in_order_lem, clear, nowhere, unknown_set_lem, wrong_length_lem, right_lengths, too_large_at}
use Rattle.calls_transforms.specs.Tests.{Tells}
use Rattle.calls_transforms.specs.Transform.{list_reply}
use Rattle.calls_transforms.proofs.tests.test_list.Goals as goal

abbrev Refuses : Reply → Type 0
Refuses R = R.number ≡ 0 → ⊥

pub returns-in_err-s : goal.returns-in_err-s
unfolding Tells list_reply
returns-in_err-s c =
    let refused : c.from_residual.result ≡ Err UnknownSet = search rules in
    rw refused (unknown_set_lem Refuses c.args.set _ _ (sym c.set_of.ensures ∙ c.in_err-s.ensures.ok_part) (λ e. omega (arith, e)))

pub returns-then-not-room-s : goal.returns-then-not-room-s
unfolding Tells list_reply
returns-then-not-room-s c =
    let s = c.in_ok-s.s in
    let wrong : (eqb (length c.args.a.now) s.n && eqb c.args.room s.n) ≡ false = grind arith in
    wrong_length_lem Refuses c.args.set _ _ s (sym c.set_of.ensures ∙ c.in_ok-s.ensures.ok_part) wrong (λ e. omega (arith, e))

pub returns-in-Some : goal.returns-in-Some
unfolding Tells list_reply
returns-in-Some c =
    let s = c.in_ok-s.s in
    let fit : (eqb (length c.args.a.now) s.n && eqb c.args.room s.n) ≡ true = grind arith in
    right_lengths Refuses c.args.set _ _ s (sym c.set_of.ensures ∙ c.in_ok-s.ensures.ok_part) fit _
    (too_large_at Refuses (c.args.a.now ∷ []) (reply 0 0) _ (counted_one too_large c.args.a.now c.in-Some.ensures) (λ e. omega (arith, e)))

pub returns : goal.returns
unfolding Tells list_reply
returns c =
    let s = c.in_ok-s.s in
    let known = sym c.set_of.ensures ∙ c.in_ok-s.ensures.ok_part in
    let fit : (eqb (length c.args.a.now) s.n && eqb c.args.room s.n) ≡ true = grind arith in
    let none = nowhere too_large (c.args.a.now ∷ []) (counted_one too_large c.args.a.now c.in_default.ensures) in (
      in_order_lem c.args.set _ _ s known fit ∙ clear (c.args.a.now ∷ []) (reply 0 0) none,
      known,
      residues_through c.args.a.now [] c.if-not-room-s.false.0 none,
      c.if-not-room-s.false.1,
    )
