-- `reverse` keeps its promise: a refusal of the tests is handed on, and what passes them is transformed back with the set's root.
-- Assumes nothing.
use mathlib.Core.Path.{◌≡◌, ◌∙◌}
use Rattle.std.proofs.Common.{rules, Err}
use Rattle.algebra.specs.Transform.{reverse}
use Rattle.answers.proofs.SetLaws.{IsSet}
use Rattle.calls_transforms.specs.Reverse.{reverse_of, Reverse}
use Rattle.calls_transforms.proofs.Tested.{kept, is_set, ready, done}
use Rattle.calls_transforms.proofs.reverse.reverse.Goals as goal

pub returns-in_err-s : goal.returns-in_err-s
unfolding Reverse
returns-in_err-s c =
    let refused : c.from_residual.result ≡ Err c.in_err-s.field-0.0 = search rules in
    rw refused (kept c.args.set c.args.a.now c.args.out.now (reverse_of c.args.set c.args.a.now) _ c.in_err-s.ensures)

pub new-engine-requires : goal.new-engine-requires
new-engine-requires c = (is_set c.args.set c.args.a.now c.args.out.now c.in_ok-s.s c.in_ok-s.ensures).turns

pub reverse-requires : goal.reverse-requires
reverse-requires c =
    ready c.args.set c.args.a.now c.args.out.now c.in_ok-s.s c.in_ok-s.ensures c.new-engine.ensures.0

pub returns : goal.returns
unfolding Reverse reverse_of
returns c =
    let is : IsSet c.args.set c.in_ok-s.s = is_set c.args.set c.args.a.now c.args.out.now _ c.in_ok-s.ensures in
    done c.args.set c.args.a.now c.args.out.now _ c.in_ok-s.ensures (λ p. reverse p.half p.root c.args.a.now) _
    (c.reverse.ensures ∙ rw (c.new-engine.ensures.0, c.new-engine.ensures.1, is.root))
