-- `product` keeps its promise at each exit; what passes the tests are two elements of the set, which the engine multiplies.
-- Assumes nothing.
use mathlib.Core.Bool.{false, ◌&&◌}
use mathlib.Core.Path.{◌≡◌, refl, sym, ◌∙◌}
use lib.Dec.{eqb}
use lib.ListN.{length}
use Rattle.std.proofs.Common.{rules, arith}
use Rattle.answers.specs.Replies.{leaves}
use Rattle.answers.proofs.Exits.{unknown_exit}
use Rattle.calls_product.specs.Product.{product_reply, Product}
use Rattle.calls_product.proofs.Exits.{wrong_length, counts, through_both, found, elements, done}
use Rattle.calls_product.proofs.product.Goals as goal

pub returns-in_err-s : goal.returns-in_err-s
unfolding Product product_reply leaves
returns-in_err-s c =
    unknown_exit _ c.args.set _ _ (search rules) c.set_of.ensures c.in_err-s.ensures.ok_part refl

pub returns-then-not-out-s : goal.returns-then-not-out-s
returns-then-not-out-s c =
    let s = c.in_ok-s.s in
    let wrong : (eqb (length c.args.a.now) s.n && (eqb (length c.args.b.now) s.n && eqb (length c.args.out.now) s.n)) ≡ false = grind arith in
    wrong_length c.args.set c.args.a.now c.args.b.now c.args.out.now s (sym c.set_of.ensures ∙ c.in_ok-s.ensures.ok_part) wrong

pub through-requires : goal.through-requires
through-requires c =
    counts c.args.set c.args.a.now c.args.b.now c.args.out.now _ (sym c.set_of.ensures ∙ c.in_ok-s.ensures.ok_part) c.if-not-out-s.false c.first_large-2.ensures

pub returns-in-Some : goal.returns-in-Some
returns-in-Some c =
    let long = c.if-not-out-s.false in
    found c.args.set c.args.a.now c.args.b.now c.args.out.now _ (sym c.set_of.ensures ∙ c.in_ok-s.ensures.ok_part) long _
    (through_both c.args.a.now c.args.b.now long.0 c.first_large.ensures c.first_large-2.ensures c.in-Some.ensures)

pub product-requires : goal.product-requires
product-requires c =
    let long = c.if-not-out-s.false in
    let t = elements c.args.set c.args.a.now c.args.b.now c.args.out.now _ (sym c.set_of.ensures ∙ c.in_ok-s.ensures.ok_part) long
    (through_both c.args.a.now c.args.b.now long.0 c.first_large.ensures c.first_large-2.ensures c.in_default.ensures) in
    -- each list by the one or the other fact, whichever the code lends
    (search (t.0, t.1), search (t.0, t.1), t.2)

pub returns : goal.returns
returns c =
    let long = c.if-not-out-s.false in
    done c.args.set c.args.a.now c.args.b.now c.args.out.now _ (sym c.set_of.ensures ∙ c.in_ok-s.ensures.ok_part) long
    (through_both c.args.a.now c.args.b.now long.0 c.first_large.ensures c.first_large-2.ensures c.in_default.ensures)
    _ c.product.ensures
