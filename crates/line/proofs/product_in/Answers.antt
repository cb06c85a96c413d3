-- `product_in` keeps its promise at each of its exits, the tests before it passed.
-- Assumes nothing.
use mathlib.Core.Path.{◌≡◌, sym, ◌∙◌}
use Rattle.std.proofs.Common.{◌≤◌, length, rules, arith, Err}
use Rattle.std.proofs.lemmas.Bool.Decides.{nat_tests}
use Rattle.answers.specs.declared.Refusal.TheVariants.{UnknownSet, Malformed}
use Rattle.answers.proofs.SetLaws.{known_set}
use Rattle.line.specs.Chosen.{Chosen}
use Rattle.line.proofs.Exits.{room_for, part, long_input, bad_first, unknown_set, chosen, Second, Third, bad_second, second, bad_third, third, more, never, multiplied}
use Rattle.line.proofs.product_in.Goals as goal
use Rattle.line.proofs.product_in.Goals.{In_ok-s, After-past-third_line, After-past-more}

-- what the tests have told of an input that is not too long: once the set is known
choice : (c : In_ok-s) → length c.args.input.now ≤ 32768 → Chosen c.args.input.now c.in_ok-set.set c.in_ok-s.s.n
choice c short = chosen _ short c.set_in.ensures c.in_ok-set.ensures.ok_part c.set_of.ensures c.in_ok-s.ensures.ok_part

-- once the second line is read
one_read : (c : After-past-third_line) → Chosen c.args.input.now c.in_ok-set.set c.in_ok-s.s.n
    → Second c.args.input.now c.in_ok-set.set c.in_ok-s.s.n c.polynomial_in.new.list
one_read c known = second known c.past-second_line.ensures _ c.numbers-first.ensures _ c.polynomial_in.ensures c.if-not-polynomial_in.false

-- and once the third line is
both_read : (c : After-past-more) → Second c.args.input.now c.in_ok-set.set c.in_ok-s.s.n c.polynomial_in.new.list
    → Third c.args.input.now c.in_ok-set.set c.in_ok-s.s.n c.polynomial_in.new.list c.polynomial_in-2.new.list c.past-more.result.now
both_read c one =
    third one c.past-second_line.ensures c.past-third_line.ensures _ c.numbers-second.ensures _ c.polynomial_in-2.ensures c.if-not-polynomial_in-2.false c.past-more.ensures

pub returns-then-input-gt-LONGEST : goal.returns-then-input-gt-LONGEST
returns-then-input-gt-LONGEST c = long_input _ c.if-input-gt-LONGEST.true

pub returns-in_err-set : goal.returns-in_err-set
returns-in_err-set c =
    let refused : c.from_residual.result ≡ Err (Malformed 1) = search rules in
    rw refused (bad_first _ c.if-input-gt-LONGEST.false c.set_in.ensures c.in_err-set.ensures.ok_part)

pub returns-in_err-s : goal.returns-in_err-s
returns-in_err-s c =
    let refused : c.from_residual-in_err-s.result ≡ Err UnknownSet = search rules in
    rw refused (unknown_set _ c.if-input-gt-LONGEST.false c.set_in.ensures c.in_ok-set.ensures.ok_part c.set_of.ensures c.in_err-s.ensures.ok_part)

pub slice_bounds-first-end : goal.slice_bounds-first-end
slice_bounds-first-end c = search (rules, room_for)

pub slice_bounds-a-end : goal.slice_bounds-a-end
slice_bounds-a-end c = search (rules, part)

pub slice_bounds-second-end : goal.slice_bounds-second-end
slice_bounds-second-end c = search (rules, room_for)

pub slice_bounds-b-end : goal.slice_bounds-b-end
slice_bounds-b-end c = search (rules, part)

pub returns-then-not-polynomial_in : goal.returns-then-not-polynomial_in
returns-then-not-polynomial_in c =
    let here = goal.at.returns-then-not-polynomial_in c in
    bad_second (choice here.In_ok-s c.if-input-gt-LONGEST.false) c.past-second_line.ensures _ c.numbers-first.ensures _ c.polynomial_in.ensures c.if-not-polynomial_in.true

pub returns-then-not-polynomial_in-2 : goal.returns-then-not-polynomial_in-2
returns-then-not-polynomial_in-2 c =
    let here = goal.at.returns-then-not-polynomial_in-2 c in
    bad_third (one_read here.After-past-third_line (choice here.In_ok-s c.if-input-gt-LONGEST.false))
    c.past-second_line.ensures c.past-third_line.ensures _ c.numbers-second.ensures _ c.polynomial_in-2.ensures c.if-not-polynomial_in-2.true

pub returns-then-not-is_empty : goal.returns-then-not-is_empty
returns-then-not-is_empty c =
    let here = goal.at.returns-then-not-is_empty c in
    more (both_read here.After-past-more (one_read here.After-past-third_line (choice here.In_ok-s c.if-input-gt-LONGEST.false))) (grind (arith, nat_tests))

pub slice_bounds-product-end : goal.slice_bounds-product-end
slice_bounds-product-end c = (known_set _ _ (sym c.set_of.ensures ∙ c.in_ok-s.ensures.ok_part)).small

pub returns-in_err-product : goal.returns-in_err-product
returns-in_err-product c =
    let here = goal.at.returns-in_err-product c in
    absurd (never (both_read here.After-past-more (one_read here.After-past-third_line (choice here.In_ok-s c.if-input-gt-LONGEST.false)))
    (grind (arith, nat_tests)) c.args.list.now c.told-list _ _ c.product.ensures _ c.in_err-product.was)

pub returns : goal.returns
returns c =
    let here = goal.at.returns c in
    multiplied (both_read here.After-past-more (one_read here.After-past-third_line (choice here.In_ok-s c.if-input-gt-LONGEST.false)))
    (grind (arith, nat_tests)) c.args.list.now c.told-list _ _ c.product.ensures _
