-- `text::value` meets its contract: the sum at each digit is what the digits before it spell.
-- Assumes nothing.
use mathlib.Core.List.{List, [], ◌∷◌, ◌++◌}
use denote.Ref.{Bor}
use Rattle.std.proofs.Common.{◌≡◌, ℕ, ◌<◌, refl, ap, ◌∙◌, subst, arith, map, rules, Iter}
use Rattle.std.proofs.lemmas.Grind.{common_steps}
use Rattle.std.proofs.lemmas.Fn.{serves_by, fold_over, slice_gives, fronts}
use Rattle.std.specs.Iterator.{Yields}
use Rattle.text.specs.Numerals.{spelled}
use Rattle.text.proofs.NumeralLaws.{spelled_push, before_digit}
use Rattle.text.proofs.value.Goals as goal

-- what came of a slice stood in front of what is left
came : (xs : List (Bor ℕ)) (s t : Iter ℕ) → Yields fronts s xs t → s.rest.now ≡ map (λ x. x.now) xs ++ t.rest.now
came [] s t y = ap (λ i. i.rest.now) y
came (x ∷ xs) s t y = y.1 ∙ ap (λ l. x.now ∷ l) (came xs y.0 t y.2)

pub fold-requires-clause-callable : goal.fold-requires-clause-callable
unfolding spelled
fold-requires-clause-callable c =
    serves_by _ (λ xs q. q.1 ≡ spelled 0 (map (λ x. x.now) xs))
    (λ xs q x v j r. let more = spelled_push (map (λ x. x.now) xs) 0 x.now in grind (arith, common_steps, r, j, more))
    fronts _ c.iter.result (tt, 0) refl
    (λ xs t q x u y e j.
    let whole : c.args.s.now ≡ map (λ x. x.now) xs ++ x.now ∷ u.rest.now = grind (arith, common_steps, came xs _ t y, e, c.iter.ensures.rest) in
    let told = before_digit (map (λ x. x.now) xs) x.now u.rest.now whole c.requires in
    let few : q.1 < 100000 = omega (arith, j, told.1) in
    let digit = told.0 in
    search rules)

pub returns : goal.returns
unfolding spelled
returns c =
    subst (λ l. c.fold.result ≡ spelled 0 l) c.iter.ensures.rest
    (fold_over fronts (λ y. y.now) _ (λ ys n. n ≡ spelled 0 ys) _ (λ ys a x b f' j k. let more = spelled_push ys 0 x.now in search rules)
    _ _ _ _ (slice_gives c.iter.result) refl c.fold.ensures.ran)
