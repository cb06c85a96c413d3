-- `open_3_in` owes 3 at the first group above 3456, 6 where the images differ, and otherwise the key.
-- Assumes nothing.
use mathlib.Core.Bool.{true, false}
use mathlib.Core.List.{List, [], ◌∷◌}
use mathlib.Core.Path.{refl, sym, ap₂, ◌∙◌}
use Prim.Native.Nat.{ℕ}
use Rattle.std.proofs.Common.{Ok, Err}
use Rattle.lists.specs.Every.{equal}
use Rattle.residue.specs.Large.{too_large}
use Rattle.packing.specs.Packing.{groups}
use Rattle.answers.specs.declared.Refusal.TheVariants.{Differs}
use Rattle.answers.specs.Replies.{leaves}
use Rattle.answers.proofs.Counting.{counted_one}
use Rattle.answers.proofs.Exits.{done, too_large_at}
use Rattle.calls_open_3.proofs.OpenThrees.{Holds, told}
use Rattle.calls_open_3.proofs.open_3_in.Goals as goal

pub returns-in-Some : goal.returns-in-Some
unfolding leaves
returns-in-Some c =
    let lent : List ℕ = groups c.args.image.now in
    let before : List ℕ = c.args.key.now in
    too_large_at (Holds c.args.image.now c.args.hblock.now before before) (lent ∷ []) _ _ (counted_one too_large lent c.in-Some.ensures.value) refl

pub returns-then-not-same : goal.returns-then-not-same
unfolding leaves
returns-then-not-same c =
    told c.args.image.now c.args.hblock.now c.args.key.now c.args.key.now _ _ false c.in_default.ensures.value
    (sym c.if-not-same.true ∙ c.same.ensures ∙ ap₂ equal c.unpack.ensures.list_after c.r_image.ensures) (Err Differs)
    (record { number = refl; place = refl; content = refl })

pub returns : goal.returns
unfolding leaves
returns c =
    told c.args.image.now c.args.hblock.now c.args.key.now _ _ _ true c.in_default.ensures.value
    (sym c.if-not-same.false ∙ c.same.ensures ∙ ap₂ equal c.unpack.ensures.list_after c.r_image.ensures) (Ok tt)
    (done _ c.copy_key.ensures)
