-- `packing::unpack_pairs` meets its contract: at group k of three bytes they are read up to 3 k, and the first 2 k numbers are those of the groups.
-- Assumes nothing.
use Rattle.std.proofs.Common.{◌≡◌, ◌+◌, ◌*◌, ◌/◌, ◌<◌, ◌++◌, length, get_or, drop, refl, sym, ap, ◌∙◌, arith}
use Rattle.std.proofs.lemmas.List.{length-append, length-drop}
use Rattle.lists.proofs.Fill.{fill_turn, fill_as, fill_list}
use Rattle.lists.proofs.Parts.{part_at, part_rest}
use Rattle.packing.specs.Packing.{two_groups, groups}
use Rattle.packing.proofs.PackingLaws.{length_groups, groups_at, nth}
use Rattle.packing.proofs.unpack_pairs.Goals as goal

pub loop-k-preserved : goal.loop-k-preserved
unfolding two_groups
loop-k-preserved c =
    let k = c.in-Some.k in
    let bytes = c.args.bytes.now in
    let three = c.in-Some.three.now in
    let rest = c.next.new.self.iter.rest.now in
    let step = c.in-Some.ensures.steps in
    let is_k : c.loop-k.k-iterator.count ≡ k = sym step.1 in
    let e : drop (3 * k) bytes ≡ three ++ rest = ap (λ i. drop (3 * i) bytes) (sym is_k) ∙ c.loop-k.invariant.rest ∙ step.0.1.0 in
    let long : length three ≡ 3 = step.0.1.1 ∙ c.loop-k.invariant.size in
    let x : get_or three 0 0 ≡ get_or bytes (3 * k) 0 = part_at (3 * k) bytes three rest e 0 _ (omega (arith, long)) (omega arith) in
    let y : get_or three 1 0 ≡ get_or bytes (3 * k + 1) 0 = part_at (3 * k) bytes three rest e 1 _ (omega (arith, long)) refl in
    let z : get_or three 2 0 ≡ get_or bytes (3 * k + 2) 0 = part_at (3 * k) bytes three rest e 2 _ (omega (arith, long)) refl in
    let room : k < length bytes / 3 = omega (arith, ap length e, length-append three rest, length-drop (3 * k) bytes) in
    let list = groups_at bytes k room in
    let begun = fill_as c.loop-k.invariant.filled (2 * k) (omega (arith, is_k)) in
    record {
      size = step.0.0 ∙ c.loop-k.invariant.size;
      rest = part_rest (3 * k) bytes three rest e _ (omega (arith, long));
      filled = fill_as (fill_turn (fill_turn begun _ (omega arith) (omega (arith, nth list 0))) _ (omega arith) (omega (arith, nth list 1))) _ (omega arith);
    }

pub returns : goal.returns
returns c =
    let bytes = c.args.bytes.now in
    let read = c.loop-k.invariant in
    let few : length c.loop-k.k-iterator.iter.rest.now < c.loop-k.k-iterator.iter.size = c.in-None.ensures.steps.0.1.0 in
    fill_list (groups bytes) read.filled (omega (arith, few, ap length read.rest, length-drop (3 * c.loop-k.k-iterator.count) bytes))
    (omega (arith, length_groups bytes))
