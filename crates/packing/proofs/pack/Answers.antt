-- `packing::pack` meets its contract: at pair k the list is read up to 2 k, and the first 3 k bytes are those of the packed form.
-- Assumes nothing.
use Rattle.std.proofs.Common.{◌≡◌, ◌+◌, ◌*◌, ◌/◌, ◌<◌, ◌++◌, length, get_or, drop, refl, sym, ap, ◌∙◌, arith}
use Rattle.std.proofs.lemmas.List.{length-append, length-drop}
use Rattle.lists.proofs.Fill.{fill_turn, fill_as, fill_list}
use Rattle.lists.proofs.Parts.{part_at, part_rest}
use Rattle.packing.specs.Packing.{three_bytes, packed}
use Rattle.packing.proofs.PackingLaws.{length_packed, packed_at, nth}
use Rattle.packing.proofs.pack.Goals as goal

pub loop-k-preserved : goal.loop-k-preserved
unfolding three_bytes
loop-k-preserved c =
    let k = c.in-Some.k in
    let list = c.args.list.now in
    let pair = c.in-Some.pair.now in
    let rest = c.next.new.self.iter.rest.now in
    let step = c.in-Some.ensures.steps in
    let is_k : c.loop-k.k-iterator.count ≡ k = sym step.1 in
    let e : drop (2 * k) list ≡ pair ++ rest = ap (λ i. drop (2 * i) list) (sym is_k) ∙ c.loop-k.invariant.rest ∙ step.0.1.0 in
    let two : length pair ≡ 2 = step.0.1.1 ∙ c.loop-k.invariant.size in
    let a : get_or pair 0 0 ≡ get_or list (2 * k) 0 = part_at (2 * k) list pair rest e 0 _ (omega (arith, two)) (omega arith) in
    let b : get_or pair 1 0 ≡ get_or list (2 * k + 1) 0 = part_at (2 * k) list pair rest e 1 _ (omega (arith, two)) refl in
    let room : k < length list / 2 = omega (arith, ap length e, length-append pair rest, length-drop (2 * k) list) in
    let bytes = packed_at list k room in
    let begun = fill_as c.loop-k.invariant.filled (3 * k) (omega (arith, is_k)) in
    record {
      size = step.0.0 ∙ c.loop-k.invariant.size;
      rest = part_rest (2 * k) list pair rest e _ (omega (arith, two));
      filled =
          fill_as (fill_turn (fill_as (fill_turn (fill_turn begun _ (omega arith) (omega (arith, nth bytes 0))) _ (omega arith) (omega (arith, nth bytes 1)))
          (3 * k + 2) (omega arith)) _ (omega arith) (omega (arith, nth bytes 2))) _ (omega arith);
    }

pub returns : goal.returns
returns c =
    let v = c.args.list.now in
    let read = c.loop-k.invariant in
    let few : length c.loop-k.k-iterator.iter.rest.now < c.loop-k.k-iterator.iter.size = c.in-None.ensures.steps.0.1.0 in
    fill_list (packed v) read.filled (omega (arith, few, ap length read.rest, length-drop (2 * c.loop-k.k-iterator.count) v)) (omega (arith, length_packed v))
