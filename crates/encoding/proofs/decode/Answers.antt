-- `encoding::decode` meets its contract: the bits of the two halves, the message bits, then the reverse of the listing.
-- Assumes nothing.
use mathlib.Core.Path.{◌≡◌, sym, ap, ◌∙◌, subst}
use mathlib.Core.List.{List}
use Prim.Native.Nat.{ℕ, ◌%◌, ◌<◌}
use native.Mathlib.Omega.{arith}
use lib.ListN.{length}
use Rattle.lists.specs.Tab.{tab}
use Rattle.lists.specs.Below.{Below}
use Rattle.lists.proofs.TabLaws.{length_tab}
use Rattle.lists.proofs.BelowLaws.{below_tab}
use Rattle.small.proofs.Halves.{halves_long, halves_low}
use Rattle.encoding.proofs.XorLaws.{decode_bit_lt}
use Rattle.encoding.proofs.Steps.{decoded_is}
use Rattle.encoding.proofs.decode.Goals as goal

-- a table of bits
table_low : (bits : List ℕ) (n : ℕ) (f : ℕ → ℕ) → bits ≡ tab n f → ((i : ℕ) → f i < 2) → Below 2 bits
table_low bits n f e h = subst (Below 2) (sym e) (below_tab (omega arith) n f h)

pub decode_bits-requires : goal.decode_bits-requires
decode_bits-requires c =
    let block = c.args.block.now in
    let words : length block % 8 ≡ 0 = omega (arith, c.requires.message_len) in (
      omega (arith, c.requires),
      halves_long block words _ c.list_halves.ensures ∙ omega (arith, c.requires),
      c.requires.message_len.3,
      halves_low block words _ c.list_halves.ensures,
    )

pub unlist-requires : goal.unlist-requires
unlist-requires c =
    let long = ap length c.decode_bits.ensures ∙ length_tab (length c.args.bits.now) _ in
    (omega (arith, long, c.requires), omega (arith, long, c.requires), table_low _ _ _ c.decode_bits.ensures (λ i. decode_bit_lt _ _ _))

pub returns : goal.returns
returns c =
    let n = length c.args.bits.now in
    c.unlist.ensures
    ∙ decoded_is c.args.block.now (omega (arith, c.requires.message_len)) c.list_halves.new.halves c.list_halves.ensures
    c.args.marks.now c.decode_bits.new.bits n (omega (arith, c.requires)) (omega (arith, c.requires)) c.decode_bits.ensures
