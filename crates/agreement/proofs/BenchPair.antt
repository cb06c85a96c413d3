-- The bench pair: its f' is 0 and its g' is 1, by the listings of its quarters, which antt computes. So it is a pair that make takes,
-- and every sealing with it is in range. Assumes nothing.
use mathlib.Core.Bool.{cond}
use mathlib.Core.List.{List}
use mathlib.Core.Path.{◌≡◌, refl, ap, ap₂, ◌∙◌}
use Prim.Native.Nat.{ℕ, ◌*◌}
use lib.Dec.{eqb, lit<}
use lib.IntN.{ℤ, pos, ◌-ℤ◌, +ℤ_idr}
use lib.ListN.{length, get_or}
use Rattle.lists.specs.Tab.{tab}
use Rattle.bits.specs.Bits.{bit, little_endian, word, bit_of}
use Rattle.bits.specs.Blocks.{cut, block_lengths, blocks, blockwise}
use Rattle.bits.specs.Listing.{comes_from, listed_block, listed}
use Rattle.marks.specs.Marks.{Smalls}
use Rattle.small.specs.Sampling.{first_half, second_half, first_bit, second_bit, sampled}
use Rattle.stages.specs.Making.{small_f, small_g}
use Rattle.lists.proofs.TabLaws.{get_or_tab, tab_cong, map_cond}
use Rattle.agreement.specs.Opened.{opened, InRange, Pair}
use Rattle.agreement.specs.BenchPair.{bench_seed}
use Rattle.agreement.proofs.Units.{zero_of, one_of}
use Rattle.agreement.proofs.UnitPair.{unit_pair, unit_near}

-- ---- the quarters of the seed block, and their listings

-- 72 bytes 0; and 72 bytes of which the first is 1
zeros : List ℕ
zeros = tab 72 (λ _. 0)

first : List ℕ
first = tab 72 (λ i. cond (eqb i 0) 1 0)

-- their bits: all 0; and the first 1
listed_zeros : listed zeros ≡ tab 576 (λ _. 0)
unfolding zeros listed blocks cut block_lengths blockwise listed_block comes_from bit_of word little_endian bit tab
listed_zeros = refl

listed_first : listed first ≡ tab 576 (λ i. cond (eqb i 0) 1 0)
unfolding first listed blocks cut block_lengths blockwise listed_block comes_from bit_of word little_endian bit tab
listed_first = refl

-- the third quarter of the seed block is the one with the 1
quarters : (first_half (first_half bench_seed) ≡ zeros) × (second_half (first_half bench_seed) ≡ zeros)
    × (first_half (second_half bench_seed) ≡ first) × (second_half (second_half bench_seed) ≡ zeros)
unfolding zeros first first_half second_half bench_seed tab
quarters = (refl, refl, refl, refl)

-- each half gives 576 coefficients
halves_long : (4 * length (first_half bench_seed) ≡ 576) × (4 * length (second_half bench_seed) ≡ 576)
unfolding first_half second_half bench_seed tab
halves_long = (refl, refl)

-- ---- the pair

-- bits v of the first half, and none of the second, are the coefficients v
sampled_by : (n : ℕ) (v : ℕ → ℕ) (block : List ℕ) → 4 * length block ≡ n → listed (first_half block) ≡ tab n v
    → listed (second_half block) ≡ tab n (λ _. 0) → sampled block ≡ tab n (λ i. pos (v i))
unfolding sampled first_bit second_bit
sampled_by n v block long bits none =
    ap (λ k. tab k (λ i. pos (first_bit block i) -ℤ pos (second_bit block i))) long
    ∙ tab_cong n (λ i l. ap₂ (λ x y. pos x -ℤ pos y)
    (ap (λ b. get_or b i 0) bits ∙ get_or_tab n v i 0 l) (ap (λ b. get_or b i 0) none ∙ get_or_tab n (λ _. 0) i 0 l)
    ∙ +ℤ_idr (pos (v i)))

-- f' = 0
pub bench_f : small_f bench_seed ≡ zero_of 576
unfolding small_f zero_of
bench_f =
    sampled_by 576 (λ _. 0) (first_half bench_seed) halves_long.0
    (ap listed quarters.0 ∙ listed_zeros) (ap listed quarters.1 ∙ listed_zeros)

-- g' = 1
pub bench_g : small_g bench_seed ≡ one_of 576
unfolding small_g one_of
bench_g =
    sampled_by 576 (λ i. cond (eqb i 0) 1 0) (second_half bench_seed) halves_long.1
    (ap listed quarters.2 ∙ listed_first) (ap listed quarters.3 ∙ listed_zeros)
    ∙ tab_cong 576 (λ i _. map_cond pos (eqb i 0) 1 0)

-- make takes it
pub bench_pair : Pair 288 49 (small_f bench_seed) (small_g bench_seed)
bench_pair = rw (bench_f, bench_g) (unit_pair 288 49 (lit< tt))

-- and every small r and m may be sealed with it
pub bench_near : (r m : List ℤ) → length r ≡ 576 → Smalls r → Smalls m → InRange (opened 288 (small_f bench_seed) (small_g bench_seed) r m)
bench_near r m lr sr sm = rw (bench_f, bench_g) (unit_near 288 (lit< tt) r m lr sr sm)
