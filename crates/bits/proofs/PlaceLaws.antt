-- Document 01's sentence on the place of each bit, for any block of any cutting: by dropping the blocks before it.
-- Assumes nothing.
use mathlib.Core.Path.{◌≡◌, refl, sym, ap, ◌∙◌, subst}
use mathlib.Core.List.{List, [], ◌∷◌, ◌++◌}
use Prim.Native.Nat.{ℕ, ◌+◌, ◌*◌, ◌/◌, ◌%◌, ◌<◌}
use native.Mathlib.Omega.{arith}
use lib.ListN.{length, get_or, take, drop, get_or-append}
use lib.Seq.{get_or-append-add, get_or-take, get_or-drop}
use Rattle.lists.specs.Below.{Below}
use Rattle.lists.proofs.BelowLaws.{below_take, below_drop}
use Rattle.bits.specs.Bits.{bit, word, bit_of}
use Rattle.bits.specs.Blocks.{blocks, blockwise}
use Rattle.bits.specs.Listing.{place, goes_to, listed_block, listed}
use Rattle.bits.proofs.Digits.{bit_of_byte}
use Rattle.bits.proofs.Blocks.{Words, total, blocks_words}
use Rattle.bits.proofs.BlockLaws.{length_listed_block, listed_block_at}
use Rattle.bits.proofs.Places.{goes_to_lt}

-- the bit at which the block after these starts
abbrev pub start : List ℕ → ℕ
start Bs = total (λ B. B) Bs

-- the listing by any blocks
abbrev listed_by : List ℕ → List ℕ → List ℕ
listed_by Bs bs = blockwise listed_block (λ B. B / 8) Bs bs

-- without the first a bytes, bit t is bit 8a + t
bit_of_drop : (a : ℕ) (bs : List ℕ) → Below 256 bs → (t : ℕ) → bit_of (drop a bs) t ≡ bit_of bs (8 * a + t)
bit_of_drop a bs bytes t =
    let e : a + t / 8 ≡ (8 * a + t) / 8 = omega arith in
    let f : t % 8 ≡ (8 * a + t) % 8 = omega arith in
    bit_of_byte (drop a bs) (below_drop a bs bytes) t ∙ ap (λ x. bit x (t % 8)) (get_or-drop a bs (t / 8) 0)
    ∙ ap (λ i. bit (get_or bs i 0) (t % 8)) e ∙ ap (bit (get_or bs ((8 * a + t) / 8) 0)) f ∙ sym (bit_of_byte bs bytes (8 * a + t))

-- the first bytes have the first bits
bit_of_take : (a : ℕ) (bs : List ℕ) → Below 256 bs → (t : ℕ) → t < 8 * a → bit_of (take a bs) t ≡ bit_of bs t
bit_of_take a bs bytes t h =
    bit_of_byte (take a bs) (below_take a bs bytes) t ∙ ap (λ x. bit x (t % 8)) (get_or-take a bs (t / 8) 0 (omega arith))
    ∙ sym (bit_of_byte bs bytes t)

-- bit t of the block B after the blocks `before` goes to its place in the block, counted from where the block starts
listed_by_at : (before : List ℕ) (B : ℕ) (after : List ℕ) → Words (before ++ B ∷ after) → (bs : List ℕ) → Below 256 bs → (t : ℕ) → t < B
    → get_or (listed_by (before ++ B ∷ after) bs) (start before + goes_to B t) 0 ≡ bit_of bs (start before + t)
unfolding blockwise Words total
listed_by_at [] B after w bs bytes t h =
    let k : goes_to B t < length (listed_block B (take (B / 8) bs)) = rw (length_listed_block B (take (B / 8) bs)) (goes_to_lt B w.0 t h) in
    let z : 0 + goes_to B t ≡ goes_to B t = omega arith in
    let y : t ≡ 0 + t = omega arith in
    ap (λ p. get_or (listed_block B (take (B / 8) bs) ++ listed_by after (drop (B / 8) bs)) p 0) z
    ∙ get_or-append (listed_block B (take (B / 8) bs)) (listed_by after (drop (B / 8) bs)) 0 (goes_to B t) k
    ∙ listed_block_at B w.0 (take (B / 8) bs) t h ∙ bit_of_take (B / 8) bs bytes t (omega (arith, w.0)) ∙ ap (bit_of bs) y
listed_by_at (A ∷ before) B after w bs bytes t h =
    let e : A + start before + goes_to B t ≡ length (listed_block A (take (A / 8) bs)) + (start before + goes_to B t) = omega (arith, length_listed_block A (take (A / 8) bs)) in
    let f : 8 * (A / 8) + (start before + t) ≡ A + start before + t = omega (arith, w.0) in
    ap (λ p. get_or (listed_block A (take (A / 8) bs) ++ listed_by (before ++ B ∷ after) (drop (A / 8) bs)) p 0) e
    ∙ get_or-append-add (listed_block A (take (A / 8) bs)) (listed_by (before ++ B ∷ after) (drop (A / 8) bs)) (start before + goes_to B t) 0
    ∙ listed_by_at before B after w.1 (drop (A / 8) bs) (below_drop (A / 8) bs bytes) t h
    ∙ bit_of_drop (A / 8) bs bytes (start before + t) ∙ ap (bit_of bs) f

-- where a block starts, words start
start_words : (before : List ℕ) (B : ℕ) (after : List ℕ) → Words (before ++ B ∷ after) → start before % 32 ≡ 0
unfolding Words total
start_words [] B after w = refl
start_words (A ∷ before) B after w = omega (arith, w.0, start_words before B after w.1)

-- the place in a block, counted from its start and from the run's
place_from : (s B j k l : ℕ) → k < 2 → l < 16 → place s B j k l ≡ s + goes_to B (32 * j + (16 * k + l))
unfolding place goes_to
place_from s B j k l hk hl =
    let a : (32 * j + (16 * k + l)) / 32 ≡ j = omega arith in
    let b : (32 * j + (16 * k + l)) / 16 % 2 ≡ k = omega arith in
    let c : (32 * j + (16 * k + l)) % 16 ≡ l = omega arith in
    plain (B / 16 * l) ∙ sym (rw (a, b, c))
  where
    plain : (x : ℕ) → s + x + 2 * j + k ≡ s + (0 + x + 2 * j + k)
    plain x = omega arith

-- a block of the cutting, with the blocks before and after it
module _ (bs : List ℕ) (bytes : Below 256 bs) (before : List ℕ) (B : ℕ) (after : List ℕ) (is : blocks (8 * length bs) ≡ before ++ B ∷ after) where
  -- it is whole words
  words : Words (before ++ B ∷ after)
  words = subst Words is (blocks_words (8 * length bs))

  -- bit t of the block goes to its place in the block
  pub listed_at : (t : ℕ) → t < B → get_or (listed bs) (start before + goes_to B t) 0 ≡ bit_of bs (start before + t)
  unfolding listed
  listed_at t h = ap (λ Bs. get_or (listed_by Bs bs) (start before + goes_to B t) 0) is ∙ listed_by_at before B after words bs bytes t h

  -- "In a block of B bits that starts at bit s, .. bit 16k + l of word j goes to place s + (B/16)l + 2j + k."
  pub listed_place : (j k l : ℕ) → k < 2 → l < 16 → 32 * j + (16 * k + l) < B
      → get_or (listed bs) (place (start before) B j k l) 0 ≡ bit (word bs (start before / 32 + j)) (16 * k + l)
  unfolding bit_of
  listed_place j k l hk hl h =
      let s = start before in
      let t = 32 * j + (16 * k + l) in
      let e : (s + t) / 32 ≡ s / 32 + j = omega (arith, start_words before B after words) in
      let f : (s + t) % 32 ≡ 16 * k + l = omega (arith, start_words before B after words) in
      ap (λ p. get_or (listed bs) p 0) (place_from s B j k l hk hl) ∙ listed_at t h
      ∙ ap (λ i. bit (word bs i) ((s + t) % 32)) e ∙ ap (bit (word bs (s / 32 + j))) f
