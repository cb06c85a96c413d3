-- The cutting of n bits into blocks, once over the length of a block: the first block, whole words, n bits in all.
-- Assumes nothing.
use mathlib.Core.Path.{◌≡◌, refl, sym, ap, ◌∙◌}
use mathlib.Core.List.{List, [], ◌∷◌, ◌++◌}
use Prim.Native.Nat.{ℕ, zero, suc, ◌+◌, ◌-◌, ◌*◌, ◌/◌, ◌%◌, ◌<◌, ◌≤◌}
use native.Mathlib.Nat.{div-eq_of_lt, mod-eq_of_lt, div-eq-sub-div, mod-eq-sub-mod, div-add-mod', suc-mul}
use native.Mathlib.Numerals.{add-one}
use native.Mathlib.Omega.{arith}
use lib.ListN.{replicate}
use Rattle.bits.specs.Blocks.{cut, block_lengths, blocks}

-- ---- the first block

-- one of the first length, where the bits hold one
cut_here : (B : ℕ) (Bs : List ℕ) (n : ℕ) → 0 < B → B ≤ n → cut (B ∷ Bs) n ≡ B ∷ cut (B ∷ Bs) (n - B)
unfolding cut
cut_here B Bs n s h = rw (div-eq-sub-div s h ∙ add-one _, mod-eq-sub-mod h)

-- and none where they don't
cut_past : (B : ℕ) (Bs : List ℕ) (n : ℕ) → n < B → cut (B ∷ Bs) n ≡ cut Bs n
unfolding cut
cut_past B Bs n h = rw (div-eq_of_lt h, mod-eq_of_lt h)

-- n bits hold no block of these lengths
unfoldable pub Short : ℕ → List ℕ → Type 0
Short n [] = Unit {0}
Short n (A ∷ As) = (n < A) × Short n As

-- so the first block is of the first length that they hold
pub cut_first : (longer : List ℕ) (B : ℕ) (Bs : List ℕ) (n : ℕ) → Short n longer → 0 < B → B ≤ n
    → cut (longer ++ B ∷ Bs) n ≡ B ∷ cut (longer ++ B ∷ Bs) (n - B)
unfolding Short
cut_first [] B Bs n s g h = cut_here B Bs n g h
cut_first (A ∷ longer) B Bs n s g h =
    cut_past A (longer ++ B ∷ Bs) n s.0 ∙ cut_first longer B Bs n s.1 g h
    ∙ ap (λ Cs. B ∷ Cs) (sym (cut_past A (longer ++ B ∷ Bs) (n - B) (omega (arith, s.0))))

-- it is one of whole words, and leaves the blocks of the bits after it
pub first_fits : (longer : List ℕ) (B : ℕ) (Bs : List ℕ) (n : ℕ) → Short n longer → B ≤ n → 0 < B → B % 32 ≡ 0
    → (cut (longer ++ B ∷ Bs) n ≡ B ∷ cut (longer ++ B ∷ Bs) (n - B)) × (0 < B) × (B ≤ n) × (B % 32 ≡ 0)
first_fits longer B Bs n s h g w = (cut_first longer B Bs n s g h, g, h, w)

-- no bits, no blocks
pub blocks_none : blocks 0 ≡ []
unfolding blocks block_lengths cut
blocks_none = refl

-- the two sets
pub blocks_576 : blocks 576 ≡ 256 ∷ 256 ∷ 64 ∷ []
unfolding blocks block_lengths cut
blocks_576 = refl

pub blocks_1152 : blocks 1152 ≡ 256 ∷ 256 ∷ 256 ∷ 256 ∷ 128 ∷ []
unfolding blocks block_lengths cut
blocks_1152 = refl

-- ---- all blocks

-- each is whole words
unfoldable pub Words : List ℕ → Type 0
Words [] = Unit {0}
Words (B ∷ Bs) = (B % 32 ≡ 0) × Words Bs

-- f of each, added up
unfoldable pub total : (ℕ → ℕ) → List ℕ → ℕ
total f [] = 0
total f (B ∷ Bs) = f B + total f Bs

-- k blocks of B bits, and then others
words_some : (k B : ℕ) (Bs : List ℕ) → B % 32 ≡ 0 → Words Bs → Words (replicate k B ++ Bs)
unfolding Words
words_some zero B Bs w h = h
words_some (suc k) B Bs w h = (w, words_some k B Bs w h)

-- so a cutting into lengths that are whole words is whole words
words_cut : (Bs : List ℕ) (n : ℕ) → Words Bs → Words (cut Bs n)
unfolding Words cut
words_cut [] n w = tt
words_cut (B ∷ Bs) n w = words_some (n / B) B (cut Bs (n % B)) w.0 (words_cut Bs (n % B) w.1)

pub blocks_words : (n : ℕ) → Words (blocks n)
unfolding blocks block_lengths Words
blocks_words n = words_cut block_lengths n (refl, (refl, (refl, (refl, tt))))

-- k blocks of B bits are k B bits
total_some : (k B : ℕ) (Bs : List ℕ) → total (λ B. B) (replicate k B ++ Bs) ≡ k * B + total (λ B. B) Bs
unfolding total
total_some zero B Bs = omega arith
total_some (suc k) B Bs = omega (arith, total_some k B Bs, suc-mul k B)

-- the bits that a cutting leaves over
unfoldable left : List ℕ → ℕ → ℕ
left [] n = n
left (B ∷ Bs) n = left Bs (n % B)

-- with those over, the blocks are n bits
total_cut : (Bs : List ℕ) (n : ℕ) → total (λ B. B) (cut Bs n) + left Bs n ≡ n
unfolding cut left total
total_cut [] n = omega arith
total_cut (B ∷ Bs) n = omega (arith, total_some (n / B) B (cut Bs (n % B)), total_cut Bs (n % B), div-add-mod' n B)

-- the blocks of n bits are n bits
pub blocks_total : (n : ℕ) → n % 32 ≡ 0 → total (λ B. B) (blocks n) ≡ n
unfolding blocks block_lengths left
blocks_total n w = let e : n % 256 % 128 % 64 % 32 ≡ 0 = omega arith in omega (arith, total_cut block_lengths n)

-- and n/8 bytes
pub total_bytes : (Bs : List ℕ) → Words Bs → 8 * total (λ B. B / 8) Bs ≡ total (λ B. B) Bs
unfolding Words total
total_bytes [] w = refl
total_bytes (B ∷ Bs) w = omega (arith, w.0, total_bytes Bs w.1)
