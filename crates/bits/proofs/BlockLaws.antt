-- One block, once over B: the listing and its reverse undo each other.
-- Assumes nothing.
use mathlib.Core.Path.{◌≡◌, sym, ap, ◌∙◌}
use mathlib.Core.List.{List}
use Prim.Native.Nat.{ℕ, ◌+◌, ◌*◌, ◌/◌, ◌%◌, ◌<◌}
use native.Mathlib.Nat.{add-mul}
use native.Mathlib.Omega.{arith}
use lib.ListN.{length, get_or}
use Rattle.lists.specs.Tab.{tab}
use Rattle.lists.specs.Below.{Below}
use Rattle.lists.proofs.TabLaws.{length_tab, get_or_tab, tab_of, tab_cong}
use Rattle.lists.proofs.BelowLaws.{below_tab}
use Rattle.bits.specs.Bits.{bit, number, bit_of}
use Rattle.bits.specs.Listing.{goes_to, comes_from, listed_block, unlisted_block}
use Rattle.bits.proofs.Digits.{bit_lt, number_cong, number_lt, bit_number, number_bit, bit_of_byte}
use Rattle.bits.proofs.Places.{goes_to_row, comes_from_row, goes_to_lt, comes_from_lt, comes_from_goes_to, goes_to_comes_from}

-- B bits, and B/8 bytes
pub length_listed_block : (B : ℕ) (bs : List ℕ) → length (listed_block B bs) ≡ B
unfolding listed_block
length_listed_block B bs = length_tab B _

pub length_unlisted_block : (B : ℕ) (v : List ℕ) → length (unlisted_block B v) ≡ B / 8
unfolding unlisted_block
length_unlisted_block B v = length_tab (B / 8) _

-- bits, and bytes from bits
pub below_listed_block : (B : ℕ) (bs : List ℕ) → Below 2 (listed_block B bs)
unfolding listed_block bit_of
below_listed_block B bs = below_tab (omega arith) B _ (λ p. bit_lt _ _)

below_unlisted_block : (B : ℕ) (v : List ℕ) → Below 2 v → Below 256 (unlisted_block B v)
unfolding unlisted_block
below_unlisted_block B v bits = below_tab (omega arith) (B / 8) _ (λ i. number_lt 8 _ (λ b. bits.low _))

module _ (B : ℕ) (words : B % 32 ≡ 0) where
  -- bit t goes to its place
  pub listed_block_at : (bs : List ℕ) (t : ℕ) → t < B → get_or (listed_block B bs) (goes_to B t) 0 ≡ bit_of bs t
  unfolding listed_block
  listed_block_at bs t h =
      get_or_tab B (λ p. bit_of bs (comes_from B p)) (goes_to B t) 0 (goes_to_lt B words t h) ∙ ap (bit_of bs) (comes_from_goes_to B words t h)

  -- and comes back from there
  unlisted_block_at : (v : List ℕ) → Below 2 v → (t : ℕ) → t < B → bit_of (unlisted_block B v) t ≡ get_or v (goes_to B t) 0
  unfolding unlisted_block
  unlisted_block_at v bits t h =
      let e : 8 * (t / 8) + t % 8 ≡ t = omega arith in
      bit_of_byte _ (below_unlisted_block B v bits) t
      ∙ ap (λ x. bit x (t % 8)) (get_or_tab (B / 8) (λ i. number 8 (λ b. get_or v (goes_to B (8 * i + b)) 0)) (t / 8) 0 (omega arith))
      ∙ bit_number 8 (λ b. get_or v (goes_to B (8 * (t / 8) + b)) 0) (λ b. bits.low _) (t % 8) (omega arith)
      ∙ ap (λ k. get_or v (goes_to B k) 0) e

  -- bytes to bits and back
  pub unlisted_block_listed_block : (bs : List ℕ) → length bs ≡ B / 8 → Below 256 bs → unlisted_block B (listed_block B bs) ≡ bs
  unfolding unlisted_block
  unlisted_block_listed_block bs long bytes =
      sym (tab_of 0 (B / 8) (λ i. number 8 (λ b. get_or (listed_block B bs) (goes_to B (8 * i + b)) 0)) bs long
      (λ i h. sym (number_cong 8 _ (bit (get_or bs i 0)) (λ b l. byte i h b l) ∙ number_bit 8 (get_or bs i 0) (bytes.low i))))
    where
      byte : (i : ℕ) → i < B / 8 → (b : ℕ) → b < 8 → get_or (listed_block B bs) (goes_to B (8 * i + b)) 0 ≡ bit (get_or bs i 0) b
      byte i h b l =
          let e : (8 * i + b) / 8 ≡ i = omega arith in
          let f : (8 * i + b) % 8 ≡ b = omega arith in
          listed_block_at bs (8 * i + b) (omega arith) ∙ bit_of_byte bs bytes (8 * i + b) ∙ rw (e, f)

  -- bits to bytes and back
  pub listed_block_unlisted_block : (v : List ℕ) → length v ≡ B → Below 2 v → listed_block B (unlisted_block B v) ≡ v
  unfolding listed_block
  listed_block_unlisted_block v long bits =
      sym (tab_of 0 B (λ p. bit_of (unlisted_block B v) (comes_from B p)) v long
      (λ p h. sym (unlisted_block_at v bits (comes_from B p) (comes_from_lt B words p h) ∙ ap (λ q. get_or v q 0) (goes_to_comes_from B words p h))))

-- row l of a block: k = B/16 places, in a part that has m
pub row_is : (bs part : List ℕ) (B m k at l : ℕ) → at ≡ l * (B / 16) → m ≡ k → k ≡ B / 16 → part ≡ tab m (λ u. bit_of bs (16 * u + l))
    → part ≡ tab k (λ u. bit_of bs (comes_from B (at + u)))
row_is bs part B m k at l start same width p =
    p ∙ ap (λ x. tab x (λ u. bit_of bs (16 * u + l))) same
    ∙ tab_cong k (λ u h. ap (bit_of bs) (sym (ap (λ a. comes_from B (a + u)) start ∙ comes_from_row B l u (omega arith))))

-- byte 2u + k of a block: its bits stand in rows 8k to 8k + 7, at place u of each
pub byte_is : (v : List ℕ) (B u k at : ℕ) → k < 2 → at ≡ 8 * k * (B / 16) + u
    → number 8 (λ b. get_or v (at + b * (B / 16)) 0) ≡ number 8 (λ b. get_or v (goes_to B (8 * (2 * u + k) + b)) 0)
byte_is v B u k at h e = number_cong 8 _ (λ b. get_or v (goes_to B (8 * (2 * u + k) + b)) 0) (λ b l. ap (λ p. get_or v p 0) (there b l))
  where
    there : (b : ℕ) → b < 8 → at + b * (B / 16) ≡ goes_to B (8 * (2 * u + k) + b)
    there b l =
        let m : (8 * (2 * u + k) + b) % 16 ≡ 8 * k + b = omega arith in
        let d : (8 * (2 * u + k) + b) / 16 ≡ u = omega arith in
        sym (goes_to_row B (8 * (2 * u + k) + b) ∙ rw (m, d) (omega (arith, e, add-mul (8 * k) b (B / 16))))
