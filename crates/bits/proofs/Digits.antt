-- Bits of numbers: of a low and a high part, of a number put together from bits, of little-endian bytes. Once over the width.
-- Assumes nothing.
use mathlib.Core.Path.{◌≡◌, refl, sym, ap, ◌∙◌}
use mathlib.Core.List.{List}
use Prim.Native.Nat.{ℕ, zero, suc, ◌+◌, ◌-◌, ◌*◌, ◌/◌, ◌%◌, ◌^◌, ◌≤◌, ◌<◌}
use native.Mathlib.Decide.{dec_lt}
use native.Mathlib.Nat.{mul_comm, mul_assoc, pow-suc, mod-lt, suc-add}
use native.Mathlib.Omega.{arith}
use lib.ListN.{get_or}
use lib.Pow.{shr-shr}
use Rattle.lists.specs.Below.{Below}
use Rattle.bits.specs.Bits.{bit, number, little_endian, word, bit_of}

-- ---- one bit

-- it is 0 or 1
pub bit_lt : (x i : ℕ) → bit x i < 2
unfolding bit
bit_lt x i = mod-lt (x / 2 ^ i) (omega arith)

-- the lowest bit, and the one after i
bit_zero : (x : ℕ) → bit x 0 ≡ x % 2
unfolding bit
bit_zero x = omega arith

bit_suc : (x i : ℕ) → bit x (suc i) ≡ bit (x / 2) i
unfolding bit
bit_suc x i = let e : suc i ≡ 1 + i = omega arith in ap (λ k. x / 2 ^ k % 2) e ∙ ap (λ y. y % 2) (sym (shr-shr x 1 i))

-- ---- a low part of w bits and a high part

-- 2^(w + 1) y = 2 (2^w y)
twice : (w y : ℕ) → 2 ^ suc w * y ≡ 2 * (2 ^ w * y)
twice w y = ap (λ p. p * y) (pow-suc 2 w ∙ mul_comm (2 ^ w) 2) ∙ mul_assoc 2 (2 ^ w) y

-- so it is halved term by term
half : (w x y : ℕ) → (x + 2 ^ suc w * y) / 2 ≡ x / 2 + 2 ^ w * y
half w x y = omega (arith, twice w y)

-- below bit w there are the bits of the low part
bit_low : (w x y b : ℕ) → b < w → bit (x + 2 ^ w * y) b ≡ bit x b
bit_low zero x y b h = absurd (omega arith)
bit_low (suc w) x y zero h = bit_zero _ ∙ omega (arith, twice w y) ∙ sym (bit_zero x)
bit_low (suc w) x y (suc b) h =
    bit_suc _ b ∙ ap (λ z. bit z b) (half w x y) ∙ bit_low w (x / 2) y b (omega arith) ∙ sym (bit_suc x b)

-- from bit w on those of the high part
bit_high : (w x y b : ℕ) → x < 2 ^ w → bit (x + 2 ^ w * y) (w + b) ≡ bit y b
bit_high zero x y b h = let e : x + 2 ^ 0 * y ≡ y = omega arith in ap (λ z. bit z (0 + b)) e ∙ ap (bit y) (omega arith)
bit_high (suc w) x y b h =
    ap (bit (x + 2 ^ suc w * y)) (suc-add w b) ∙ bit_suc _ (w + b) ∙ ap (λ z. bit z (w + b)) (half w x y) ∙ bit_high w (x / 2) y b (omega (arith, pow-suc 2 w))

-- ---- a number put together from bits

-- its two clauses
module _ (f : ℕ → ℕ) where
  pub number_zero : number 0 f ≡ 0
  unfolding number
  number_zero = refl

  number_suc : (w : ℕ) → number (suc w) f ≡ f 0 + 2 * number w (λ i. f (suc i))
  unfolding number
  number_suc w = refl

-- it reads the first w bits only
pub number_cong : (w : ℕ) (f g : ℕ → ℕ) → ((i : ℕ) → i < w → f i ≡ g i) → number w f ≡ number w g
unfolding number
number_cong zero f g e = refl
number_cong (suc w) f g e = ap (λ x. x + 2 * number w (λ i. f (suc i))) (e 0 (omega arith)) ∙ ap (λ x. g 0 + 2 * x) (number_cong w (λ i. f (suc i)) (λ i. g (suc i)) (λ i h. e (suc i) (omega arith)))

-- those of w bits from bit b on, and with the bit before them
pub number_more : (f : ℕ → ℕ) (w b : ℕ) → 0 < b → b ≤ w → 2 * number (w - b) (λ i. f (b + i)) + f (b - 1) ≡ number (w - (b - 1)) (λ i. f (b - 1 + i))
number_more f w b h l =
    let one_more : w - (b - 1) ≡ suc (w - b) = omega arith in
    let first : b - 1 ≡ b - 1 + 0 = omega arith in
    let others = number_cong (w - b) (λ i. f (b + i)) (λ i. f (b - 1 + suc i)) (λ i k. ap f (omega arith)) in
    rw one_more (omega (arith, ap f first, others, number_suc (λ i. f (b - 1 + i)) (w - b)))

-- w bits make a number below 2^w
pub number_lt : (w : ℕ) (f : ℕ → ℕ) → ((i : ℕ) → f i < 2) → number w f < 2 ^ w
unfolding number
number_lt zero f h = omega arith
number_lt (suc w) f h = omega (arith, h 0, number_lt w (λ i. f (suc i)) (λ i. h (suc i)), pow-suc 2 w)

-- its bits are those
pub bit_number : (w : ℕ) (f : ℕ → ℕ) → ((i : ℕ) → f i < 2) → (i : ℕ) → i < w → bit (number w f) i ≡ f i
bit_number zero f h i l = absurd (omega arith)
bit_number (suc w) f h zero l = ap (λ x. bit x 0) (number_suc f w) ∙ bit_zero _ ∙ omega (arith, h 0)
bit_number (suc w) f h (suc i) l =
    let e : number (suc w) f / 2 ≡ number w (λ i. f (suc i)) = omega (arith, number_suc f w, h 0) in
    bit_suc _ i ∙ ap (λ x. bit x i) e ∙ bit_number w (λ i. f (suc i)) (λ i. h (suc i)) i (omega arith)

-- and a number below 2^w is put together from its bits
pub number_bit : (w x : ℕ) → x < 2 ^ w → number w (bit x) ≡ x
number_bit zero x h = number_zero (bit x) ∙ omega arith
number_bit (suc w) x h =
    number_suc (bit x) w
    ∙ omega (arith, bit_zero x, number_cong w (λ i. bit x (suc i)) (bit (x / 2)) (λ i l. bit_suc x i) ∙ number_bit w (x / 2) (omega (arith, pow-suc 2 w)))

-- ---- little-endian bytes

-- bit i of m bytes is bit i mod 8 of byte i div 8
bit_little : (bs : List ℕ) → Below 256 bs → (m k i : ℕ) → i < 8 * m → bit (little_endian m bs k) i ≡ bit (get_or bs (k + i / 8) 0) (i % 8)
unfolding little_endian
bit_little bs bytes zero k i h = absurd (omega arith)
bit_little bs bytes (suc m) k i h = by (dec_lt i 8) (bit_little bs bytes m (suc k) (i - 8))
  where
    by : Dec (i < 8) → (i - 8 < 8 * m → bit (little_endian m bs (suc k)) (i - 8) ≡ bit (get_or bs (suc k + (i - 8) / 8) 0) ((i - 8) % 8))
        → bit (get_or bs k 0 + 256 * little_endian m bs (suc k)) i ≡ bit (get_or bs (k + i / 8) 0) (i % 8)
    by (yes l) r =
        let e : k ≡ k + i / 8 = omega arith in
        let f : i ≡ i % 8 = omega arith in
        bit_low 8 (get_or bs k 0) (little_endian m bs (suc k)) i l ∙ ap (λ j. bit (get_or bs j 0) i) e ∙ ap (bit (get_or bs (k + i / 8) 0)) f
    by (no l) r =
        let e : i ≡ 8 + (i - 8) = omega arith in
        let f : suc k + (i - 8) / 8 ≡ k + i / 8 = omega arith in
        let g : (i - 8) % 8 ≡ i % 8 = omega arith in
        ap (bit (get_or bs k 0 + 256 * little_endian m bs (suc k))) e
        ∙ bit_high 8 (get_or bs k 0) (little_endian m bs (suc k)) (i - 8) (bytes.low k)
        ∙ r (omega arith)
        ∙ ap (λ j. bit (get_or bs j 0) ((i - 8) % 8)) f ∙ ap (bit (get_or bs (k + i / 8) 0)) g

-- two bytes written out
little_two : (bs : List ℕ) (k : ℕ) → little_endian 2 bs k ≡ get_or bs k 0 + 256 * get_or bs (k + 1) 0
unfolding little_endian
little_two bs k = let e : suc k ≡ k + 1 = omega arith in ap (λ i. get_or bs k 0 + 256 * (get_or bs i 0 + 256 * 0)) e ∙ omega arith

module _ (bs : List ℕ) (bytes : Below 256 bs) where
  -- bit t of a run of bytes is bit t mod 8 of its byte t div 8
  pub bit_of_byte : (t : ℕ) → bit_of bs t ≡ bit (get_or bs (t / 8) 0) (t % 8)
  unfolding bit_of word
  bit_of_byte t =
      let e : 4 * (t / 32) + t % 32 / 8 ≡ t / 8 = omega arith in
      let f : t % 32 % 8 ≡ t % 8 = omega arith in
      bit_little bs bytes 4 (4 * (t / 32)) (t % 32) (omega arith)
      ∙ ap (λ j. bit (get_or bs j 0) (t % 32 % 8)) e ∙ ap (bit (get_or bs (t / 8) 0)) f

  -- and bit l of its 16-bit half word u, the number x, is bit 16u + l
  pub bit_of_half : (u l x : ℕ) → l < 16 → x ≡ get_or bs (2 * u) 0 + 256 * get_or bs (2 * u + 1) 0 → x / 2 ^ l % 2 ≡ bit_of bs (16 * u + l)
  unfolding bit
  bit_of_half u l x h two =
      let e : 2 * u + l / 8 ≡ (16 * u + l) / 8 = omega arith in
      let f : l % 8 ≡ (16 * u + l) % 8 = omega arith in
      ap (λ y. y / 2 ^ l % 2) (two ∙ sym (little_two bs (2 * u))) ∙ bit_little bs bytes 2 (2 * u) l (omega arith)
      ∙ ap (λ j. bit (get_or bs j 0) (l % 8)) e ∙ ap (bit (get_or bs ((16 * u + l) / 8) 0)) f ∙ sym (bit_of_byte (16 * u + l))
