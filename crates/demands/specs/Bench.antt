-- Document 01's bench values marked P, as one table of the definitions: a row is an equation, for P11 an equation of all bytes.
-- Assumes nothing: these are definitions.
use Rattle.std.specs.Prelude.{cond, List, [], ◌∷◌, ◌≡◌, ℕ, eqb, pos, negsuc, length, get_or}
use Rattle.lists.specs.Below.{Below}
use Rattle.lists.specs.Tab.{tab}
use Rattle.residue.specs.Field.{generator, powq, invq}
use Rattle.residue.specs.Signed.{centred_by_three}
use Rattle.algebra.specs.Product.{monomial}
use Rattle.bits.specs.Bits.{bit}
use Rattle.bits.specs.Listing.{listed}
use Rattle.encoding.specs.Encoding.{encode_bit, decode_bit}
use Rattle.packing.specs.Packing.{packed, groups}
use Rattle.answers.specs.Replies.{reply}
use Rattle.answers.specs.Tests.{in_range}
use Rattle.calls_product.specs.Product.{product_of}
use Rattle.calls_transforms.specs.Transform.{transform_of}

-- in set 576, whose runs are 72 bytes: bit b of byte i goes to place p, whatever the bytes are
unfoldable pub Goes : ℕ → ℕ → ℕ → Type 0
Goes i b p = (bs : List ℕ) → length bs ≡ 72 → Below 256 bs → get_or (listed bs) p 0 ≡ bit (get_or bs i 0) b

-- x^i of set 576
unfoldable pub x^ : ℕ → List ℕ
x^ i = monomial 576 i

-- slot k of the image of x^i
unfoldable pub slot : ℕ → ℕ → ℕ → ℕ
slot set i k = get_or (transform_of set (monomial set i)) k 0

pub record BenchValues : Type 0 where
  -- P1 set 576: x^575 * x = 3456 + x^288
  pub p1 : product_of 576 (x^ 575) (x^ 1) ≡ tab 576 (λ k. cond (eqb k 0) 3456 (cond (eqb k 288) 1 0))
  -- P2 x^432 * x^432 = 3456
  pub p2 : product_of 576 (x^ 432) (x^ 432) ≡ tab 576 (λ k. cond (eqb k 0) 3456 0)
  -- P3 x^575 * x^575 = 3456x^286
  pub p3 : product_of 576 (x^ 575) (x^ 575) ≡ tab 576 (λ k. cond (eqb k 286) 3456 0)
  -- P4 x^287 * x^288 = x^575, nothing folded
  pub p4 : product_of 576 (x^ 287) (x^ 288) ≡ x^ 575
  -- P5 inverse of 2 is 1729, of 3 is 2305
  pub p5_two : invq 2 ≡ 1729
  pub p5_three : invq 3 ≡ 2305
  -- P6 7^1152 = 722 and 7^1728 = 3456
  pub p6_third : powq generator 1152 ≡ 722
  pub p6_half : powq generator 1728 ≡ 3456
  -- P7 residue to -1, 0, 1: 1727 gives -1, 1728 gives 0, 1729 gives 0, 1730 gives 1
  pub p7_1727 : centred_by_three 1727 ≡ negsuc 0
  pub p7_1728 : centred_by_three 1728 ≡ pos 0
  pub p7_1729 : centred_by_three 1729 ≡ pos 0
  pub p7_1730 : centred_by_three 1730 ≡ pos 1
  -- P8 bits message, first, second: 1,1,0 gives 0; 1,1,1 gives -1; 0,1,0 gives 1
  pub p8_110 : encode_bit 1 1 0 ≡ pos 0
  pub p8_111 : encode_bit 1 1 1 ≡ negsuc 0
  pub p8_010 : encode_bit 0 1 0 ≡ pos 1
  -- P9 decoding: coefficient -1, first 0, second 0 gives 1; coefficient 1, first 0, second 1 gives 0
  pub p9_minus_one : decode_bit (negsuc 0) 0 0 ≡ 1
  pub p9_one : decode_bit (pos 1) 0 1 ≡ 0
  -- P10 pair 3456, 3456 packs to 80 0D D8; 00 10 D8 is refused with 3, place 1
  pub p10_packs : packed (3456 ∷ 3456 ∷ []) ≡ 0x80 ∷ 0x0d ∷ 0xd8 ∷ []
  pub p10_refused : in_range (groups (0x00 ∷ 0x10 ∷ 0xd8 ∷ []) ∷ []) (reply 0 0) ≡ reply 3 1
  -- P11 listing, set 576: byte 0 bit 1 goes to 16; byte 2 bit 0 to 1; byte 31 bit 7 to 255; byte 64 bit 1 to 516; byte 66 bit 0 to 513
  pub p11_0_1 : Goes 0 1 16
  pub p11_2_0 : Goes 2 0 1
  pub p11_31_7 : Goes 31 7 255
  pub p11_64_1 : Goes 64 1 516
  pub p11_66_0 : Goes 66 0 513
  -- P12 image of x: slots 0 and 1 are 49 and 322 (set 576), 7 and 2979 (set 1152). Image of x^288, set 576: 723, 2735, 723
  pub p12_576_0 : slot 576 1 0 ≡ 49
  pub p12_576_1 : slot 576 1 1 ≡ 322
  pub p12_1152_0 : slot 1152 1 0 ≡ 7
  pub p12_1152_1 : slot 1152 1 1 ≡ 2979
  pub p12_x288_0 : slot 576 288 0 ≡ 723
  pub p12_x288_1 : slot 576 288 1 ≡ 2735
  pub p12_x288_2 : slot 576 288 2 ≡ 723
