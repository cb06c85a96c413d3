-- The bench values hold of the definitions, by computing; P1 to P4 and P12 by the law of monomials, P11 by the place of each bit in the
-- cutting of set 576. Assumes nothing.
use mathlib.Core.Bool.{Bool, true, false, cond}
use mathlib.Core.List.{List, [], ◌∷◌, ◌++◌, flatten}
use mathlib.Core.Path.{◌≡◌, refl, ap, ap₂, ◌∙◌}
use Prim.Native.Nat.{ℕ, ◌+◌, ◌*◌, ◌/◌, ◌%◌, ◌<◌}
use native.Mathlib.Omega.{arith}
use lib.Dec.{eqb, lit<}
use lib.ListN.{get_or}
use borrow.Author.Tests.{eqb-true}
use Rattle.lists.specs.First.{first_where, first_through}
use Rattle.lists.specs.Tab.{tab}
use Rattle.residue.specs.Field.{addq, negq, subq, powq, invq}
use Rattle.residue.specs.Large.{too_large}
use Rattle.residue.specs.Signed.{centred, by_three, centred_by_three}
use Rattle.algebra.specs.Product.{monomial}
use Rattle.algebra.specs.Transform.{exponent}
use Rattle.bits.specs.Blocks.{blocks}
use Rattle.bits.specs.Listing.{place, goes_to}
use Rattle.encoding.specs.Encoding.{xor, encode_bit, decode_bit}
use Rattle.packing.specs.Packing.{three_bytes, packed, two_groups, groups}
use Rattle.answers.specs.Sets.{parameters_of, set_of, for_set}
use Rattle.answers.specs.Tests.{at_first, in_range}
use Rattle.calls_product.specs.Product.{product_of}
use Rattle.calls_transforms.specs.Transform.{transform_of}
use Rattle.lists.proofs.TabLaws.{get_or_tab, tab_cong}
use Rattle.algebra.proofs.Monomials.{product_below, product_middle, product_top, image_monomial}
use Rattle.bits.proofs.Blocks.{total, blocks_576}
use Rattle.bits.proofs.Digits.{bit_of_byte}
use Rattle.bits.proofs.PlaceLaws.{start, listed_at}
use Rattle.demands.specs.Bench.{Goes, x^, slot, BenchValues}

-- bit t of a block goes to its place there
goes : (before : List ℕ) (B : ℕ) (after : List ℕ) → blocks 576 ≡ before ++ B ∷ after → (t : ℕ) → t < B
    → Goes ((start before + t) / 8) ((start before + t) % 8) (start before + goes_to B t)
unfolding Goes
goes before B after is t h bs long bytes =
    listed_at bs bytes before B after (ap (λ k. blocks (8 * k)) long ∙ is) t h ∙ bit_of_byte bs bytes (start before + t)

-- -x^s
minus_power : (n s : ℕ) → tab n (λ k. negq (get_or (monomial n s) k 0)) ≡ tab n (λ k. cond (eqb k s) 3456 0)
unfolding monomial negq
minus_power n s = tab_cong n (λ k l. ap negq (get_or_tab n _ k 0 l) ∙ by (eqb k s))
  where
    by : (b : Bool) → negq (cond b 1 0) ≡ cond b 3456 0
    by true = refl
    by false = refl

-- x^s - 1, where s is not 0
power_minus_one : (n s : ℕ) → 0 < s
    → tab n (λ k. subq (get_or (monomial n s) k 0) (get_or (monomial n 0) k 0)) ≡ tab n (λ k. cond (eqb k 0) 3456 (cond (eqb k s) 1 0))
unfolding monomial negq subq addq
power_minus_one n s p =
    tab_cong n (λ k l. ap₂ subq (get_or_tab n _ k 0 l) (get_or_tab n _ k 0 l) ∙ by k (eqb k s) (eqb k 0) refl refl)
  where
    by : (k : ℕ) (a b : Bool) → eqb k s ≡ a → eqb k 0 ≡ b → subq (cond a 1 0) (cond b 1 0) ≡ cond b 3456 (cond a 1 0)
    by k true true ea eb = absurd (omega (arith, p, eqb-true k s ea, eqb-true k 0 eb))
    by k true false ea eb = refl
    by k false true ea eb = refl
    by k false false ea eb = refl

pub bench_values : BenchValues
unfolding total goes_to place xor encode_bit decode_bit powq invq centred by_three centred_by_three tab first_where first_through flatten too_large at_first in_range packed three_bytes groups two_groups set_of for_set parameters_of product_of transform_of exponent x^ slot
bench_values =
    record {
      p1 = product_middle 288 575 1 (lit< tt) (lit< tt) 0 (lit< tt) refl ∙ power_minus_one 576 288 (lit< tt);
      p2 = product_top 288 432 432 (lit< tt) (lit< tt) 0 (lit< tt) refl ∙ minus_power 576 0;
      p3 = product_top 288 575 575 (lit< tt) (lit< tt) 286 (lit< tt) refl ∙ minus_power 576 286;
      p4 = product_below 288 287 288 (lit< tt) (lit< tt) (lit< tt);
      p5_two = refl;
      p5_three = refl;
      p6_third = refl;
      p6_half = refl;
      p7_1727 = refl;
      p7_1728 = refl;
      p7_1729 = refl;
      p7_1730 = refl;
      p8_110 = refl;
      p8_111 = refl;
      p8_010 = refl;
      p9_minus_one = refl;
      p9_one = refl;
      p10_packs = refl;
      p10_refused = refl;
      p11_0_1 = goes [] 256 (256 ∷ 64 ∷ []) blocks_576 1 (lit< tt);
      p11_2_0 = goes [] 256 (256 ∷ 64 ∷ []) blocks_576 16 (lit< tt);
      p11_31_7 = goes [] 256 (256 ∷ 64 ∷ []) blocks_576 255 (lit< tt);
      p11_64_1 = goes (256 ∷ 256 ∷ []) 64 [] blocks_576 1 (lit< tt);
      p11_66_0 = goes (256 ∷ 256 ∷ []) 64 [] blocks_576 16 (lit< tt);
      p12_576_0 = image_monomial 288 49 1 0 (lit< tt) (lit< tt);
      p12_576_1 = image_monomial 288 49 1 1 (lit< tt) (lit< tt);
      p12_1152_0 = image_monomial 576 7 1 0 (lit< tt) (lit< tt);
      p12_1152_1 = image_monomial 576 7 1 1 (lit< tt) (lit< tt);
      p12_x288_0 = image_monomial 288 49 288 0 (lit< tt) (lit< tt);
      p12_x288_1 = image_monomial 288 49 288 1 (lit< tt) (lit< tt);
      p12_x288_2 = image_monomial 288 49 288 2 (lit< tt) (lit< tt);
    }
