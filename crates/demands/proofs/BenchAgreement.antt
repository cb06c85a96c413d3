-- Document 01's bench pair is a pair that make takes, and every sealing with it is in range: so demand 3 speaks of something.
-- Assumes nothing.
use mathlib.Core.Bool.{true, ◌&&◌}
use mathlib.Core.List.{List, [], ◌∷◌, flatten}
use mathlib.Core.Path.{◌≡◌, refl, ap, ◌∙◌}
use Prim.Native.Nat.{ℕ, ◌≤◌, ◌<◌}
use native.Mathlib.Omega.{arith}
use lib.Dec.{eqb}
use lib.ListN.{length, get_or, drop, length-drop}
use borrow.Author.Tests.{ne_eqb}
use Rattle.lists.specs.First.{first_where, first_through}
use Rattle.algebra.specs.SlotBySlot.{is_zero}
use Rattle.encoding.specs.Encoding.{encoded}
use Rattle.answers.specs.Replies.{reply}
use Rattle.answers.specs.Sets.{parameters_of, set_of}
use Rattle.stages.specs.Images.{tripled, plus_one}
use Rattle.stages.specs.Making.{small_f, small_g, f_image, g_image}
use Rattle.stages.specs.Sealing.{small_r}
use Rattle.agreement.specs.BenchPair.{bench_seed}
use Rattle.agreement.specs.Opened.{Pair, InRange}
use Rattle.calls_make.specs.Make.{make_reply}
use Rattle.lists.proofs.FirstLaws.{first_nowhere, length_through, length_one, through_past, through_one}
use Rattle.lists.proofs.TabLaws.{length_tab}
use Rattle.small.proofs.SmallLaws.{length_sampled, smalls_sampled}
use Rattle.encoding.proofs.EncodingLaws.{smalls_encoded}
use Rattle.answers.proofs.Exits.{in_order_lem, none_found}
use Rattle.stages.proofs.ImageLaws.{image_of_residues}
use Rattle.agreement.proofs.BenchPair.{bench_pair, bench_near}
use Rattle.demands.specs.Agreement.{worked_out}

-- a list of positive numbers has no zero
no_zero : (l : List ℕ) → ((k : ℕ) → k < length l → 0 < get_or l k 0) → length l ≤ first_where is_zero l
unfolding is_zero
no_zero l h = omega (arith, first_nowhere is_zero l (λ k b. ne_eqb (get_or l k 0) 0 (λ e. omega (arith, e, h k b))))

-- so make finds none in a pair
pair_clear : (h w : ℕ) (seed : List ℕ) → Pair h w (small_f seed) (small_g seed)
    → length (flatten (f_image h w (small_f seed) ∷ g_image h w (small_g seed) ∷ [])) ≤ first_through is_zero (f_image h w (small_f seed) ∷ g_image h w (small_g seed) ∷ [])
unfolding f_image g_image
pair_clear h w seed pair =
    let f = f_image h w (small_f seed) in
    let g = g_image h w (small_g seed) in
    let lf = (image_of_residues h w (plus_one (tripled (small_f seed)))).long in
    let lg = (image_of_residues h w (tripled (small_g seed))).long in
    let cf = no_zero f (λ k b. pair.f_slots k (omega (arith, b, lf))) in
    let cg = no_zero g (λ k b. pair.g_slots k (omega (arith, b, lg))) in
    omega (arith, length_through f (g ∷ []), length_one g, through_past is_zero f (g ∷ []) cf, through_one is_zero g, cg)

-- "With only byte 144 equal to 1": make answers 0
pub bench_made : make_reply 576 bench_seed 864 1728 ≡ reply 0 0
unfolding make_reply set_of parameters_of bench_seed
bench_made =
    in_order_lem 576 _ _ (parameters_of 576 49 2) refl (ap (λ n. eqb n 288 && true) (length_tab 288 _))
    ∙ none_found 4 is_zero _ (reply 0 0) (pair_clear 288 49 bench_seed bench_pair)

-- and whatever is sealed with its pair is in range
pub bench_in_range : (message hblock gblock : List ℕ) → length hblock ≡ 176 → InRange (worked_out 576 bench_seed message hblock gblock)
unfolding worked_out small_r
bench_in_range message hblock gblock e =
    bench_near (small_r hblock) (encoded message gblock) (length_sampled (drop 32 hblock) ∙ omega (arith, length-drop 32 hblock, e)) (smalls_sampled (drop 32 hblock))
    (smalls_encoded message gblock)
