-- Demand 3: "Take a pair made here, with f' and g' the small polynomials sampled for it, and one sealing with it, with r its random and m its
-- encoded polynomial." By `agreed`, which puts the theorems on keys and ciphertexts and the stages' tests together. Assumes nothing.
use mathlib.Core.List.{List}
use mathlib.Core.Path.{◌≡◌, subst}
use Prim.Native.Nat.{ℕ, ◌/◌}
use native.Mathlib.Omega.{arith}
use Rattle.lists.specs.Below.{Below}
use Rattle.encoding.specs.Encoding.{encoded}
use Rattle.answers.specs.declared.Parameters.{Parameters}
use Rattle.std.specs.Prelude.{Some}
use Rattle.answers.specs.Answers.{number_of}
use Rattle.answers.specs.Sets.{set_of}
use Rattle.stages.specs.Making.{small_f, small_g}
use Rattle.stages.specs.Sealing.{small_r}
use Rattle.agreement.specs.Opened.{opened, InRange}
use Rattle.answers.proofs.SetLaws.{known_set}
use Rattle.demands.specs.Agreement.{Made, Sealed, worked_out}
use Rattle.demands.specs.Opening.{Opening}
use Rattle.demands.proofs.AgreementLaws.{made_known, made_pair, sealed_text}
use Rattle.demands.proofs.Agreed.{agreed, agreed_once}

-- the half that a known set decides
half_is : (set : ℕ) (s : Parameters) → set_of set ≡ Some s → set / 2 ≡ s.half
half_is set s known = let i = known_set set s known in omega (arith, i.size, i.whole)

module _ {set : ℕ} {seed public private : List ℕ} (made : Made set seed public private) where
  -- what is worked out, with the half that the set decides
  with_half : (s : Parameters) → set_of set ≡ Some s → (message hblock gblock : List ℕ) → InRange (worked_out set seed message hblock gblock)
      → InRange (opened s.half (small_f seed) (small_g seed) (small_r hblock) (encoded message gblock))
  unfolding worked_out
  with_half s known message hblock gblock =
      subst (λ h. InRange (opened h (small_f seed) (small_g seed) (small_r hblock) (encoded message gblock))) (half_is set s known)

  -- "If each coefficient lies from -1728 to 1728, opening with the same hash blocks gives back the same message and key, and no stage refuses."
  pub opens : {message hblock gblock cipher key : List ℕ} → Sealed set public message hblock gblock cipher key → Below 256 message
      → InRange (worked_out set seed message hblock gblock) → {message' key' : List ℕ} (o : Opening set private cipher hblock gblock message' key')
      → (number_of o.first ≡ 0) × (number_of o.second ≡ 0) × (number_of o.third ≡ 0) × (message' ≡ message) × (key' ≡ key)
  opens {message} {hblock} {gblock} sealed bytes near o =
      let k = made_known made in
      agreed set k.0 k.1 (made_pair k.0 k.1 made) (sealed_text k.0 k.1 sealed) bytes (with_half k.0 k.1 message hblock gblock near) o

  -- "Two such sealings with one pair and equal ciphertexts had the same m and the same r."
  pub opens_once : {message hblock gblock message₂ hblock₂ gblock₂ cipher key key₂ : List ℕ}
      → Sealed set public message hblock gblock cipher key → Sealed set public message₂ hblock₂ gblock₂ cipher key₂
      → InRange (worked_out set seed message hblock gblock) → InRange (worked_out set seed message₂ hblock₂ gblock₂)
      → (encoded message gblock ≡ encoded message₂ gblock₂) × (small_r hblock ≡ small_r hblock₂)
  opens_once {message} {hblock} {gblock} {message₂} {hblock₂} {gblock₂} sealed sealed₂ near near₂ =
      let k = made_known made in
      agreed_once set k.0 k.1 (made_pair k.0 k.1 made) (sealed_text k.0 k.1 sealed) (sealed_text k.0 k.1 sealed₂)
      (with_half k.0 k.1 message hblock gblock near) (with_half k.0 k.1 message₂ hblock₂ gblock₂ near₂)
