-- A promise leaves one possible answer and one possible content of each buffer: two outcomes that meet it on the same input are the same,
-- refusals too. Assumes nothing.
use mathlib.Core.List.{List}
use mathlib.Core.Path.{◌≡◌, sym, ◌∙◌}
use Prim.Native.Nat.{ℕ}
use Rattle.answers.specs.Answers.{Answer}
use Rattle.calls_product.specs.Product.{Product}
use Rattle.calls_transforms.specs.Transform.{Transform}
use Rattle.calls_transforms.specs.Reverse.{Reverse}
use Rattle.calls_make.specs.Make.{Make}
use Rattle.calls_halves.specs.Halves.{FHalf, HHalf}
use Rattle.calls_r_image.specs.RImage.{RImage}
use Rattle.calls_seal.specs.Seal.{Seal}
use Rattle.calls_open_1.specs.OpenOne.{OpenOne}
use Rattle.calls_open_2.specs.OpenTwo.{OpenTwo}
use Rattle.calls_open_3.specs.OpenThree.{OpenThree}
use Rattle.line.specs.Line.{Line}
use Rattle.answers.proofs.AnswerLaws.{one_answer}

-- ---- the calls that write one buffer: the answer and the buffer

module _ (set : ℕ) {r s : Answer} {x y : List ℕ} where
  pub product_unique : (a b before : List ℕ) → Product set a b before r x → Product set a b before s y → (r ≡ s) × (x ≡ y)
  unfolding Product
  product_unique a b before p q = (one_answer p q, p.content ∙ sym q.content)

  pub transform_unique : (a before : List ℕ) → Transform set a before r x → Transform set a before s y → (r ≡ s) × (x ≡ y)
  unfolding Transform
  transform_unique a before p q = (one_answer p q, p.content ∙ sym q.content)

  pub reverse_unique : (a before : List ℕ) → Reverse set a before r x → Reverse set a before s y → (r ≡ s) × (x ≡ y)
  unfolding Reverse
  reverse_unique a before p q = (one_answer p q, p.content ∙ sym q.content)

  pub r_image_unique : (hblock image : List ℕ) → RImage set hblock image r x → RImage set hblock image s y → (r ≡ s) × (x ≡ y)
  unfolding RImage
  r_image_unique hblock image p q = (one_answer p q, p.content ∙ sym q.content)

  pub open_two_unique : (marks gblock message : List ℕ) → OpenTwo set marks gblock message r x → OpenTwo set marks gblock message s y
      → (r ≡ s) × (x ≡ y)
  unfolding OpenTwo
  open_two_unique marks gblock message p q = (one_answer p q, p.content ∙ sym q.content)

  pub open_three_unique : (image hblock key : List ℕ) → OpenThree set image hblock key r x → OpenThree set image hblock key s y
      → (r ≡ s) × (x ≡ y)
  unfolding OpenThree
  open_three_unique image hblock key p q = (one_answer p q, p.content ∙ sym q.content)

-- ---- the calls that write two: the answer and both

module _ (set : ℕ) {r s : Answer} {x y u v : List ℕ} where
  pub make_unique : (seed public private : List ℕ) → Make set seed public private r x u → Make set seed public private s y v
      → (r ≡ s) × (x ≡ y) × (u ≡ v)
  unfolding Make
  make_unique seed public private p q = (one_answer p q, p.content.0 ∙ sym q.content.0, p.content.1 ∙ sym q.content.1)

  pub seal_unique : (public message hblock gblock cipher key : List ℕ) → Seal set public message hblock gblock cipher key r x u
      → Seal set public message hblock gblock cipher key s y v → (r ≡ s) × (x ≡ y) × (u ≡ v)
  unfolding Seal
  seal_unique public message hblock gblock cipher key p q =
      (one_answer p q, p.content.0 ∙ sym q.content.0, p.content.1 ∙ sym q.content.1)

  pub open_one_unique : (private cipher marks image : List ℕ) → OpenOne set private cipher marks image r x u
      → OpenOne set private cipher marks image s y v → (r ≡ s) × (x ≡ y) × (u ≡ v)
  unfolding OpenOne
  open_one_unique private cipher marks image p q =
      (one_answer p q, p.content.0 ∙ sym q.content.0, p.content.1 ∙ sym q.content.1)

-- ---- the two that hand back a half: its bytes, and the place at which they stand

module _ (set : ℕ) (key : List ℕ) (place : ℕ × ℕ) {x y : List ℕ} {i j : ℕ × ℕ} where
  pub f_half_unique : FHalf set key place x i → FHalf set key place y j → (x ≡ y) × (i ≡ j)
  f_half_unique p q = (p.content ∙ sym q.content, p.lent ∙ sym q.lent)

  pub h_half_unique : HHalf set key place x i → HHalf set key place y j → (x ≡ y) × (i ≡ j)
  h_half_unique p q = (p.content ∙ sym q.content, p.lent ∙ sym q.lent)

-- ringline's function: the bytes that it prints, and the buffer that they stand in
pub line_unique : (input before : List ℕ) {r s : ℕ} {x y : List ℕ} → Line input before r x → Line input before s y → (r ≡ s) × (x ≡ y)
unfolding Line
line_unique input before p q = (p.end ∙ sym q.end, p.content ∙ sym q.content)
