-- The call `open_1`: "private key, ciphertext", "marks n, packed image of r".
-- Assumes nothing: these are definitions.
use Rattle.std.specs.Prelude.{◌&&◌, List, [], ◌∷◌, ◌≡◌, ℕ, eqb, length}
use Rattle.packing.specs.Packing.{groups}
use Rattle.answers.specs.Answers.{Answer}
use Rattle.answers.specs.Replies.{Reply, reply, leaves, Outcome}
use Rattle.answers.specs.Sets.{set_of, for_set}
use Rattle.answers.specs.Tests.{in_order, in_range}
use Rattle.stages.specs.Opening.{opened_marks, opened_image}

-- 1, 2, 3 or 0, in that order
unfoldable pub open_one_reply : ℕ → List ℕ → List ℕ → ℕ → ℕ → Reply
open_one_reply set private cipher marks image =
    in_order set
    (λ s. eqb (length private) s.private && (eqb (length cipher) s.packed && (eqb marks s.n && eqb image s.packed)))
    (λ s. in_range (groups private ∷ groups cipher ∷ []) (reply 0 0))

unfoldable pub marks_of : ℕ → List ℕ → List ℕ → List ℕ
marks_of set private cipher = for_set (set_of set) [] (λ s. opened_marks s.half s.root private cipher)

unfoldable pub opened_image_of : ℕ → List ℕ → List ℕ → List ℕ
opened_image_of set private cipher = for_set (set_of set) [] (λ s. opened_image s.half s.root private cipher)

-- the promise of `open_1`: r is answered, and the buffers that held `marks` and `image` hold `marks'` and `image'`
unfoldable pub OpenOne : ℕ → List ℕ → List ℕ → List ℕ → List ℕ → Answer → List ℕ → List ℕ → Type 0
OpenOne set private cipher marks image r marks' image' =
    Outcome (open_one_reply set private cipher (length marks) (length image)) r
    (λ R. (marks' ≡ leaves R (marks_of set private cipher) marks) × (image' ≡ leaves R (opened_image_of set private cipher) image))
