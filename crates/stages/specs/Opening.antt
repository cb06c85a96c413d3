-- Opening a ciphertext: what the first stage and the second write, over n = 2h with the root w.
-- Assumes nothing: these are definitions.
use Rattle.std.specs.Prelude.{List, map, ℕ, ◌+◌, ℤ}
use Rattle.residue.specs.Signed.{centred_by_three}
use Rattle.algebra.specs.SlotBySlot.{minus, times}
use Rattle.algebra.specs.Transform.{reverse}
use Rattle.marks.specs.Marks.{mark_of, of_mark}
use Rattle.small.specs.Sampling.{first_half, second_half}
use Rattle.encoding.specs.Encoding.{decoded}
use Rattle.packing.specs.Packing.{packed, groups}
use Rattle.stages.specs.Images.{image_of}

-- "m = reverse of (ciphertext image times f image), centred, then by 3"
unfoldable pub opened_m : ℕ → ℕ → List ℕ → List ℕ → List ℤ
opened_m h w F C = map centred_by_three (reverse h w (times (h + h) C F))

-- "r image = (c - m) times 1/h, slot by slot": K is the image of 1/h
unfoldable pub opened_r : ℕ → ℕ → List ℕ → List ℕ → List ℕ → List ℕ
opened_r h w F K C = times (h + h) (minus (h + h) C (image_of h w (opened_m h w F C))) K

-- open-1: the marks of m, and the packed image of r; the private key's halves are the images of f and of 1/h
unfoldable pub opened_marks : ℕ → ℕ → List ℕ → List ℕ → List ℕ
opened_marks h w private cipher = map mark_of (opened_m h w (groups (first_half private)) (groups cipher))

unfoldable pub opened_image : ℕ → ℕ → List ℕ → List ℕ → List ℕ
opened_image h w private cipher = packed (opened_r h w (groups (first_half private)) (groups (second_half private)) (groups cipher))

-- "Open-2 decodes."
unfoldable pub opened_message : List ℕ → List ℕ → List ℕ
opened_message marks gblock = decoded (map of_mark marks) gblock
