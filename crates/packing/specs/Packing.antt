-- Packing: pairs of residues as three bytes, and the 12-bit groups that three bytes hold.
-- Assumes nothing: these are definitions.
use mathlib.Core.List.{List, [], ◌∷◌, flatten}
use Rattle.std.specs.Prelude.{ℕ, ◌+◌, ◌*◌, ◌/◌, ◌%◌, length, get_or}
use Rattle.lists.specs.Tab.{tab}

-- "residues a, b become three bytes: a mod 256; a div 256 + 16(b mod 16); b div 16"
unfoldable pub three_bytes : ℕ → ℕ → List ℕ
three_bytes a b = a % 256 ∷ (a / 256 + 16 * (b % 16)) ∷ b / 16 ∷ []

-- the packed form of a list: the three bytes of each pair, in order
unfoldable pub packed : List ℕ → List ℕ
packed v = flatten (tab (length v / 2) (λ i. three_bytes (get_or v (2 * i) 0) (get_or v (2 * i + 1) 0)))

-- "a 12-bit group": three bytes hold two
unfoldable pub two_groups : ℕ → ℕ → ℕ → List ℕ
two_groups x y z = (x + 256 * (y % 16)) ∷ (y / 16 + 16 * z) ∷ []

-- the groups of a list of bytes, in order
unfoldable pub groups : List ℕ → List ℕ
groups bs = flatten (tab (length bs / 3) (λ i. two_groups (get_or bs (3 * i) 0) (get_or bs (3 * i + 1) 0) (get_or bs (3 * i + 2) 0)))
