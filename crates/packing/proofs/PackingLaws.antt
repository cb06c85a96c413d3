-- Unpacking undoes packing and takes nothing else: pair by pair, by what three bytes and two groups are to each other.
-- Assumes nothing.
use mathlib.Core.Path.{◌≡◌, refl, sym, ap, ap₂, ◌∙◌}
use mathlib.Core.List.{List, [], ◌∷◌, ◌++◌, flatten}
use Prim.Native.Nat.{ℕ, ◌+◌, ◌*◌, ◌/◌, ◌<◌}
use native.Mathlib.Omega.{arith}
use lib.ListN.{length, get_or, length-append, get_or-append}
use lib.Seq.{get_or-append-add}
use Rattle.std.proofs.Common.{None, position}
use Rattle.lists.specs.Tab.{tab}
use Rattle.lists.specs.Below.{Below}
use Rattle.residue.specs.Large.{too_large, first_large}
use Rattle.residue.specs.Residues.{Residues}
use Rattle.lists.proofs.FirstLaws.{position_none, position_nowhere}
use Rattle.lists.proofs.Flat.{length_flat, flat_at, flat_of, flat_add}
use Rattle.lists.proofs.TabLaws.{tab_cong}
use Rattle.residue.proofs.LargeLaws.{residues_of, none_large}
use Rattle.packing.specs.Packing.{three_bytes, packed, two_groups, groups}

-- ---- lengths, and what stands at a place

-- three bytes for every pair
pub length_packed : (v : List ℕ) → length (packed v) ≡ 3 * (length v / 2)
unfolding packed three_bytes
length_packed v = length_flat 3 (length v / 2) _ (λ i. refl)

-- two groups for every three bytes
pub length_groups : (bs : List ℕ) → length (groups bs) ≡ 2 * (length bs / 3)
unfolding groups two_groups
length_groups bs = length_flat 2 (length bs / 3) _ (λ i. refl)

-- from place 3 i on stand the three bytes of pair i
pub packed_at : (v : List ℕ) (i : ℕ) → i < length v / 2
    → get_or (packed v) (3 * i) 0 ∷ get_or (packed v) (3 * i + 1) 0 ∷ get_or (packed v) (3 * i + 2) 0 ∷ []
    ≡ three_bytes (get_or v (2 * i) 0) (get_or v (2 * i + 1) 0)
unfolding packed three_bytes tab
packed_at v i h =
    ap (λ j. get_or (packed v) j 0 ∷ get_or (packed v) (3 * i + 1) 0 ∷ get_or (packed v) (3 * i + 2) 0 ∷ []) (omega arith)
    ∙ flat_at 3 (length v / 2) _ (λ i. refl) i h

-- from place 2 i on stand the two groups of the three bytes from 3 i on
pub groups_at : (bs : List ℕ) (i : ℕ) → i < length bs / 3
    → get_or (groups bs) (2 * i) 0 ∷ get_or (groups bs) (2 * i + 1) 0 ∷ []
    ≡ two_groups (get_or bs (3 * i) 0) (get_or bs (3 * i + 1) 0) (get_or bs (3 * i + 2) 0)
unfolding groups two_groups tab
groups_at bs i h =
    ap (λ j. get_or (groups bs) j 0 ∷ get_or (groups bs) (2 * i + 1) 0 ∷ []) (omega arith) ∙ flat_at 2 (length bs / 3) _ (λ i. refl) i h

-- of bytes in two runs, the first of whole threes: the groups of both
pub groups_append : (k : ℕ) (xs ys : List ℕ) → length xs ≡ 3 * k → groups (xs ++ ys) ≡ groups xs ++ groups ys
unfolding groups
groups_append k xs ys e =
    ap (λ n. flatten (tab n (three (xs ++ ys)))) (omega (arith, e, length-append xs ys)) ∙ flat_add (length xs / 3) (length ys / 3) (three (xs ++ ys))
    ∙ ap₂ (λ a b. flatten a ++ flatten b) (tab_cong (length xs / 3) first) (tab_cong (length ys / 3) second)
  where
    three : List ℕ → ℕ → List ℕ
    three bs i = two_groups (get_or bs (3 * i) 0) (get_or bs (3 * i + 1) 0) (get_or bs (3 * i + 2) 0)

    same : {x y z x' y' z' : ℕ} → x ≡ x' → y ≡ y' → z ≡ z' → two_groups x y z ≡ two_groups x' y' z'
    same a b c = cc

    first : (i : ℕ) → i < length xs / 3 → three (xs ++ ys) i ≡ three xs i
    first i h =
        same (get_or-append xs ys 0 (3 * i) (omega (arith, e))) (get_or-append xs ys 0 (3 * i + 1) (omega (arith, e)))
        (get_or-append xs ys 0 (3 * i + 2) (omega (arith, e)))

    past : (i r : ℕ) → get_or (xs ++ ys) (3 * (length xs / 3 + i) + r) 0 ≡ get_or ys (3 * i + r) 0
    past i r = ap (λ j. get_or (xs ++ ys) j 0) (omega (arith, e)) ∙ get_or-append-add xs ys (3 * i + r) 0

    second : (i : ℕ) → i < length ys / 3 → three (xs ++ ys) (length xs / 3 + i) ≡ three ys i
    second i h =
        same (ap (λ j. get_or (xs ++ ys) j 0) (omega arith) ∙ past i 0 ∙ ap (λ j. get_or ys j 0) (omega arith)) (past i 1) (past i 2)

-- ---- one pair

-- equal lists have equal elements
pub nth : {l m : List ℕ} → l ≡ m → (r : ℕ) → get_or l r 0 ≡ get_or m r 0
nth e r = ap (λ l. get_or l r 0) e

-- if x, y, z are the bytes of a, b, then a, b are the groups of x, y, z
groups_pair : {a b x y z : ℕ} → a < 4096 → x ∷ y ∷ z ∷ [] ≡ three_bytes a b → two_groups x y z ≡ a ∷ b ∷ []
unfolding three_bytes two_groups
groups_pair h e = ap₂ (λ s t. s ∷ t ∷ []) (omega (arith, nth e 0, nth e 1)) (omega (arith, nth e 1, nth e 2))

-- if a, b are the groups of bytes x, y, z, then x, y, z are the bytes of a, b
bytes_pair : {x y z a b : ℕ} → x < 256 → y < 256 → a ∷ b ∷ [] ≡ two_groups x y z → three_bytes a b ≡ x ∷ y ∷ z ∷ []
unfolding three_bytes two_groups
bytes_pair hx hy e =
    ap₂ (λ s l. s ∷ l) (omega (arith, nth e 0)) (ap₂ (λ s t. s ∷ t ∷ []) (omega (arith, nth e 0, nth e 1)) (omega (arith, nth e 1)))

-- ---- whole lists, of k pairs

-- unpacking undoes packing, of numbers of 12 bits
pub groups_packed : (k : ℕ) (v : List ℕ) → length v ≡ 2 * k → ((i : ℕ) → i < 2 * k → get_or v i 0 < 4096) → groups (packed v) ≡ v
unfolding groups tab
groups_packed k v e low = rw count (ap flatten (tab_cong k pair) ∙ sym (flat_of 2 k v e))
  where
    count : length (packed v) / 3 ≡ k
    count = omega (arith, length_packed v, e)

    pair : (i : ℕ) → i < k
        → two_groups (get_or (packed v) (3 * i) 0) (get_or (packed v) (3 * i + 1) 0) (get_or (packed v) (3 * i + 2) 0) ≡ tab 2 (λ r. get_or v (2 * i + r) 0)
    pair i h =
        groups_pair (low (2 * i) (omega arith)) (packed_at v i (omega (arith, e)))
        ∙ ap (λ j. get_or v j 0 ∷ get_or v (2 * i + 1) 0 ∷ []) (omega arith)

-- packing undoes unpacking, of bytes
pub packed_groups : (k : ℕ) (bs : List ℕ) → length bs ≡ 3 * k → Below 256 bs → packed (groups bs) ≡ bs
unfolding packed tab
packed_groups k bs e bytes = rw count (ap flatten (tab_cong k three) ∙ sym (flat_of 3 k bs e))
  where
    count : length (groups bs) / 2 ≡ k
    count = omega (arith, length_groups bs, e)

    three : (i : ℕ) → i < k → three_bytes (get_or (groups bs) (2 * i) 0) (get_or (groups bs) (2 * i + 1) 0) ≡ tab 3 (λ r. get_or bs (3 * i + r) 0)
    three i h =
        bytes_pair (bytes.low (3 * i)) (bytes.low (3 * i + 1)) (groups_at bs i (omega (arith, e)))
        ∙ ap (λ j. get_or bs j 0 ∷ get_or bs (3 * i + 1) 0 ∷ get_or bs (3 * i + 2) 0 ∷ []) (omega arith)

-- unpacking undoes packing: residues come back, and none of them is refused
pub unpack_pack : (k : ℕ) {v : List ℕ} → Residues (2 * k) v → (groups (packed v) ≡ v) × (first_large (groups (packed v)) ≡ 2 * k)
unpack_pack k {v} r =
    let e = groups_packed k v r.long (λ i h. omega (arith, r.low i h)) in
    (e, ap first_large e ∙ none_large r)

-- and takes nothing else: bytes of which no group is refused are packed residues
pub pack_unpack : (k : ℕ) {bs : List ℕ} → length bs ≡ 3 * k → Below 256 bs → first_large (groups bs) ≡ 2 * k
    → Residues (2 * k) (groups bs) × (packed (groups bs) ≡ bs)
pack_unpack k {bs} e bytes none = (residues_of (groups bs) (omega (arith, length_groups bs, e)) none, packed_groups k bs e bytes)

-- the same two of what `unpack` answers: none for packed residues, and nothing else for bytes where it answers none
pub unpack_pack_none : (k : ℕ) {v : List ℕ} → Residues (2 * k) v → (groups (packed v) ≡ v) × (position too_large (groups (packed v)) ≡ None)
unfolding first_large
unpack_pack_none k {v} r =
    let back = unpack_pack k r in
    (back.0, position_nowhere too_large (groups (packed v)) (omega (arith, ap length back.0, r.long, back.1)))

pub pack_unpack_none : (k : ℕ) {bs : List ℕ} → length bs ≡ 3 * k → Below 256 bs → position too_large (groups bs) ≡ None
    → Residues (2 * k) (groups bs) × (packed (groups bs) ≡ bs)
unfolding first_large
pack_unpack_none k {bs} e bytes none =
    pack_unpack k e bytes (position_none too_large (groups bs) none ∙ omega (arith, length_groups bs, e))
