-- What a passed test of several lengths says of each of them: of the first, and so of two and of three.
-- Assumes nothing.
use mathlib.Core.Bool.{Bool, true, ◌&&◌}
use mathlib.Core.Path.{◌≡◌}
use Prim.Native.Nat.{ℕ}
use lib.Dec.{eqb}
use borrow.Author.Tests.{eqb-true}
use Rattle.lists.proofs.Every.{both_true}

pub first_length : (a x : ℕ) (others : Bool) → (eqb a x && others) ≡ true → (a ≡ x) × (others ≡ true)
first_length a x others e = let t = both_true (eqb a x) others e in (eqb-true a x t.0, t.1)

pub two_lengths : (a x b y : ℕ) → (eqb a x && eqb b y) ≡ true → (a ≡ x) × (b ≡ y)
two_lengths a x b y e = let t = first_length a x (eqb b y) e in (t.0, eqb-true b y t.1)

pub three_lengths : (a x b y c z : ℕ) → (eqb a x && (eqb b y && eqb c z)) ≡ true → (a ≡ x) × (b ≡ y) × (c ≡ z)
three_lengths a x b y c z e =
    let t = first_length a x (eqb b y && eqb c z) e in
    let u = two_lengths b y c z t.1 in
    (t.0, u.0, u.1)
