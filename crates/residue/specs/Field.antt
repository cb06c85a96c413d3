-- The arithmetic of residues. "q = 3457, a prime. A residue is 0..3456." The suffix q says "modulo q".
-- Assumes nothing: these are definitions.
use Rattle.std.specs.Prelude.{ℕ, ◌+◌, ◌*◌, ◌-◌, ◌^◌, ◌%◌}

abbrev pub q : ℕ
q = 3457

-- "one and the generator 7 belong to the residue itself": what `Residue::ONE` and `Residue::GENERATOR` hold
abbrev pub one : ℕ
one = 1

abbrev pub generator : ℕ
generator = 7

-- ---- the six steps

unfoldable pub addq : ℕ → ℕ → ℕ
addq a b = (a + b) % q

-- what, added to a, gives 0
unfoldable pub negq : ℕ → ℕ
negq a = (q - a % q) % q

unfoldable pub subq : ℕ → ℕ → ℕ
subq a b = addq a (negq b)

unfoldable pub mulq : ℕ → ℕ → ℕ
mulq a b = (a * b) % q

-- "anything to the power 0 is 1"
unfoldable pub powq : ℕ → ℕ → ℕ
powq a n = (a ^ n) % q

-- by Fermat, of every residue but 0; "the inverse of 0 is given as 0"
unfoldable pub invq : ℕ → ℕ
invq a = powq a (q - 2)
