-- "The set number decides every length, the root and the number of slots".
-- Assumes nothing: these are definitions.
use Rattle.std.specs.Prelude.{cond, ℕ, ◌+◌, ◌*◌, ◌/◌, eqb, Option, Some, None}
use Rattle.answers.specs.declared.Parameters.{Parameters}

-- every length of the table of calls, of the set n whose root is w = 7^step
unfoldable pub parameters_of : ℕ → ℕ → ℕ → Parameters
parameters_of n w step =
    record {
      n = n;
      half = n / 2;
      slots = n;
      root = w;
      step = step;
      seed = n / 2;
      packed = 3 * n / 2;
      private = 3 * n;
      hblock = 32 + n / 4;
      message = n / 8;
      gblock = n / 4;
      key = 32;
    }

-- "| 576 | 49 | 1728 | 576 |", "| 1152 | 7 | 3456 | 1152 |"
unfoldable pub set_of : ℕ → Option Parameters
set_of set = cond (eqb set 576) (Some (parameters_of 576 49 2)) (cond (eqb set 1152) (Some (parameters_of 1152 7 1)) None)

-- what is so of a known set, or what stands in for it
unfoldable pub for_set : {A : Type 0} → Option Parameters → A → (Parameters → A) → A
for_set None other f = other
for_set (Some s) other f = f s
