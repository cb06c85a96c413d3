-- The seed block of document 01's bench pair, at n = 576.
-- Assumes nothing: this is a definition.
use Rattle.std.specs.Prelude.{cond, List, ℕ, eqb}
use Rattle.lists.specs.Tab.{tab}

-- "Make, set 576, block of zeros .. With only byte 144 equal to 1"
unfoldable pub bench_seed : List ℕ
bench_seed = tab 288 (λ i. cond (eqb i 144) 1 0)
