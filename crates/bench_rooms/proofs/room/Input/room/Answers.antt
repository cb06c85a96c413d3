-- Input::room: the bytes that a helper leaves alone are the zeros of the start.
-- Assumes nothing.
use Rattle.std.proofs.Common.{◌≡◌, ◌∙◌, ℕ, zero, suc, [], get_or, replicate, refl, arith}
use Rattle.std.proofs.lemmas.List.{get_or_past}
use Rattle.bench_rooms.proofs.room.Input.room.Goals as goal

-- a list of one number again and again reads it at each place, and past its end as the default
all_alike : (n k x : ℕ) → get_or (replicate n x) k x ≡ x
all_alike zero k x = get_or_past {X = ℕ} [] k x (omega arith)
all_alike (suc n) zero x = refl
all_alike (suc n) (suc k) x = all_alike n k x

pub returns-in-Triples-clause-bytes : goal.returns-in-Triples-clause-bytes
returns-in-Triples-clause-bytes c = rw c.in-Triples.is (c.repeat.ensures.bytes, λ k h. c.repeat.ensures.rest k h ∙ all_alike 3457 k 0)

pub returns-in-Counting-clause-bytes : goal.returns-in-Counting-clause-bytes
returns-in-Counting-clause-bytes c =
    rw c.in-Counting.is (λ k h. c.count_up.ensures.bytes k h (omega arith), λ k h. c.count_up.ensures.rest k h ∙ all_alike 3457 k 0)
