-- A pair made here, and one sealing with it: calls that met their promises, whatever their output buffers held before.
-- Assumes nothing: these are definitions.
use Rattle.std.specs.Prelude.{List, ◌≡◌, ℕ, ◌/◌, ℤ}
use Rattle.encoding.specs.Encoding.{encoded}
use Rattle.answers.specs.Answers.{Answer}
use Rattle.answers.specs.Answers.{number_of}
use Rattle.stages.specs.Making.{small_f, small_g}
use Rattle.stages.specs.Sealing.{small_r}
use Rattle.agreement.specs.Opened.{opened}
use Rattle.calls_make.specs.Make.{Make}
use Rattle.calls_seal.specs.Seal.{Seal}

-- "a pair made here": make answered 0 on the seed block and wrote the keys
pub record Made (set : ℕ) (seed public private : List ℕ) : Type 0 where
  pub public₀ : List ℕ
  pub private₀ : List ℕ
  pub answer : Answer
  pub call : Make set seed public₀ private₀ answer public private
  pub done : number_of answer ≡ 0

-- "one sealing with it": seal answered 0 and wrote the ciphertext and the key
pub record Sealed (set : ℕ) (public message hblock gblock cipher key : List ℕ) : Type 0 where
  pub cipher₀ : List ℕ
  pub key₀ : List ℕ
  pub answer : Answer
  pub call : Seal set public message hblock gblock cipher₀ key₀ answer cipher key
  pub done : number_of answer ≡ 0

-- "Work out 3(g'r + mf') + m over whole numbers, folded but never reduced by 3457."
unfoldable pub worked_out : (set : ℕ) (seed message hblock gblock : List ℕ) → List ℤ
worked_out set seed message hblock gblock = opened (set / 2) (small_f seed) (small_g seed) (small_r hblock) (encoded message gblock)
