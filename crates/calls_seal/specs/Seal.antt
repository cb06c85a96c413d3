-- The call `seal`: "public key, message n/8, H block, G block n/4", "ciphertext 3n/2, key 32".
-- Assumes nothing: these are definitions.
use Rattle.std.specs.Prelude.{◌&&◌, List, [], ◌∷◌, ◌≡◌, ℕ, eqb, length}
use Rattle.packing.specs.Packing.{groups}
use Rattle.answers.specs.Answers.{Answer}
use Rattle.answers.specs.Replies.{Reply, reply, leaves, Outcome}
use Rattle.answers.specs.Sets.{set_of, for_set}
use Rattle.answers.specs.Tests.{in_order, in_range}
use Rattle.stages.specs.Sealing.{key_bytes, ciphertext}

-- 1, 2, 3 or 0, in that order
unfoldable pub seal_reply : ℕ → List ℕ → List ℕ → List ℕ → List ℕ → ℕ → ℕ → Reply
seal_reply set public message hblock gblock cipher key =
    in_order set
    (λ s. eqb (length public) s.packed && (eqb (length message) s.message
    && (eqb (length hblock) s.hblock && (eqb (length gblock) s.gblock && (eqb cipher s.packed && eqb key s.key)))))
    (λ s. in_range (groups public ∷ []) (reply 0 0))

-- "packed image of h*r + m"
unfoldable pub cipher_of : ℕ → List ℕ → List ℕ → List ℕ → List ℕ → List ℕ
cipher_of set public message hblock gblock = for_set (set_of set) [] (λ s. ciphertext s.half s.root public message hblock gblock)

-- the promise of `seal`: r is answered, and the buffers that held `cipher` and `key` hold `cipher'` and `key'`; "key = the 32 key bytes"
unfoldable pub Seal : ℕ → List ℕ → List ℕ → List ℕ → List ℕ → List ℕ → List ℕ → Answer → List ℕ → List ℕ → Type 0
Seal set public message hblock gblock cipher key r cipher' key' =
    Outcome (seal_reply set public message hblock gblock (length cipher) (length key)) r
    (λ R. (cipher' ≡ leaves R (cipher_of set public message hblock gblock) cipher) × (key' ≡ leaves R (key_bytes hblock) key))
