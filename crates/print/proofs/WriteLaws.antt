-- The laws of a text written into a buffer: the one by which printing functions compose, and what is stored.
-- Assumes nothing.
use mathlib.Core.Path.{◌≡◌, refl, sym, ap, ap₂, ◌∙◌}
use mathlib.Core.List.{List, [], ◌∷◌, ◌++◌, append_assoc}
use Prim.Native.Nat.{ℕ, ◌+◌, ◌≤◌, ◌<◌}
use native.Mathlib.Nat.{add-zero}
use native.Mathlib.Numerals.{add-one}
use native.Mathlib.Omega.{arith}
use lib.ListN.{length, take, drop, set, length-append, length-drop, take-append-drop}
use lib.Seq.{length-take-le, take_at, drop-drop, drop-append-add, set_split}
use Rattle.print.specs.Write.{write, Writes}

-- ---- the buffer

-- no text changes nothing
pub write_nothing : (l : List ℕ) (at : ℕ) → write l at [] ≡ l
unfolding write
write_nothing l at = ap (λ k. take at l ++ drop k l) (add-zero at) ∙ take-append-drop at l

-- what stands before the end of the text, once it is written
head_long : (l : List ℕ) (at : ℕ) (s : List ℕ) → at ≤ length l → length (take at l ++ s) ≡ at + length s
head_long l at s h = length-append (take at l) s ∙ ap (λ k. k + length s) (length-take-le at l h)

-- a text after a text is the two as one
pub write_write : (l : List ℕ) (at : ℕ) (s t : List ℕ) → at ≤ length l → write (write l at s) (at + length s) t ≡ write l at (s ++ t)
unfolding write
write_write l at s t h =
    ap (λ b. take (at + length s) b ++ (t ++ drop (at + length s + length t) b)) (sym (append_assoc (take at l) s rest))
    ∙ ap₂ (λ a b. a ++ (t ++ b)) (take_at head rest _ long) behind
    ∙ append_assoc (take at l) s _
    ∙ ap (λ b. take at l ++ b) (sym (append_assoc s t _))
  where
    head : List ℕ
    head = take at l ++ s

    rest : List ℕ
    rest = drop (at + length s) l

    long : length head ≡ at + length s
    long = head_long l at s h

    both : at + length s + length t ≡ at + length (s ++ t)
    both = omega (arith, length-append s t)

    behind : drop (at + length s + length t) (head ++ rest) ≡ drop (at + length (s ++ t)) l
    behind =
        ap (λ k. drop (k + length t) (head ++ rest)) (sym long) ∙ drop-append-add head rest (length t)
        ∙ drop-drop (length t) (at + length s) l ∙ ap (λ k. drop k l) both

-- ---- one byte

-- a store writes a text of one byte
write_byte : (l : List ℕ) (at b : ℕ) → at < length l → set l at b ≡ write l at (b ∷ [])
unfolding write
write_byte l at b h = set_split l at b h ∙ ap (λ k. take at l ++ (b ∷ drop k l)) (sym (add-one at))

-- ---- the contract

-- two functions that print, one after the other
pub then_writes : {l s m t n : List ℕ} {at r q : ℕ} → Writes l at s m r → Writes m r t n q → at ≤ length l → Writes l at (s ++ t) n q
then_writes {l} {s} {m} {t} {n} {at} {r} {q} a b h = record {
  content = b.content ∙ ap₂ (λ x k. write x k t) a.content a.end ∙ write_write l at s t h;
  end = omega (arith, a.end, b.end, length-append s t);
}

-- the text and the place after it, said in another way
pub writes_as : {l s m t : List ℕ} {at r q : ℕ} → Writes l at s m r → s ≡ t → r ≡ q → Writes l at t m q
writes_as {l} {s} {m} {t} {at} {r} {q} a e f = record { content = a.content ∙ ap (write l at) e; end = sym f ∙ a.end ∙ ap (λ x. at + length x) e }

-- no text, and the same buffer
pub writes_nothing : (l : List ℕ) (at : ℕ) → Writes l at [] l at
writes_nothing l at = record { content = sym (write_nothing l at); end = sym (add-zero at) }

-- a store
pub writes_byte : (l : List ℕ) (at b : ℕ) → at < length l → Writes l at (b ∷ []) (set l at b) (at + 1)
writes_byte l at b h = record { content = write_byte l at b h; end = refl }

-- what is written lies in the buffer
pub writes_within : (l : List ℕ) (at : ℕ) (s m : List ℕ) (r : ℕ) → at ≤ length l → Writes l at s m r → r ≤ length m
unfolding write
writes_within l at s m r h w =
    omega (arith, w.end, ap length w.content, length-append (take at l) (s ++ drop (at + length s) l), length-append s (drop (at + length s) l), length-take-le at l h)

-- and the buffer keeps its length
pub writes_long : (l : List ℕ) (at : ℕ) (s m : List ℕ) (r : ℕ) → at + length s ≤ length l → Writes l at s m r → length m ≡ length l
unfolding write
writes_long l at s m r h w =
    omega (
      arith,
      ap length w.content,
      length-append (take at l) (s ++ drop (at + length s) l),
      length-append s (drop (at + length s) l),
      length-take-le at l (omega arith),
      length-drop (at + length s) l,
    )
