-- The laws of printing on a page: no text, a text after a text, the same text said in another way, and the room that is left.
-- Assumes nothing.
use Rattle.std.proofs.Common.{◌≡◌, List, [], ◌++◌, ℕ, ◌≤◌, length, length-append, refl, ap, ◌∙◌, arith}
use Rattle.print.specs.declared.Page.{Page}
use Rattle.print.specs.Page.{Room, Prints}
use Rattle.print.proofs.WriteLaws.{then_writes, writes_as, writes_nothing, writes_long}

module _ {p : Page} where
  -- no text, and the same page
  pub prints_nothing : Prints p [] p
  prints_nothing = record { same = refl; writes = writes_nothing _ _ }

  -- the text said in another way
  pub prints_as : {s t : List ℕ} {m : Page} → Prints p s m → s ≡ t → Prints p t m
  prints_as a e = record { same = a.same; writes = writes_as a.writes e refl }

  -- two texts, one after the other
  pub then_prints : {s t : List ℕ} {m n : Page} → Prints p s m → Prints m t n → Room p (s ++ t) → Prints p (s ++ t) n
  then_prints a b r = record { same = b.same ∙ a.same; writes = then_writes a.writes b.writes (omega (arith, r.fits)) }

  -- ---- room

  -- for the first of two texts
  pub room_first : {s : List ℕ} (t : List ℕ) → Room p (s ++ t) → Room p s
  room_first {s} t r = record { fits = omega (arith, r.fits, length-append s t) }

  -- and, once it is written, for the other
  pub room_next : {s t : List ℕ} {m : Page} → Prints p s m → Room p (s ++ t) → Room m t
  room_next {s} {t} a r =
      let front = room_first t r in
      record { fits = omega (arith, r.fits, length-append s t, a.writes.end, writes_long _ _ _ _ _ front.fits a.writes) }

  -- for a text said in another way, and for a shorter one
  pub room_as : {s t : List ℕ} → Room p s → s ≡ t → Room p t
  room_as r e = record { fits = omega (arith, r.fits, ap length e) }

  pub room_less : {s t : List ℕ} → Room p s → length t ≤ length s → Room p t
  room_less r h = record { fits = omega (arith, r.fits, h) }
