-- The filling of a buffer by a loop, by places or by a part a turn: the invariant, its start, its turns and its end.
-- Assumes nothing.
use mathlib.Core.Path.{◌≡◌, refl, sym, ap, ◌∙◌, subst}
use mathlib.Core.List.{List, ◌++◌}
use Prim.Native.Nat.{ℕ, ◌+◌, ◌-◌, ◌≤◌, ◌<◌}
use native.Mathlib.Decide.{ℕ_discrete, dec_lt}
use native.Mathlib.Nat.{add-sub_of_le}
use native.Mathlib.Omega.{arith}
use lib.ListN.{length, get_or, set, take, length-set, get_or-append}
use lib.Seq.{length-take-le, get_or-set_same, get_or-set_other, get_or-take, get_or-append-add}
use borrow.Rule.Slice.PartMut.{put_mid, same_len_mid, mid_len}
use Rattle.lists.specs.Tab.{tab}
use Rattle.lists.proofs.TabLaws.{length_tab, get_or_tab, tab_of}
use Rattle.lists.proofs.Parts.{take_put}

-- at a loop's head: the buffer l has n places, and the first i of them hold f 0, .., f (i - 1)
pub record Fill (f : ℕ → ℕ) (n : ℕ) (l : List ℕ) (i : ℕ) : Type 0 where
  pub upto : i ≤ n
  pub long : length l ≡ n
  pub done : (k : ℕ) → k < i → get_or l k 0 ≡ f k

-- nothing is filled at the start
pub fill_start : (f : ℕ → ℕ) {n : ℕ} {l : List ℕ} → length l ≡ n → Fill f n l 0
fill_start f e = record { upto = omega arith; long = e; done = λ k h. absurd (omega arith) }

-- a turn stores f i at i
pub fill_turn : {f : ℕ → ℕ} {n : ℕ} {l : List ℕ} {i : ℕ} → Fill f n l i → (v : ℕ) → i < n → v ≡ f i → Fill f n (set l i v) (i + 1)
fill_turn {f} {n} {l} {i} r v h e =
    record { upto = omega arith; long = length-set l i v ∙ r.long; done = λ k b. by k b (ℕ_discrete k i) }
  where
    by : (k : ℕ) → k < i + 1 → Dec (k ≡ i) → get_or (set l i v) k 0 ≡ f k
    by k b (yes p) = rw p (get_or-set_same l i v 0 (omega (arith, r.long)) ∙ e)
    by k b (no p) = get_or-set_other l i k v 0 p ∙ r.done k (omega arith)

-- how many are filled, written in another way: for a turn that stores several
pub fill_as : {f : ℕ → ℕ} {n : ℕ} {l : List ℕ} {i : ℕ} → Fill f n l i → (j : ℕ) → i ≡ j → Fill f n l j
fill_as {f} {n} {l} r j e = subst (Fill f n l) e r

-- a turn lends the places from i to e, and they come back as f i, .., f (e - 1)
pub fill_part : {f : ℕ → ℕ} {n : ℕ} {l : List ℕ} {i : ℕ} → Fill f n l i → (e : ℕ) (part : List ℕ) → i ≤ e → e ≤ n
    → part ≡ tab (e - i) (λ j. f (i + j)) → Fill f n (put_mid i (e - i) l part) e
fill_part {f} {n} {l} {i} r e part h b p =
    record { upto = b; long = same_len_mid i (e - i) l part (size ∙ sym (mid_len i e l room)) ∙ r.long; done = λ k u. front k u ∙ by k u (dec_lt k i) }
  where
    room : e ≤ length l
    room = omega (arith, r.long)

    size : length part ≡ e - i
    size = ap length p ∙ length_tab (e - i) (λ j. f (i + j))

    front : (k : ℕ) → k < e → get_or (put_mid i (e - i) l part) k 0 ≡ get_or (take i l ++ part) k 0
    front k u = sym (get_or-take e (put_mid i (e - i) l part) k 0 u) ∙ ap (λ xs. get_or xs k 0) (take_put l part i e h room size)

    shorter : length (take i l) ≡ i
    shorter = length-take-le i l (omega arith)

    by : (k : ℕ) → k < e → Dec (k < i) → get_or (take i l ++ part) k 0 ≡ f k
    by k u (yes g) = get_or-append (take i l) part 0 k (omega (arith, shorter)) ∙ get_or-take i l k 0 g ∙ r.done k g
    by k u (no g) =
        let e : k ≡ length (take i l) + (k - i) = omega (arith, shorter) in
        ap (λ m. get_or (take i l ++ part) m 0) e ∙ get_or-append-add (take i l) part (k - i) 0
        ∙ ap (λ xs. get_or xs (k - i) 0) p ∙ get_or_tab _ (λ j. f (i + j)) (k - i) 0 (omega arith) ∙ ap f (add-sub_of_le {n = k} {m = i} (omega arith))

-- when n places are filled, the buffer is the table
pub fill_end : {f : ℕ → ℕ} {n : ℕ} {l : List ℕ} {i : ℕ} → Fill f n l i → n ≤ i → l ≡ tab n f
fill_end {f} {n} {l} r h = tab_of 0 n f l r.long (λ k b. r.done k (omega arith))

-- a buffer filled with the elements of a list is the list
pub fill_list : (xs : List ℕ) {n : ℕ} {l : List ℕ} {i : ℕ} → Fill (λ j. get_or xs j 0) n l i → n ≤ i → length xs ≡ n → l ≡ xs
fill_list xs {n} r h e = fill_end r h ∙ sym (tab_of 0 n (λ j. get_or xs j 0) xs e (λ j b. refl))
