-- What `product_in` owes at each of its exits, and of its rooms, by what its tests have told there.
-- Assumes nothing.
use mathlib.Core.Bool.{Bool, true, false}
use mathlib.Core.List.{List, ◌++◌}
use mathlib.Core.Logic.{◌≢◌}
use mathlib.Core.Path.{◌≡◌, refl, sym, ap, ◌∙◌, subst}
use Prim.Native.Nat.{ℕ, ◌≤◌, ◌<◌}
use native.Mathlib.Omega.{arith}
use lib.ListN.{length, take}
use lib.Seq.{length-take-le, take_at}
use Rattle.std.proofs.Common.{Option, Some, None, Err}
use Rattle.answers.specs.Answers.{Answer, number_of, place_of}
use Rattle.answers.specs.Sets.{set_of}
use Rattle.answers.specs.declared.Parameters.{Parameters}
use Rattle.answers.specs.declared.Refusal.{Refusal}
use Rattle.answers.specs.declared.Refusal.TheVariants.{UnknownSet, WrongLength, TooLarge, ZeroSlot, BadMark, Differs, Malformed}
use Rattle.calls_product.specs.Product.{product_of, Product}
use Rattle.text.specs.Lines.{lf, past}
use Rattle.text.specs.Polynomials.{Reads}
use Rattle.lines.specs.Input.{set_in, polynomial_in}
use Rattle.lines.specs.Names.{a_name, b_name}
use Rattle.lines.specs.Output.{answer_lines, product_lines}
use Rattle.answers.proofs.SetLaws.{IsSet, known_set}
use Rattle.text.proofs.PolynomialLaws.{reads_good, reads_bad}
use Rattle.lines.proofs.InputLaws.{line_residues}
use Rattle.lines.proofs.OutputLaws.{answer_short}
use Rattle.line.specs.Chosen.{Chosen}
use Rattle.line.specs.Read.{Refused, Multiplied}
use Rattle.line.proofs.ChosenLaws.{chosen_small, chosen_product, chosen_room, chosen_long, set_below}
use Rattle.line.proofs.Printed.{printed_long, printed_first, printed_unknown, printed_second, printed_third, printed_more, printed_product}

-- what the tests so far have told, where the second line gave the polynomial a
pub record Second (input : List ℕ) (set n : ℕ) (a : List ℕ) : Type 0 where
  pub choice : Chosen input set n
  pub read : polynomial_in a_name n (past lf input) ≡ Some a

-- and where the third line gave b, with the bytes after it
pub record Third (input : List ℕ) (set n : ℕ) (a b rest : List ℕ) : Type 0 where
  pub one : Second input set n a
  pub read : polynomial_in b_name n (past lf (past lf input)) ≡ Some b
  pub rest_is : rest ≡ past lf (past lf (past lf input))

-- the first places of a room, as many as a known set has numbers
module _ (set : ℕ) {found : Option Parameters} {s : Parameters} (found_is : found ≡ set_of set) (known : found ≡ Some s) (room : List ℕ) (long : 1152 ≡ length room) where
  pub room_for : s.n ≤ length room
  room_for = let is_set : IsSet set s = known_set set s (sym found_is ∙ known) in omega (arith, is_set.small)

  pub part : s.n ≡ length (take s.n room)
  part = sym (length-take-le s.n room room_for)

-- a line's polynomial, where the line is one and where it is none
module _ (name line : List ℕ) {n k : ℕ} (long : n ≡ k) (l : List ℕ) {good : Bool} (read : Reads good l (polynomial_in name k line)) where
  some_read : good ≡ true → polynomial_in name n line ≡ Some l
  some_read e = rw long (reads_good l _ (subst (λ b. Reads b l (polynomial_in name k line)) e read))

  none_read : good ≡ false → polynomial_in name n line ≡ None
  none_read e = rw long (reads_bad l _ (subst (λ b. Reads b l (polynomial_in name k line)) e read))

-- a refusal's number
numbered : (refusal : Refusal) → (1 ≤ number_of (Err refusal)) × (number_of (Err refusal) ≤ 7)
numbered UnknownSet = (omega arith, omega arith)
numbered WrongLength = (omega arith, omega arith)
numbered (TooLarge p) = (omega arith, omega arith)
numbered (ZeroSlot p) = (omega arith, omega arith)
numbered (BadMark p) = (omega arith, omega arith)
numbered Differs = (omega arith, omega arith)
numbered (Malformed p) = (omega arith, omega arith)

-- a refusal's two lines are few bytes
pub refused_short : {input : List ℕ} {refusal : Refusal} → Refused input refusal
    → (place_of (Err refusal) < 100000) × (length (answer_lines (number_of (Err refusal)) (place_of (Err refusal))) ≤ 23)
refused_short {refusal = refusal} r =
    let number = numbered refusal in
    let place : place_of (Err refusal) < 100000 = omega (arith, r.place) in
    (place, answer_short (number_of (Err refusal)) (place_of (Err refusal)) (omega (arith, number)) place)

pub long_input : (input : List ℕ) → 32768 < length input → Refused input (Malformed 0)
long_input input h = record { said = printed_long input h; place = omega arith }

module _ (input : List ℕ) {first : Option ℕ} (short : length input ≤ 32768) (first_is : first ≡ set_in input) where
  pub bad_first : first ≡ None → Refused input (Malformed 1)
  bad_first e = record { said = printed_first input short (sym first_is ∙ e); place = omega arith }

  module _ {set : ℕ} {found : Option Parameters} (named : first ≡ Some set) (found_is : found ≡ set_of set) where
    pub unknown_set : found ≡ None → Refused input UnknownSet
    unknown_set e = record { said = printed_unknown input short set (sym first_is ∙ named) (sym found_is ∙ e); place = omega arith }

    pub chosen : {s : Parameters} → found ≡ Some s → Chosen input set s.n
    chosen {s} known = record { parameters = s; short = short; first = sym first_is ∙ named; known = sym found_is ∙ known; size = refl }

module _ {input : List ℕ} {set n : ℕ} (choice : Chosen input set n) where
  -- a room's first n places
  front : (room : List ℕ) → 1152 ≡ length room → n ≡ length (take n room)
  front room long = sym (length-take-le n room (omega (arith, chosen_small choice)))

  module _ {line : List ℕ} (line_is : line ≡ past lf input) (room : List ℕ) (long : 1152 ≡ length room)
      (a : List ℕ) {good : Bool} (read : Reads good a (polynomial_in a_name (length (take n room)) line)) where
    pub bad_second : good ≡ false → Refused input (Malformed 2)
    bad_second e = record { said = printed_second choice (rw (← line_is) (none_read a_name line (front room long) a read e)); place = omega arith }

    pub second : good ≡ true → Second input set n a
    second e = record { choice = choice; read = rw (← line_is) (some_read a_name line (front room long) a read e) }

module _ {input : List ℕ} {set n : ℕ} {a : List ℕ} (one : Second input set n a) where
  module _ {before line : List ℕ} (before_is : before ≡ past lf input) (line_is : line ≡ past lf before) (room : List ℕ) (long : 1152 ≡ length room)
      (b : List ℕ) {good : Bool} (read : Reads good b (polynomial_in b_name (length (take n room)) line)) where
    pub bad_third : good ≡ false → Refused input (Malformed 3)
    bad_third e = record {
      said = printed_third one.choice a one.read (rw (← before_is, ← line_is) (none_read b_name line (front one.choice room long) b read e));
      place = omega arith;
    }

    pub third : good ≡ true → {rest : List ℕ} → rest ≡ past lf line → Third input set n a b rest
    third e rest_is = record {
      one = one;
      read = rw (← before_is, ← line_is) (some_read b_name line (front one.choice room long) b read e);
      rest_is = rw (← before_is, ← line_is) rest_is;
    }

module _ {input : List ℕ} {set n : ℕ} {a b rest : List ℕ} (both : Third input set n a b rest) where
  pub more : length rest ≢ 0 → Refused input (Malformed 4)
  more e = record {
    said = printed_more both.one.choice a both.one.read b both.read (subst (λ l. length l ≢ 0) both.rest_is e);
    place = omega arith;
  }

  module _ (ended : length rest ≡ 0) (list : List ℕ) (room_is : length list ≡ 1152) (r : Answer) (after : List ℕ) (call : Product set a b (take n list) r after) where
    done : (number_of r ≡ 0) × (place_of r ≡ 0) × (after ≡ product_of set a b)
    done =
        chosen_product both.one.choice a b (line_residues a_name (past lf input) n a both.one.read)
        (line_residues b_name (past lf (past lf input)) n b both.read) (take n list) r after (sym (front both.one.choice list (sym room_is))) call

    -- the call refuses nothing
    pub never : (refusal : Refusal) → r ≡ Err refusal → ⊥
    never refusal e = omega (arith, numbered refusal, subst (λ x. number_of x ≡ 0) e done.0)

    -- what it writes stands in front of the list, which is as long as the set says
    pub multiplied : (behind : List ℕ) → Multiplied input (after ++ behind) set
    multiplied behind =
        let whole : take set (after ++ behind) ≡ after = take_at after behind set (chosen_long both.one.choice a b after done.2) in
        let fits = chosen_room both.one.choice a b after done.2 in
        record {
          said = rw whole (printed_product both.one.choice a both.one.read b both.read (ap length (sym both.rest_is) ∙ ended)
              ∙ ap (product_lines set) (sym done.2));
          small = set_below both.one.choice;
          fits = rw whole fits.1;
        }
