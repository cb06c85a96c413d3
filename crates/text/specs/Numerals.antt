-- Numbers in text: "The set is a decimal of 1 to 5 digits", "no leading zeros anywhere (index 0 is `0`)".
-- Assumes nothing: these are definitions.
use Rattle.std.specs.Prelude.{Bool, ◌&&◌, ◌||◌, not, cond, List, [], ◌∷◌, ℕ, ◌+◌, ◌-◌, ◌*◌, leb, eqb, length, get_or, Option, Some, None}
use Rattle.std.specs.List.{list_all}

-- 0 to 9
unfoldable pub is_digit : ℕ → Bool
is_digit c = leb 48 c && leb c 57

-- each byte is a digit
abbrev pub all_digits : List ℕ → Bool
all_digits s = list_all is_digit s

-- the number that the digits spell, after those of acc
unfoldable pub spelled : ℕ → List ℕ → ℕ
spelled acc [] = acc
spelled acc (c ∷ s) = spelled (10 * acc + (c - 48)) s

-- "no leading zeros anywhere (index 0 is `0`)"
unfoldable pub unpadded : List ℕ → Bool
unpadded s = eqb (length s) 1 || not (eqb (get_or s 0 0) 48)

-- "a decimal of 1 to 5 digits"
unfoldable pub is_number : List ℕ → Bool
is_number s = leb 1 (length s) && (leb (length s) 5 && (all_digits s && unpadded s))

-- the number that a piece of text is; for index and value too: six digits without a leading zero are above 3456, and not below an n of at most 100000
unfoldable pub number : List ℕ → Option ℕ
number s = cond (is_number s) (Some (spelled 0 s)) None
