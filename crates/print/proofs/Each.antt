-- Lists of which each element has a property: put one after another, and what follows from the property.
-- Assumes nothing.
use mathlib.Core.List.{List, [], ◌∷◌, ◌++◌}

-- each element of the list has the property P
pub data Each {A : Type 0} (P : A → Type 0) : List A → Type 0 where
  none : Each P []
  more : {x : A} {xs : List A} → P x → Each P xs → Each P (x ∷ xs)

-- one list after another
pub each_append : {A : Type 0} {P : A → Type 0} {xs ys : List A} → Each P xs → Each P ys → Each P (xs ++ ys)
each_append none b = b
each_append (more h a) b = more h (each_append a b)

-- what follows from the property
pub each_map : {A : Type 0} {P Q : A → Type 0} {xs : List A} → ((x : A) → P x → Q x) → Each P xs → Each Q xs
each_map f none = none
each_map f (more {x} h a) = more (f x h) (each_map f a)
