-- A lent buffer with a place: what a method that prints needs, and what it owes.
-- Assumes nothing: these are definitions.
use Rattle.std.specs.Prelude.{◌≡◌, List, ℕ, ◌+◌, ◌≤◌, length}
use Rattle.print.specs.declared.Page.{Page}
use Rattle.print.specs.Write.{Writes}

-- there is room for the text
pub record Room (page : Page) (text : List ℕ) : Type 0 where
  pub fits : page.at + length text ≤ length page.out.now

-- the text is written into the same buffer
pub record Prints (before : Page) (text : List ℕ) (after : Page) : Type 0 where
  pub same : after.out.ghost_name ≡ before.out.ghost_name
  pub writes : Writes before.out.now before.at text after.out.now after.at
