-- What is read of TABLE.
use Rattle.std.specs.Prelude.{◌≡◌, ℕ, ◌+◌, List, Option, take}
use Rattle.shelf_io.specs.Files.{Files}
use Rattle.version_table.specs.declared.limits.TheConstants.{TABLE_TEXT_MOST}
use Rattle.command_words.specs.Held.{HoldsText}

-- these are the first bytes of a text, up to one past the limit, and a file holds it, where files are told
pub record HoldsFront (told : Option Files) (name front : List ℕ) : Type 0 where
  pub text : List ℕ
  pub held : HoldsText told name text
  pub front_is : front ≡ take (TABLE_TEXT_MOST + 1) text
