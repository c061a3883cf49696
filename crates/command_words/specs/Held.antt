-- What a file holds, where files are told.
use Rattle.std.specs.Prelude.{◌≡◌, List, ℕ, Option, Some, IfSome}
use Rattle.std.specs.FinMap.{get}
use Rattle.shelf_io.specs.Files.{Files}

-- where files are told, a file holds this text
abbrev pub HoldsText : Option Files → (name text : List ℕ) → Type 0
HoldsText told name text = IfSome told (λ files. get files name ≡ Some text)
