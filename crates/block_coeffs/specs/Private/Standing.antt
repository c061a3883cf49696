-- What is found at the front of a window, where a coefficient or the end of block must stand (ISO/IEC 13818-2, 6.2.6).
use Rattle.std.specs.Prelude.{◌≡◌, Option, IfSome, ◌≤◌, ◌+◌, ◌<◌, ℕ, ℤ, List, [], take, drop}
use Rattle.prefix_codes.specs.declared.table_name.TableName.{TableName}
use Rattle.syntax_types.specs.declared.block.TheConstants.{BLOCK_PLACES}
use Rattle.syntax_types.specs.declared.block.RunLevel.{RunLevel}
use Rattle.picture_grammar.specs.Refusal.Refusal.{NoCode}
use Rattle.picture_grammar.specs.Grammar.{Grammar, ◌>>=◌, Next}
use Rattle.picture_grammar.specs.Grammar.Next.{more, last}
use Rattle.picture_grammar.specs.Element.{element}
use Rattle.picture_grammar.specs.Block.{CoefficientCode, after_code}
use Rattle.grammar_reading.specs.declared.window.BitWindow.{BitWindow}
use Rattle.grammar_reading.specs.Window.{seen, ShowsFront}
use Rattle.block_coeffs.specs.declared.standing.Standing.{Standing}
use Rattle.block_coeffs.specs.declared.standing.Standing.TheVariants.{EndOfBlock, Pair, Refused}
use Rattle.block_coeffs.specs.Private.ShortCodes.{run_of, level_of, length_of}
use Rattle.block_coeffs.specs.Private.Why.{rules_at, refusal_of}

-- a coefficient or the end of block at a place, by a table
abbrev pub coefficient_at : TableName → ℕ → Grammar (Next RunLevel (Unit {0}))
coefficient_at table place = element (CoefficientCode table) NoCode (rules_at place) >>= after_code

-- a coefficient of this run and level stands at the front of a window, in so many bits
abbrev pub IsPair : TableName → ℕ → BitWindow → ℕ → ℤ → ℕ → Type 0
IsPair table place window run level len =
    (len ≤ window.known) × (place + run < BLOCK_PLACES) × (coefficient_at table place).Spells (more (record { run = run; level = level })) (seen window len) []

-- what is found there stands there, and a refusal is that of all bits that the window shows
abbrev pub IsFound : TableName → ℕ → BitWindow → Standing → Type 0
IsFound table place window (EndOfBlock len) =
    (len ≤ window.known) × (coefficient_at table place).Spells (last tt) (seen window len) []
IsFound table place window (Pair word next) =
    (next ≡ place + run_of word + 1) × IsPair table place window (run_of word) (level_of word) (length_of word)
IsFound table place window (Refused why behind) =
    (behind ≤ window.known) × ((bits : List ℕ) → ShowsFront window bits → (coefficient_at table place).Refuses bits (refusal_of why) (drop behind bits))

-- the bits begin with those that the window knows
abbrev pub ShowsKnown : BitWindow → List ℕ → Type 0
ShowsKnown window bits = take window.known bits ≡ seen window window.known

-- they show what stands there: a refusal is seen only in a whole window or in all bits
abbrev pub ShowsFor : Standing → BitWindow → List ℕ → Type 0
ShowsFor (EndOfBlock len) window = ShowsKnown window
ShowsFor (Pair word next) window = ShowsKnown window
ShowsFor (Refused why behind) window = ShowsFront window

-- what is found at the next bits, of which so many are held, by a window of held ones that shows it
pub record StandsNext (table : TableName) (place : ℕ) (told : Option (List ℕ)) (held : ℕ) (standing : Standing) : Type 0 where
  pub window : BitWindow
  pub known : window.known ≤ held
  pub shows : IfSome told (ShowsFor standing window)
  pub found : IsFound table place window standing
