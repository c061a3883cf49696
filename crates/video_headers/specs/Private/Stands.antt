-- What stands next where zero bytes or a start code may stand.
use Rattle.std.specs.Prelude.{◌≡◌, ◌≢◌, ◌<◌, ◌^◌, ◌==◌, ◌&&◌, ℕ, Bool, true, false, List, [], ◌++◌, drop}
use Rattle.shelf_io.specs.declared.source.Source.{Ghosts}
use Rattle.bit_lists.specs.Bits.{IsPrefix, bits_of}
use Rattle.bit_cursor.specs.declared.bit_reader.BitReader.{BitReader}
use Rattle.picture_grammar.specs.StartCode.{start_code_prefix}
use Rattle.video_headers.specs.declared.stands.Stands.{Stands}
use Rattle.video_headers.specs.declared.stands.Stands.TheVariants.{Prefix, Zero, Other, Nothing}
use Rattle.video_headers.specs.Private.Wholes.{Wholes}

-- no prefix, and this byte
abbrev pub BeginsByte : ℕ → List ℕ → Type 0
BeginsByte byte bits = (¬ IsPrefix start_code_prefix bits) × (byte < 2 ^ 8) × (bits ≡ bits_of 8 byte ++ drop 8 bits)

-- what the bits begin with
abbrev pub StandsAt : Stands → List ℕ → Type 0
StandsAt Prefix bits = IsPrefix start_code_prefix bits
StandsAt Zero bits = BeginsByte 0 bits
StandsAt Other bits = (byte : ℕ) × (byte ≢ 0) × BeginsByte byte bits
StandsAt Nothing bits = bits ≡ []

-- a window of 24 bits shows a prefix
abbrev pub shows_prefix : ℕ → ℕ → Bool
shows_prefix window known = known == 24 && window == 1

-- so many bits say so
abbrev pub known_for : Stands → ℕ
known_for Prefix = 24
known_for Zero = 8
known_for Other = 8
known_for Nothing = 0

abbrev pub is_zero : Stands → Bool
is_zero Prefix = false
is_zero Zero = true
is_zero Other = false
is_zero Nothing = false

abbrev pub is_prefix : Stands → Bool
is_prefix Prefix = true
is_prefix Zero = false
is_prefix Other = false
is_prefix Nothing = false

abbrev pub is_nothing : Stands → Bool
is_nothing Prefix = false
is_nothing Zero = false
is_nothing Other = false
is_nothing Nothing = true

-- what is left is whole bytes, which begin so
pub record StandsNext {S : Type 0} {g : Ghosts S} (stands : Stands) (reader : BitReader S g) (end : ℕ) (bits : List ℕ) : Type 0 where
  pub left : Wholes reader end bits
  pub found : StandsAt stands bits
