-- What stands behind the head or behind a slice.
use Rattle.std.specs.Prelude.{◌≡◌, ◌≢◌, ◌⊎◌, ◌+◌, ◌<◌, ◌≤◌, ℕ, List, [], ◌∷◌, ◌++◌, length, drop, replicate, Bool, true, false}
use Rattle.bit_lists.specs.Fields.{AreBytes, bit_list}
use Rattle.syntax_types.specs.declared.picture.PicCoding.{PicCoding}
use Rattle.syntax_types.specs.declared.picture.SeqState.{SeqState}
use Rattle.syntax_types.specs.declared.slice.Slice.{Slice}
use Rattle.picture_grammar.specs.Refusal.{Refusal}
use Rattle.picture_grammar.specs.Grammar.Next.{more, last}
use Rattle.stream_constants.specs.SliceCodes.{is_slice}
use Rattle.picture_grammar.specs.Picture.{whole_slice, next_slice}
use Rattle.picture_reader.specs.UnitCursor.{bits_from, SliceComes}
use Rattle.picture_reader.specs.declared.part.Part.{Part}
use Rattle.picture_reader.specs.declared.part.Part.TheVariants as part
use Rattle.picture_reader.specs.declared.part.Seen.{Seen}
use Rattle.picture_reader.specs.declared.part.Seen.TheVariants as seen

-- behind so many zero bytes the bytes from a place on go on at another place
pub record ZerosTo (unit : List ℕ) (at end : ℕ) : Type 0 where
  pub count : ℕ
  pub place : at + count ≡ end
  pub within : end ≤ length unit
  pub split : drop at unit ≡ replicate count 0 ++ drop end unit

-- zero bytes, then these bytes at a place
pub record StandsAt (unit : List ℕ) (at place : ℕ) (bytes : List ℕ) : Type 0 where
  pub count : ℕ
  pub place_is : at + count ≡ place
  pub split : drop at unit ≡ replicate count 0 ++ bytes
  pub are : AreBytes bytes
  pub ends : place + length bytes ≡ length unit

-- a byte that is neither zero nor the one of a start code prefix
pub record ByteStands (unit : List ℕ) (at place : ℕ) : Type 0 where
  pub byte : ℕ
  pub rest : List ℕ
  pub stands : StandsAt unit at place (byte ∷ rest)
  pub some : byte ≢ 0
  pub other : (byte ≢ 1) ⊎ (place < at + 2)

-- what is seen behind zero bytes from a place on
abbrev pub IsSeen : List ℕ → ℕ → Seen → Type 0
IsSeen unit at seen.End = (count : ℕ) × (drop at unit ≡ replicate count 0)
IsSeen unit at (seen.Byte place) = ByteStands unit at place
IsSeen unit at (seen.Cut place) = StandsAt unit at place (0 ∷ 0 ∷ 1 ∷ [])
IsSeen unit at (seen.Code place code) = StandsAt unit at place (0 ∷ 0 ∷ 1 ∷ code ∷ drop (place + 4) unit)

-- its place lies within the unit
abbrev pub IsSeenWithin : List ℕ → Seen → Type 0
IsSeenWithin unit seen.End = Unit {0}
IsSeenWithin unit (seen.Byte place) = place ≤ length unit
IsSeenWithin unit (seen.Cut place) = place ≤ length unit
IsSeenWithin unit (seen.Code place code) = place + 4 ≤ length unit

-- a part that comes at a place of a unit
abbrev pub PartRead : SeqState → PicCoding → List Slice → Part → List ℕ → ℕ → Type 0
PartRead seq coding before (part.Slice code behind) unit at = SliceComes seq coding before code (bits_from unit at) (bits_from unit behind)
PartRead seq coding before (part.End sequence_end) unit at = (next_slice seq coding before).Spells (last sequence_end) (bits_from unit at) []

-- it lies within the unit, behind the place
abbrev pub IsWithin : Part → List ℕ → ℕ → Type 0
IsWithin (part.Slice code behind) unit at = (at < behind) × (behind ≤ length unit) × (is_slice code ≡ true)
IsWithin (part.End sequence_end) unit at = Unit {0}
