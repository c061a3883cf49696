-- The bytes of a section so far. No clause of a public call cites these words: they say how a builder
-- keeps what it has taken.
use Rattle.std.specs.Prelude.{◌≡◌, ◌≢◌, ℕ, ◌-◌, ◌^◌, ◌<◌, ◌≤◌, nat_lt, nat_le, Bool, true, false, ◌&&◌, ◌||◌, List, ◌++◌, length, take, drop, replicate, slice_index, if◌then◌else◌}
use Rattle.psi_tables.specs.declared.section_front.SectionFront.{SectionFront}
use Rattle.psi_tables.specs.Sections.{length_end, stuffing_byte, is_read, has_bad_length, section_size, found_from}

-- of a section that is passed over only the header's bytes are kept; the others count as 0
abbrev pub front_bytes : SectionFront → List ℕ
front_bytes front = front.section.items ++ replicate front.passed 0

-- a section that is read has a bad length
abbrev pub is_bad : List ℕ → Bool
is_bad bytes = is_read bytes && has_bad_length bytes

-- nothing more belongs to the section: its length is bad, or all its bytes are there
abbrev pub is_settled : List ℕ → Bool
is_settled bytes = nat_le length_end (length bytes) && (is_bad bytes || nat_le (section_size bytes) (length bytes))

-- the bytes that are still to come, as far as its header says
abbrev pub missing_bytes : List ℕ → ℕ
missing_bytes bytes = if nat_lt (length bytes) length_end || is_bad bytes then 0 else section_size bytes - length bytes

-- only a section that is passed over has bytes that aren't kept, and all but its header's are such
pub record IsSound (front : SectionFront) : Type 0 where
  pub kept : length_end < length front.section.items → is_read front.section.items ≡ true
  pub passed : 0 < front.passed → (length_end ≡ length front.section.items) × (is_read front.section.items ≡ false)
  pub size : length front.section.items ≤ 1024
  pub count : front.passed < 2 ^ 12

-- Bytes of a section so far: they don't begin with stuffing, and reach no further than the section.
pub record IsFront (bytes : List ℕ) : Type 0 where
  pub no_stuffing : slice_index bytes 0 ≢ stuffing_byte
  pub within : length bytes ≤ section_size bytes

-- the same section as far as anything is found of it
pub record IsLike (bytes others : List ℕ) : Type 0 where
  pub size : length bytes ≡ length others
  pub header : take length_end bytes ≡ take length_end others
  pub read : is_read others ≡ true → bytes ≡ others

-- n of the bytes go on with a section so far, up to its end
pub record TakesIn (before bytes : List ℕ) (n : ℕ) (now : List ℕ) : Type 0 where
  pub bound : n ≤ length bytes
  pub like : IsLike now (before ++ take n bytes)
  pub all : is_settled now ≡ false → n ≡ length bytes
  pub within : length now ≤ section_size now

-- what a builder holds: a section so far, or a whole one that is read
pub record IsHeld (front : SectionFront) : Type 0 where
  pub sound : IsSound front
  pub front_is : IsFront (front_bytes front)
  pub read : is_settled (front_bytes front) ≡ true → is_read (front_bytes front) ≡ true

-- a section so far, with bytes that go on with it up to the next pointer's place
pub record GoesOn (before bytes : List ℕ) (front : SectionFront) : Type 0 where
  pub held : IsHeld front
  pub same : (next : List ℕ) → found_from 0 before (bytes ++ next) ≡ found_from 0 (front_bytes front) next

-- the next section that begins in bytes, of which n are taken
pub record ReadsOn (bytes : List ℕ) (n : ℕ) (front : SectionFront) : Type 0 where
  pub bound : n ≤ length bytes
  pub held : IsHeld front
  pub all : is_settled (front_bytes front) ≡ false → n ≡ length bytes
  pub same : (next : List ℕ) → found_from 0 bytes next ≡ found_from 0 (front_bytes front ++ drop n bytes) next
