-- What a finder has found of a video stream that is given to it in pieces.
use Rattle.std.specs.Prelude.{◌≡◌, ℕ, ◌<◌, ◌==◌, Bool, true, false, List, ◌∷◌, ◌++◌, length, drop, filter, Option, Some, None}
use Rattle.std.specs.Option.{option_to_list}
use Rattle.stream_constants.specs.declared.start_codes.TheConstants.{GROUP}
use Rattle.es_units.specs.declared.picture_finder.PictureFinder.{PictureFinder}
use Rattle.es_units.specs.Pictures.{begins_picture}
use Rattle.es_units.specs.StartCodes.{has_code}
use Rattle.es_units.specs.Units.{places}

-- where the pictures of a stream begin, in order
abbrev pub picture_places : List ℕ → List ℕ
picture_places es = filter (begins_picture es) (places 0 (length es))

-- how many bytes were pushed
abbrev pub bytes_passed : PictureFinder → ℕ
bytes_passed finder = finder.pushed

-- the picture whose start code ends with the last byte pushed, where one does
abbrev pub found_of : PictureFinder → List ℕ
found_of finder = option_to_list finder.found

-- ---- the last group of pictures header

-- one begins at the place
abbrev pub is_group_at : List ℕ → ℕ → Bool
is_group_at es at = has_code (λ value. value == GROUP) es at

-- the last one begins there, or there is none
abbrev pub IsLastGroup : List ℕ → Option ℕ → Type 0
IsLastGroup es None = (at : ℕ) → is_group_at es at ≡ false
IsLastGroup es (Some last) = (is_group_at es last ≡ true) × ((at : ℕ) → last < at → is_group_at es at ≡ false)

-- ---- what it has found

-- A finder was given these bytes, and has found these pictures. Whatever bytes follow, the pictures of the stream begin with these: what is found
-- is final. And they are all of the bytes so far: nothing is kept back.
pub record HasFound (pushed found : List ℕ) (finder : PictureFinder) : Type 0 where
  pub final : (more : List ℕ) → (later : List ℕ) × (picture_places (pushed ++ more) ≡ found ++ later)
  pub all : picture_places pushed ≡ found
  pub count : bytes_passed finder ≡ length pushed
  pub tail : finder.tail ≡ drop (length pushed) (0xFF ∷ 0xFF ∷ 0xFF ∷ pushed)
  pub group : IsLastGroup pushed finder.group
