-- Files as a shelf tells them.
use Rattle.std.specs.Prelude.{◌≡◌, ℕ, List, [], ◌++◌, Option, Some, None, IfSome, IsSomeAnd, unwrap_or}
use Rattle.std.specs.Coded.{Coded, coded_ℕ, coded_list}
use Rattle.std.specs.Option.{option_map}
use Rattle.std.specs.Ordering.{nat_cmp}
use Rattle.std.specs.Cmp.Lexicographic.{slice_cmp}
use Rattle.std.specs.FinMap.{FinMap, code, get, insert}

-- contents by the bytes of the files' names
abbrev pub Files : Type 0
Files = FinMap (slice_cmp nat_cmp) (List ℕ)

-- by this code a proof tells files apart
abbrev pub files_code : Coded Files
files_code = code (coded_list coded_ℕ) (coded_list coded_ℕ)

-- where files are told, the file is held and P holds of its content
abbrev pub IfTold : Option Files → List ℕ → (List ℕ → Type 0) → Type 0
IfTold told name P = IfSome told (λ files. IsSomeAnd (get files name) P)

-- where files are told, the name isn't held
abbrev pub Lacks : Option Files → List ℕ → Type 0
Lacks told name = IfSome told (λ files. get files name ≡ None)

-- one of two, the first where no files are told
abbrev pub where_untold : {A : Type 0} → Option Files → A → A → A
where_untold None untold told = untold
where_untold (Some files) untold told = told

-- the bytes of a file; one that isn't held counts as empty
abbrev pub content_of : Files → List ℕ → List ℕ
content_of files name = unwrap_or (get files name) []

-- what a shelf tells after a file got this content, and every other file stayed
abbrev pub with_content : Option Files → List ℕ → List ℕ → Option Files
with_content told name content = option_map (λ files. insert files name content) told

-- what a shelf tells after these bytes were added to the end of a file, and every other file stayed
abbrev pub with_more : Option Files → List ℕ → List ℕ → Option Files
with_more told name bytes = option_map (λ files. insert files name (content_of files name ++ bytes)) told
