-- A file that is started and then written to its end.
use Rattle.std.proofs.Common.{◌≡◌, ℕ, List, [], ◌++◌, Option, None, Some, Result, Ok, Err, OnOk, OnErr, take, refl, ap, ◌∙◌, inr}
use Rattle.std.specs.Cmp.{eq_by_cmp_equiv}
use Rattle.std.specs.Cmp.Lexicographic.{nat_list_cmp_total}
use Rattle.std.specs.FinMap.{insert, get-insert}
use Rattle.shelf_io.specs.declared.writing.Writing.{Writing}
use Rattle.shelf_io.specs.Counts.{ShelfCounts}
use Rattle.shelf_io.specs.Files.{Files, with_content, with_more}
use Rattle.shelf_io.specs.Sink.{with_bytes, AddsPrefix}
use Rattle.shelf_io.specs.WholeFile.{HoldsPrefix}
use Rattle.shelf_io.specs.Writing.{written_to, FileIsHeld, KeepsOthers}
use Rattle.shelf_io.proofs.OneFile.{found, writing_adds}
use Rattle.shelf_io.proofs.Whole.{insert_twice, content_of-insert}

-- a file that was started is held
FileIsHeld-with_content : (told : Option Files) (name content : List ℕ) → FileIsHeld (with_content told name content) name
FileIsHeld-with_content None name content = tt
FileIsHeld-with_content (Some files) name content = found _ _ _ _ (get-insert nat_list_cmp_total files name content name) ((eq_by_cmp_equiv nat_list_cmp_total).refl name)

-- bytes added to a file that was started are its content
with_more-started : (told : Option Files) (name bytes : List ℕ) → with_more (with_content told name []) name bytes ≡ with_content told name bytes
with_more-started None name bytes = refl
with_more-started (Some files) name bytes = ap Some (insert_twice files name [] _ ∙ ap (λ c. insert files name (c ++ bytes)) (content_of-insert files name []))

module _ {K : Type 0} (files : K → Option Files) (counts : K → ShelfCounts) (asked : K → List ℕ → ℕ) (old new : Writing K) (told last : Option Files)
    (name : List ℕ) (named : old.name.now ≡ name) (started : files old.shelf.now ≡ with_content told name [])
    (keeps : KeepsOthers files counts asked old new) (back : last ≡ files new.shelf.now) where
  wrote : (bytes : List ℕ) → written_to (files new.shelf.now) new.name.now ≡ with_bytes (written_to (files old.shelf.now) old.name.now) bytes → last ≡ with_content told name bytes
  wrote bytes written =
      back ∙ writing_adds files counts asked old new name bytes named keeps (rw started (FileIsHeld-with_content told name [])) written
      ∙ ap (λ t. with_more t name bytes) started ∙ with_more-started told name bytes

  -- what was written whole is the content
  pub wrote_whole : {T E : Type 0} (r : Result T E) (bytes : List ℕ)
      → OnOk r (written_to (files new.shelf.now) new.name.now ≡ with_bytes (written_to (files old.shelf.now) old.name.now) bytes)
      → OnOk r (last ≡ with_content told name bytes)
  wrote_whole (Ok x) bytes written = wrote bytes written
  wrote_whole (Err e) bytes written = tt

  -- and else a prefix is
  pub wrote_part : {T E : Type 0} (r : Result T E) (bytes : List ℕ)
      → OnErr r (AddsPrefix (written_to (files old.shelf.now) old.name.now) (written_to (files new.shelf.now) new.name.now) bytes)
      → OnErr r (HoldsPrefix told last name bytes)
  wrote_part (Ok x) bytes adds = tt
  wrote_part (Err e) bytes adds = inr (adds.0, adds.1, wrote (take adds.0 bytes) adds.2)
