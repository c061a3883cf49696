-- Files that a shelf tells, over calls that leave them, or write one of them.
use Rattle.std.proofs.Common.{◌≡◌, ◌⊎◌, ◌≤◌, ℕ, List, length, take, Option, Some, None, refl, subst, inl, inr}
use Rattle.std.specs.FinMap.{insert}
use Rattle.shelf_io.specs.Files.{Files, with_content}
use Rattle.shelf_io.specs.WholeFile.{HoldsPrefix}
use Rattle.command_words.specs.Outside.{OnFiles}

-- a call that left the files
pub on_same : (old new : Option Files) (P : Files → Files → Type 0) → new ≡ old → ((held : Files) → old ≡ Some held → P held held) → OnFiles old new P
on_same None new P same each = tt
on_same (Some held) None P same each = cc
on_same (Some held) (Some after) P same each =
    let one : held ≡ after = cc in
    subst (λ (files : Files). P held files) one (each held refl)

-- a call that made these bytes the content of a file
pub on_content : (old new : Option Files) (name bytes : List ℕ) (P : Files → Files → Type 0) → new ≡ with_content old name bytes
    → ((held : Files) → old ≡ Some held → P held (insert held name bytes)) → OnFiles old new P
on_content None new name bytes P is each = tt
on_content (Some held) None name bytes P is each = cc
on_content (Some held) (Some after) name bytes P is each =
    let one : insert held name bytes ≡ after = cc in
    subst (λ (files : Files). P held files) one (each held refl)

-- a file is as it was, or holds a front of these bytes, and every other file stays
abbrev pub HoldsPart : (name bytes : List ℕ) → (held after : Files) → Type 0
HoldsPart name bytes held after = (after ≡ held) ⊎ ((k : ℕ) × (k ≤ length bytes) × (after ≡ insert held name (take k bytes)))

-- a call that wrote a front of some bytes
pub on_prefix : (old new : Option Files) (name bytes : List ℕ) (P : Files → Files → Type 0) → HoldsPrefix old new name bytes
    → ((held after : Files) → old ≡ Some held → HoldsPart name bytes held after → P held after) → OnFiles old new P
on_prefix None new name bytes P holds each = tt
on_prefix (Some held) None name bytes P (inl same) each = cc
on_prefix (Some held) None name bytes P (inr more) each = let is = more.2 in cc
on_prefix (Some held) (Some after) name bytes P (inl same) each = each held after refl (inl (cc))
on_prefix (Some held) (Some after) name bytes P (inr more) each = let is = more.2 in each held after refl (inr (more.0, more.1, cc))

-- what holds of told files, and of those after them
pub on_told : (old new : Option Files) (files : Files) (P : Files → Files → Type 0) → OnFiles old new P → old ≡ Some files → (after : Files) × P files after
on_told None new files P holds told = cc
on_told (Some held) None files P holds told = absurd holds
on_told (Some held) (Some after) files P holds told =
    let one : held ≡ files = cc in
    (after, subst (λ (f : Files). P f after) one holds)

-- what follows of told files
pub on_then : (old new : Option Files) (P Q : Files → Files → Type 0) → OnFiles old new P → ((held after : Files) → P held after → Q held after) → OnFiles old new Q
on_then None new P Q holds each = tt
on_then (Some held) None P Q holds each = absurd holds
on_then (Some held) (Some after) P Q holds each = each held after holds
