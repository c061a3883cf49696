-- What a read at a place gives of the first bytes of a file.
use Rattle.std.proofs.Common.{◌≡◌, ℕ, ◌+◌, ◌-◌, ◌<◌, ◌≤◌, List, [], ◌++◌, Option, None, Some, IfSome, IsSomeAnd, unwrap_or, length, take, drop, min, refl, ap, sym, ◌∙◌, arith, append_assoc}
use Rattle.std.proofs.lemmas.List.{take-take, take-append-drop, drop-take, drop-drop, length-take}
use Rattle.std.specs.FinMap.{get}
use Rattle.shelf_io.specs.Buffer.{CopiesFront}
use Rattle.shelf_io.specs.Files.{Files, IfTold, content_of}
use Rattle.shelf_io.specs.Source.{without_front}
use Rattle.shelf_io.proofs.OneFile.{content_holds, fills_part}
use Rattle.file_pass.specs.FilePass.{left_to}

-- a read of a part of the buffer gives what comes next of a file's first bytes
pub reads_front : (told : Option Files) (name buf room : List ℕ) (limit place size n : ℕ) → size ≡ min (length buf) (limit - place) → n ≤ size
    → IfTold told name (λ content. CopiesFront (drop place content) (take size buf) room n) → IfSome (left_to told name limit place) (λ bytes. CopiesFront bytes buf (room ++ drop size buf) n)
reads_front None name buf room limit place size n is few held = tt
reads_front (Some files) name buf room limit place size n is few held =
    fills_part (drop place (content_of files name)) buf room (room ++ drop size buf) (limit - place) size n is few refl
    (content_holds (λ content. CopiesFront (drop place content) (take size buf) room n) (get files name) held)

later : (content : List ℕ) (m place n : ℕ) → n ≤ m → take (m - n) (drop (place + n) content) ≡ drop n (take m (drop place content))
later content m place n h =
    let parts : m ≡ n + (m - n) = omega arith in
    ap (take (m - n)) (sym (drop-drop n place content)) ∙ sym (drop-take n (m - n) (drop place content)) ∙ ap (λ k. drop n (take k (drop place content))) (sym parts)

-- behind it the others are left
pub left_behind : (told : Option Files) (name : List ℕ) (limit place n : ℕ) → n ≤ limit - place → left_to told name limit (place + n) ≡ without_front (left_to told name limit place) n
left_behind None name limit place n h = refl
left_behind (Some files) name limit place n h =
    let rest : limit - (place + n) ≡ limit - place - n = omega arith in
    ap Some (ap (λ k. take k (drop (place + n) (content_of files name))) rest ∙ later (content_of files name) (limit - place) place n h)
