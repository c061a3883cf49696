-- What a file holds, from the bytes that were read of it.
use Rattle.std.proofs.Common.{◌≡◌, ℕ, ◌+◌, ◌≤◌, List, length, take, Option, Some, None, refl, sym, ap, ◌∙◌, min, arith}
use Rattle.std.proofs.lemmas.List.{length-take, take_all}
use Rattle.std.specs.Option.{IsSomeAnd}
use Rattle.std.specs.FinMap.{get}
use Rattle.shelf_io.specs.Files.{Files, IfTold}
use Rattle.command_words.specs.Held.{HoldsText}

-- a front of at most one byte past the limit is the whole text where it doesn't pass the limit
pub take_all_of : (n : ℕ) (text front : List ℕ) → front ≡ take (n + 1) text → length front ≤ n → front ≡ text
take_all_of n text front is short =
    let size : length front ≡ min (n + 1) (length text) = ap length is ∙ length-take (n + 1) text in
    is ∙ take_all (n + 1) text (omega arith)

-- what was read of a file is the front of what it holds
pub found_text : (told : Option Files) (name front : List ℕ) (n : ℕ) → length front ≤ n → IfTold told name (λ content. front ≡ take n content)
    → (text : List ℕ) × HoldsText told name text × (front ≡ take n text)
found_text None name front n short found = (front, tt, sym (take_all n front short))
found_text (Some files) name front n short found =
    elim (get files name) as (λ got. get files name ≡ got → IsSomeAnd got (λ content. front ≡ take n content)
    → (text : List ℕ) × (get files name ≡ Some text) × (front ≡ take n text)) [
      | None ↦ λ e none. absurd none
      | Some text ↦ λ e same. (text, e, same)
    ] refl found
