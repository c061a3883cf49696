-- What a loop has written of the first items of a list, and of one more.
use Rattle.std.proofs.Common.{◌≡◌, ℕ, ◌+◌, ◌<◌, List, [], ◌∷◌, ◌++◌, length, get_or, map, take, sym, ap, ◌∙◌, append_assoc}
use Rattle.std.specs.List.{flat_map}
use Rattle.std.proofs.lemmas.List.{flat_map_more, map_more, take_more}
use Rattle.std.proofs.lemmas.List.Concat.{flat_map-append}

-- each item is written as a part
pub parts_more : {X Y : Type 0} (text : Y → List ℕ) (part : X → Y) (xs : List X) (i : ℕ) (x d : X) (old out new : List ℕ) → i < length xs → x ≡ get_or xs i d
    → out ≡ old ++ flat_map text (map part (take i xs)) → new ≡ out ++ text (part x) → new ≡ old ++ flat_map text (map part (take (i + 1) xs))
parts_more text part xs i x d old out new within is out_is new_is =
    new_is ∙ ap (λ (t : List ℕ). t ++ text (part x)) out_is
    ∙ flat_map_more text old (map part (take i xs)) (part x)
    ∙ ap (λ ys. old ++ flat_map text ys) (ap (λ y. map part (take i xs) ++ part y ∷ []) is ∙ sym (map_more part xs i d within))

-- each item is written as several parts
pub lists_more : {X Y : Type 0} (text : Y → List ℕ) (parts : X → List Y) (xs : List X) (i : ℕ) (x d : X) (old out new : List ℕ) → i < length xs → x ≡ get_or xs i d
    → out ≡ old ++ flat_map text (flat_map parts (take i xs)) → new ≡ out ++ flat_map text (parts x) → new ≡ old ++ flat_map text (flat_map parts (take (i + 1) xs))
lists_more text parts xs i x d old out new within is out_is new_is =
    let front = take i xs in
    let more : flat_map parts front ++ parts x ≡ flat_map parts (take (i + 1) xs) =
    flat_map_more parts [] front x ∙ ap (λ y. flat_map parts (front ++ y ∷ [])) is ∙ ap (flat_map parts) (sym (take_more xs i d within)) in
    new_is ∙ ap (λ (t : List ℕ). t ++ flat_map text (parts x)) out_is
    ∙ append_assoc old (flat_map text (flat_map parts front)) (flat_map text (parts x))
    ∙ ap (λ (t : List ℕ). old ++ t) (sym (flat_map-append text (flat_map parts front) (parts x)) ∙ ap (flat_map text) more)
