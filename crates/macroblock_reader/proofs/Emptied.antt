-- Lists that are emptied one item at a time.
use Rattle.std.proofs.Common.{◌≡◌, ◌≤◌, ◌-◌, List, [], ◌∷◌, length, take, refl, ap, arith}
use Rattle.std.proofs.lemmas.List.{length-take}

pub no-item : {A : Type 0} (xs : List A) → length xs ≡ 0 → xs ≡ []
no-item [] none = refl
no-item (x ∷ xs) none = absurd (omega (arith, none))

-- two items are taken off the end of a list that has no more
pub both-taken : {A : Type 0} (xs ys zs : List A) → length xs ≤ 2 → ys ≡ take (length xs - 1) xs → zs ≡ take (length ys - 1) ys → zs ≡ []
both-taken xs ys zs le one two =
    no-item zs (omega (arith, le, ap length one, length-take (length xs - 1) xs, ap length two, length-take (length ys - 1) ys))
