-- Packets of a queue beside the payloads of its PID: what the pairs say of each.
use Rattle.std.proofs.Common.{◌≡◌, ℕ, zero, suc, ◌<◌, ◌≤◌, min, Bool, true, false, if◌then◌else◌, List, [], ◌∷◌, All, length, map, Some, refl, ap, subst, ◌∙◌, arith}
use Rattle.std.specs.Prelude.{slice_get}
use Rattle.std.specs.List.{AllZip}
use Rattle.std.proofs.lemmas.List.Elements.{All-cons, All-nil}
use Rattle.std.proofs.lemmas.Option.{none-some, same_Some}
use Rattle.bit_lists.specs.Payload.{Payload}
use Rattle.pes_units.specs.PesHeader.{header_length}
use Rattle.clean_laws.specs.Arrivals.{header_bytes}

-- what each pair says of its first part, all first parts have
pub zip-all : {A B : Type 0} (R : A → B → Type 0) (P : A → Type 0) → ((x : A) (y : B) → R x y → P x) → (xs : List A) (ys : List B) → AllZip R xs ys → All P xs
zip-all R P each [] [] zip = All-nil P
zip-all R P each [] (y ∷ ys) zip = absurd zip
zip-all R P each (x ∷ xs) [] zip = absurd zip
zip-all R P each (x ∷ xs) (y ∷ ys) zip = All-cons P x xs (each x y zip.0) (zip-all R P each xs ys zip.1)

pub zip-at : {A B : Type 0} (R : A → B → Type 0) (P : A → Type 0) → ((x : A) (y : B) → R x y → P x) → (xs : List A) (ys : List B) → AllZip R xs ys
    → (k : ℕ) (x : A) → slice_get xs k ≡ Some x → P x
zip-at R P each [] ys zip k x there = absurd (none-some x there)
zip-at R P each (a ∷ xs) [] zip k x there = absurd zip
zip-at R P each (a ∷ xs) (b ∷ ys) zip zero x there = subst P (same_Some a x there) (each a b zip.0)
zip-at R P each (a ∷ xs) (b ∷ ys) zip (suc k) x there = zip-at R P each xs ys zip.1 k x there

-- what is found of the first parts are the second parts
pub zip-found : {A B : Type 0} (R : A → B → Type 0) (g : A → B) → ((x : A) (y : B) → R x y → g x ≡ y) → (xs : List A) (ys : List B) → AllZip R xs ys → map g xs ≡ ys
zip-found R g each [] [] zip = refl
zip-found R g each [] (y ∷ ys) zip = absurd zip
zip-found R g each (x ∷ xs) [] zip = absurd zip
zip-found R g each (x ∷ xs) (y ∷ ys) zip = ap (λ (z : _). z ∷ map g xs) (each x y zip.0) ∙ ap (λ (zs : List _). y ∷ zs) (zip-found R g each xs ys zip.1)

-- what is found of each, beside it
pub found-zip : {A B : Type 0} (S : B → A → Type 0) (g : A → B) (xs : List A) → All (λ x. S (g x) x) xs → AllZip S (map g xs) xs
found-zip S g [] all = tt
found-zip S g (x ∷ xs) all = (all 0 x (let e : 0 < suc (length xs) = omega arith in e), found-zip S g xs (λ k d within. all (suc k) d (omega (arith, within))))

-- a PES header is within its payload
within : (b : Bool) (h l : ℕ) → (if b then min h l else 0) ≤ l
within true h l = omega arith
within false h l = omega arith

pub header-within : (payload : Payload) → header_bytes payload ≤ length payload.bytes
header-within payload = within payload.start (header_length payload.bytes) (length payload.bytes)
