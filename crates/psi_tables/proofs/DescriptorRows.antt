-- Rows of descriptors, and what is kept of them.
use Rattle.std.proofs.Common.{◌≡◌, ℕ, ◌+◌, ◌%◌, ◌<◌, ◌≤◌, Bool, true, false, cond, List, [], ◌∷◌, ◌++◌, length, get_or, take, refl, sym, ap, ◌∙◌, arith, length-append, length-take}
use Rattle.std.specs.Prelude.{not}
use Rattle.std.specs.List.{filter, concat}
use Rattle.std.proofs.lemmas.List.{append-nil, get_or_append_left, get_or-take}
use Rattle.std.proofs.lemmas.List.Elements.{filter-append}
use Rattle.std.proofs.lemmas.List.Folds.{concat-append}
use Rattle.std.proofs.lemmas.List.Sums.{sum_by-append, count_by-le-length}
use Rattle.psi_tables.specs.Section.{IsItemRow}
use Rattle.psi_tables.specs.Descriptors.{descriptor_length, IsDescriptor, is_kept, kept_bytes, count_dropped}
use Rattle.psi_tables.proofs.Rows.{IsTold, IsUnderWay, under_way_none, under_way_more, under_way_rest}
use Rattle.psi_tables.proofs.Elements.{descriptor_length-is}

-- a descriptor's length stands in its front
descriptor_ends : (f g b d : List ℕ) → f ++ b ≡ g ++ d → length f ≡ 2 + descriptor_length f → length g ≡ 2 + descriptor_length g → length f ≡ length g
descriptor_ends f g b d same first second =
    let left : get_or (f ++ b) 1 0 ≡ get_or f 1 0 = get_or_append_left f b 0 1 (omega (arith, first)) in
    let right : get_or (g ++ d) 1 0 ≡ get_or g 1 0 = get_or_append_left g d 0 1 (omega (arith, second)) in
    omega (arith, first, second, left, right, ap (λ (xs : List ℕ). get_or xs 1 0) same, descriptor_length-is f, descriptor_length-is g)

-- bytes that begin with a descriptor have room for it
pub descriptor_fits : (bytes front behind : List ℕ) → bytes ≡ front ++ behind → IsDescriptor front front → 2 + get_or bytes 1 0 % 256 ≤ length bytes
descriptor_fits bytes front behind same is =
    let second : get_or (front ++ behind) 1 0 ≡ get_or front 1 0 = get_or_append_left front behind 0 1 (omega (arith, is.size)) in
    omega (arith, is.size, second, ap (λ (xs : List ℕ). get_or xs 1 0) same, descriptor_length-is front, ap length same, length-append front behind)

-- and bytes with room for it begin with one
pub is_descriptor : (bytes : List ℕ) (n : ℕ) → n ≡ 2 + get_or bytes 1 0 % 256 → n ≤ length bytes → IsDescriptor (take n bytes) (take n bytes)
is_descriptor bytes n is fits =
    let second : get_or (take n bytes) 1 0 ≡ get_or bytes 1 0 = get_or-take n bytes 1 0 (omega (arith, is)) in
    record { bytes_are = refl; size = omega (arith, is, second, descriptor_length-is (take n bytes), length-take n bytes, fits) }

pub descriptors_told : IsTold IsDescriptor
descriptors_told = record {
  some = λ x front is. omega (arith, is.size);
  ends = λ x y f g b d same first second. descriptor_ends f g b d same first.size second.size;
  one = λ x y front first second. first.bytes_are ∙ sym second.bytes_are;
}

-- ---- what is kept

pub kept_bytes-append : (xs ys : List (List ℕ)) → kept_bytes (xs ++ ys) ≡ kept_bytes xs ++ kept_bytes ys
kept_bytes-append xs ys = ap concat (filter-append is_kept xs ys) ∙ concat-append (filter is_kept xs) (filter is_kept ys)

kept_bytes-one : (kept : Bool) (x : List ℕ) → is_kept x ≡ kept → kept_bytes (x ∷ []) ≡ cond kept x []
kept_bytes-one true x is = ap (λ (b : Bool). concat (cond b (x ∷ []) [])) is ∙ append-nil x
kept_bytes-one false x is = ap (λ (b : Bool). concat (cond b (x ∷ []) [])) is

pub kept_bytes-push : (kept : Bool) (xs : List (List ℕ)) (x : List ℕ) → is_kept x ≡ kept → kept_bytes (xs ++ x ∷ []) ≡ kept_bytes xs ++ cond kept x []
kept_bytes-push kept xs x is = kept_bytes-append xs (x ∷ []) ∙ ap (λ (bytes : List ℕ). kept_bytes xs ++ bytes) (kept_bytes-one kept x is)

pub count_dropped-push : (kept : Bool) (xs : List (List ℕ)) (x : List ℕ) → is_kept x ≡ kept → count_dropped (xs ++ x ∷ []) ≡ count_dropped xs + cond kept 0 1
count_dropped-push kept xs x is =
    sum_by-append (λ d. cond (not (is_kept d)) 1 0) xs (x ∷ []) ∙ ap (λ (n : ℕ). count_dropped xs + n) (one kept is)
  where
    one : (kept : Bool) → is_kept x ≡ kept → 0 + cond (not (is_kept x)) 1 0 ≡ cond kept 0 1
    one true is = rw is refl
    one false is = rw is refl

-- ---- the loop over descriptors

-- so far: what was taken is kept or counted, and the count is below the bytes taken
pub record HasRead (bytes rest kept : List ℕ) (dropped : ℕ) : Type 0 where
  pub done : List (List ℕ)
  pub under_way : IsUnderWay IsDescriptor bytes rest done
  pub kept_is : kept ≡ kept_bytes done
  pub dropped_is : dropped ≡ count_dropped done
  pub room : length kept ≤ 183
  pub few : dropped + length rest ≤ length bytes

pub read_none : (bytes : List ℕ) → HasRead bytes bytes [] 0
read_none bytes = record { done = []; under_way = under_way_none IsDescriptor bytes; kept_is = refl; dropped_is = refl; room = omega arith; few = omega arith }

pub read_kept : (bytes rest kept more : List ℕ) (dropped : ℕ) (front behind : List ℕ) → HasRead bytes rest kept dropped → rest ≡ front ++ behind
    → IsDescriptor front front → is_kept front ≡ true → more ≡ kept ++ front → length kept + length front ≤ 183 → HasRead bytes behind more dropped
read_kept bytes rest kept more dropped front behind read split is keeps more_is room = record {
  done = read.done ++ front ∷ [];
  under_way = under_way_more IsDescriptor bytes rest read.done front front behind read.under_way split is;
  kept_is = more_is ∙ ap (λ (xs : List ℕ). xs ++ front) read.kept_is ∙ sym (kept_bytes-push true read.done front keeps);
  dropped_is = omega (arith, read.dropped_is, count_dropped-push true read.done front keeps);
  room = omega (arith, room, ap length more_is, length-append kept front);
  few = omega (arith, read.few, ap length split, length-append front behind);
}

pub read_dropped : (bytes rest kept : List ℕ) (dropped : ℕ) (front behind : List ℕ) → HasRead bytes rest kept dropped → rest ≡ front ++ behind
    → IsDescriptor front front → is_kept front ≡ false → HasRead bytes behind kept (dropped + 1)
read_dropped bytes rest kept dropped front behind read split is drops = record {
  done = read.done ++ front ∷ [];
  under_way = under_way_more IsDescriptor bytes rest read.done front front behind read.under_way split is;
  kept_is = read.kept_is ∙ sym (append-nil (kept_bytes read.done)) ∙ sym (kept_bytes-push false read.done front drops);
  dropped_is = omega (arith, read.dropped_is, count_dropped-push false read.done front drops);
  room = read.room;
  few = omega (arith, read.few, ap length split, length-append front behind, is.size);
}

-- the rest of a row begins with a descriptor, where there is a rest
pub next_descriptor : (bytes rest : List ℕ) (done xs : List (List ℕ)) → IsUnderWay IsDescriptor bytes rest done → IsItemRow IsDescriptor xs bytes
    → 0 < length rest → (front : List ℕ) × (behind : List ℕ) × (rest ≡ front ++ behind) × IsDescriptor front front × (ys : List (List ℕ))
    × (xs ≡ done ++ front ∷ ys)
next_descriptor bytes rest done xs is row more = by_rest (under_way_rest IsDescriptor descriptors_told bytes rest done xs is row)
  where
    by_rest : (ys : List (List ℕ)) × (xs ≡ done ++ ys) × IsItemRow IsDescriptor ys rest → (front : List ℕ) × (behind : List ℕ)
        × (rest ≡ front ++ behind) × IsDescriptor front front × (ys : List (List ℕ)) × (xs ≡ done ++ front ∷ ys)
    by_rest ([], same, none) = absurd (omega (arith, more, ap length none))
    by_rest (y ∷ ys, same, found) =
        let y_is : y ≡ found.0 = found.3.bytes_are in
        (found.0, found.1, found.2, record { bytes_are = refl; size = found.3.size }, ys, same ∙ ap (λ (z : List ℕ). done ++ z ∷ ys) y_is)

-- a kept descriptor in a row takes its room
pub kept_at_least : (done : List (List ℕ)) (front : List ℕ) (ys : List (List ℕ)) → is_kept front ≡ true → length (kept_bytes done) + length front ≤ length (kept_bytes (done ++ front ∷ ys))
kept_at_least done front ys keeps =
    let one : kept_bytes (front ∷ ys) ≡ front ++ kept_bytes ys = ap (λ (b : Bool). concat (cond b (front ∷ filter is_kept ys) (filter is_kept ys))) keeps in
    omega (arith, ap length (kept_bytes-append done (front ∷ ys)), length-append (kept_bytes done) (kept_bytes (front ∷ ys)), ap length one, length-append front (kept_bytes ys))

-- fewer descriptors than bytes
pub count_dropped-row : (xs : List (List ℕ)) (bytes : List ℕ) → IsItemRow IsDescriptor xs bytes → count_dropped xs ≤ length bytes
count_dropped-row xs bytes row = omega (arith, count_by-le-length (λ d. not (is_kept d)) xs, length-row xs bytes row)
  where
    length-row : (xs : List (List ℕ)) (bytes : List ℕ) → IsItemRow IsDescriptor xs bytes → length xs ≤ length bytes
    length-row [] bytes row = omega arith
    length-row (x ∷ xs) bytes row = omega (arith, length-row xs row.1 row.4, row.3.size, ap length row.2, length-append row.0 row.1)
