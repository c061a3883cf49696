-- The ids of elements, each once: one element further, and the streams among them.
use Rattle.std.proofs.Common.{◌≡◌, ℕ, ◌+◌, ◌<◌, ◌≤◌, ◌==◌, Bool, true, false, cond, ◌||◌, List, [], ◌∷◌, ◌++◌, drop, get_or, length, slice_get, Some, None, refl, sym, ap, ◌∙◌, subst, append-nil, append_assoc}
use Rattle.std.proofs.lemmas.List.{at_drop_more}
use Rattle.std.proofs.Math.ListN.{drop_of_length-le}
use Rattle.std.specs.List.{filter, find}
use Rattle.ts_demux.specs.Streams.{is_among}
use Rattle.program_stream.specs.Elements.{Element}
use Rattle.program_stream.specs.Streams.{ids_of, first_coming}
use Rattle.program_stream.specs.Private.Walks.{with_id}
use Rattle.program_stream.proofs.Packets.{same_number, not_true, ids_of-more, first_coming-id, filter-more}

-- ---- one element further

pub ids_with : (elements : List Element) (element : Element) (ids after : List ℕ) → ids ≡ first_coming [] (ids_of elements) → after ≡ with_id ids element.id
    → after ≡ first_coming [] (ids_of (elements ++ element ∷ []))
ids_with elements element ids after are is =
    is ∙ ap (λ (xs : List ℕ). with_id xs element.id) are ∙ sym (first_coming-id (ids_of elements) element.id) ∙ ap (first_coming []) (sym (ids_of-more elements element))

-- ---- those that pass a test

-- an id that passes is among those that do where it is there
among_filtered : (p : ℕ → Bool) (ids : List ℕ) (x : ℕ) → p x ≡ true → is_among (filter p ids) x ≡ is_among ids x
among_filtered p [] x passes = refl
among_filtered p (y ∷ ids) x passes = by_test (among_filtered p ids x passes) (p y) refl
  where
    by_test : is_among (filter p ids) x ≡ is_among ids x → (is : Bool) → p y ≡ is → is_among (cond is (y ∷ filter p ids) (filter p ids)) x ≡ is_among (y ∷ ids) x
    by_test others true is = ap (λ (b : Bool). (y == x) || b) others
    by_test others false is =
        let other : (y == x) ≡ false = not_true (y == x) (λ same. (let one : y ≡ x = same_number y x same in let both : p x ≡ false = subst (λ (n : ℕ). p n ≡ false) one is in absurd cc)) in
        others ∙ ap (λ (b : Bool). b || is_among ids x) (sym other)

-- of ids in order of first coming they are those that pass, in that order
pub filter_first : (p : ℕ → Bool) (before ids : List ℕ) → filter p (first_coming before ids) ≡ first_coming (filter p before) (filter p ids)
filter_first p before [] = refl
filter_first p before (y ∷ ids) = by_test (filter_first p before ids) (filter_first p (before ++ y ∷ []) ids) (is_among before y) refl (p y) refl
  where
    by_test : filter p (first_coming before ids) ≡ first_coming (filter p before) (filter p ids) →
        filter p (first_coming (before ++ y ∷ []) ids) ≡ first_coming (filter p (before ++ y ∷ [])) (filter p ids) → (there : Bool) → is_among before y ≡ there → (is : Bool) → p y ≡ is →
        filter p (cond there (first_coming before ids) (y ∷ first_coming (before ++ y ∷ []) ids)) ≡ first_coming (filter p before) (cond is (y ∷ filter p ids) (filter p ids))
    by_test same longer true among true is =
        same ∙ ap (λ (b : Bool). cond b (first_coming (filter p before) (filter p ids)) (y ∷ first_coming (filter p before ++ y ∷ []) (filter p ids))) (sym (among_filtered p before y is ∙ among))
    by_test same longer true among false is = same
    by_test same longer false among true is =
        ap (λ (b : Bool). cond b (y ∷ filter p (first_coming (before ++ y ∷ []) ids)) (filter p (first_coming (before ++ y ∷ []) ids))) is
        ∙ ap (λ (xs : List ℕ). y ∷ xs) (longer ∙ ap (λ (xs : List ℕ). first_coming xs (filter p ids)) (filter-more p before y true is))
        ∙ ap (λ (b : Bool). cond b (first_coming (filter p before) (filter p ids)) (y ∷ first_coming (filter p before ++ y ∷ []) (filter p ids))) (sym (among_filtered p before y is ∙ among))
    by_test same longer false among false is =
        ap (λ (b : Bool). cond b (y ∷ filter p (first_coming (before ++ y ∷ []) ids)) (filter p (first_coming (before ++ y ∷ []) ids))) is
        ∙ longer ∙ ap (λ (xs : List ℕ). first_coming xs (filter p ids)) (filter-more p before y false is ∙ append-nil (filter p before))

find_filtered : (p : ℕ → Bool) (ids : List ℕ) → find p ids ≡ slice_get (filter p ids) 0
find_filtered p [] = refl
find_filtered p (y ∷ ids) = by_test (find_filtered p ids) (p y)
  where
    by_test : find p ids ≡ slice_get (filter p ids) 0 → (is : Bool) → cond is (Some y) (find p ids) ≡ slice_get (cond is (y ∷ filter p ids) (filter p ids)) 0
    by_test others true = refl
    by_test others false = others

first_there : (ids : List ℕ) → slice_get (first_coming [] ids) 0 ≡ slice_get ids 0
first_there [] = refl
first_there (y ∷ ids) = refl

-- the first one that passes is the first one that came
pub find_first : (p : ℕ → Bool) (ids : List ℕ) → find p (first_coming [] ids) ≡ find p ids
find_first p ids =
    find_filtered p (first_coming [] ids) ∙ ap (λ (xs : List ℕ). slice_get xs 0) (filter_first p [] ids) ∙ first_there (filter p ids) ∙ sym (find_filtered p ids)

-- ---- one id further

pub filter_next : (p : ℕ → Bool) (done after all ids : List ℕ) (i : ℕ) (wanted : Bool) → i < length ids → wanted ≡ p (get_or ids i 0) → after ≡ done ++ cond wanted (get_or ids i 0 ∷ []) []
    → done ++ filter p (drop i ids) ≡ all → after ++ filter p (drop (i + 1) ids) ≡ all
filter_next p done after all ids i wanted within passes is before =
    let x = get_or ids i 0 in
    let rest = filter p (drop (i + 1) ids) in
    ap (λ (xs : List ℕ). xs ++ rest) is ∙ append_assoc done (cond wanted (x ∷ []) []) rest ∙ ap (λ (xs : List ℕ). done ++ xs) (either x wanted rest)
    ∙ ap (λ (b : Bool). done ++ cond b (x ∷ rest) rest) passes ∙ sym (ap (λ (xs : List ℕ). done ++ xs) (at_drop_more (filter p) ids i 0 within)) ∙ before
  where
    either : (x : ℕ) (b : Bool) (rest : List ℕ) → cond b (x ∷ []) [] ++ rest ≡ cond b (x ∷ rest) rest
    either x true rest = refl
    either x false rest = refl

pub filter_end : (p : ℕ → Bool) (done all ids : List ℕ) (i : ℕ) → length ids ≤ i → done ++ filter p (drop i ids) ≡ all → done ≡ all
filter_end p done all ids i past before =
    sym (append-nil done) ∙ ap (λ (xs : List ℕ). done ++ filter p xs) (sym (drop_of_length-le ids past)) ∙ before

pub find_next : (p : ℕ → Bool) (ids : List ℕ) (i : ℕ) (is : Bool) → i < length ids → is ≡ p (get_or ids i 0) → find p ids ≡ find p (drop i ids)
    → find p ids ≡ cond is (Some (get_or ids i 0)) (find p (drop (i + 1) ids))
find_next p ids i is within passes before =
    before ∙ at_drop_more (find p) ids i 0 within ∙ ap (λ (b : Bool). cond b (Some (get_or ids i 0)) (find p (drop (i + 1) ids))) (sym passes)

pub find_end : (p : ℕ → Bool) (ids : List ℕ) (i : ℕ) → length ids ≤ i → find p ids ≡ find p (drop i ids) → find p ids ≡ None
find_end p ids i past before = before ∙ ap (find p) (drop_of_length-le ids past)
