-- Whether a place is behind a slice, one place further.
use Rattle.std.proofs.Common.{◌≡◌, ℕ, zero, suc, ◌+◌, ◌-◌, ◌<◌, ◌≤◌, Bool, true, false, not, ◌&&◌, ◌||◌, List, [], ◌∷◌, refl, ap, ◌∙◌, arith}
use Rattle.std.specs.List.{list_any, list_all, range_with_len}
use Rattle.std.proofs.lemmas.List.Folds.{list_all-append, list_any-append}
use Rattle.es_units.specs.StartCodes.{is_start_code_at, is_unit_start, has_code}
use Rattle.stream_constants.specs.SliceCodes.{is_slice}
use Rattle.es_units.specs.Units.{places, is_behind_slice}
use Rattle.es_units.proofs.Codes.{no_code}
use Rattle.es_units.proofs.Places.{places_more, places_none}

distribute : (a b c : Bool) → ((a && c) || (b && c)) ≡ ((a || b) && c)
distribute true true true = refl
distribute true true false = refl
distribute true false true = refl
distribute true false false = refl
distribute false b c = refl

-- a test that also asks for one fact more
any_and : (longer shorter : ℕ → Bool) (more : Bool) (n from : ℕ) → ((k : ℕ) → from ≤ k → k < from + n → longer k ≡ (shorter k && more))
    → list_any longer (range_with_len from n) ≡ (list_any shorter (range_with_len from n) && more)
any_and longer shorter more zero from same = refl
any_and longer shorter more (suc n) from same =
    let here : longer from ≡ (shorter from && more) = same from (omega arith) (omega arith) in
    let rest : list_any longer (range_with_len (from + 1) n)
    ≡ (list_any shorter (range_with_len (from + 1) n) && more) = any_and longer shorter more n (from + 1)
    (λ k b u. same k (omega arith) (omega arith)) in
    rw (here, rest) (distribute (shorter from) (list_any shorter (range_with_len (from + 1) n)) more)

and_true : (a b : Bool) → (a && (b && true)) ≡ (a && b)
and_true true true = refl
and_true true false = refl
and_true false b = refl

and_assoc : (a b c : Bool) → (a && (b && c)) ≡ ((a && b) && c)
and_assoc true b c = refl
and_assoc false b c = refl

or_last : (a b c : Bool) → ((a && b) || ((c && true) || false)) ≡ (c || (a && b))
or_last true true true = refl
or_last true true false = refl
or_last true false true = refl
or_last true false false = refl
or_last false b true = refl
or_last false b false = refl

abbrev no_start : List ℕ → ℕ → Bool
no_start es k = not (has_code is_unit_start es k)

abbrev leads : List ℕ → ℕ → ℕ → Bool
leads es at slice = has_code is_slice es slice && list_all (no_start es) (places (slice + 1) at)

leads-more : (es : List ℕ) (at slice : ℕ) → slice < at → leads es (at + 1) slice ≡ (leads es at slice && no_start es at)
leads-more es at slice lt =
    ap (λ (ks : List ℕ). has_code is_slice es slice && list_all (no_start es) ks) (places_more (slice + 1) at (omega arith))
    ∙ ap (λ (b : Bool). has_code is_slice es slice && b) (list_all-append (no_start es) (places (slice + 1) at) (at ∷ []) ∙ and_true (list_all (no_start es) (places (slice + 1) at)) (no_start es at))
    ∙ and_assoc (has_code is_slice es slice) (list_all (no_start es) (places (slice + 1) at)) (no_start es at)

leads-last : (es : List ℕ) (at : ℕ) → leads es (at + 1) at ≡ (has_code is_slice es at && true)
leads-last es at = ap (λ (ks : List ℕ). has_code is_slice es at && list_all (no_start es) ks) (places_none (at + 1))

-- a slice leads, and a header ends that
pub behind_more : (es : List ℕ) (at : ℕ) → is_behind_slice es (at + 1) ≡ (has_code is_slice es at || (is_behind_slice es at && no_start es at))
behind_more es at =
    ap (list_any (leads es (at + 1))) (places_more 0 at (omega arith))
    ∙ list_any-append (leads es (at + 1)) (places 0 at) (at ∷ [])
    ∙ ap (λ (b : Bool). b || (leads es (at + 1) at || false)) (any_and (leads es (at + 1)) (leads es at) (no_start es at) (at - 0) 0 (λ k b u. leads-more es at k (omega arith)))
    ∙ ap (λ (b : Bool). (is_behind_slice es at && no_start es at) || (b || false)) (leads-last es at)
    ∙ or_last (is_behind_slice es at) (no_start es at) (has_code is_slice es at)

same_over : (es : List ℕ) (n from : ℕ) → ((at : ℕ) → from ≤ at → at < from + n → is_start_code_at es at ≡ false) → is_behind_slice es (from + n) ≡ is_behind_slice es from
same_over es zero from none = ap (is_behind_slice es) (omega arith)
same_over es (suc n) from none =
    let none' : is_start_code_at es (from + n) ≡ false = none (from + n) (omega arith) (omega arith) in
    let next : from + suc n ≡ (from + n) + 1 = omega arith in
    ap (is_behind_slice es) next ∙ behind_more es (from + n)
    ∙ rw (no_code is_slice es (from + n) none', no_code is_unit_start es (from + n) none')
    (and_yes (is_behind_slice es (from + n)) ∙ same_over es n from (λ at b u. none at b (omega arith)))
  where
    and_yes : (a : Bool) → (a && true) ≡ a
    and_yes true = refl
    and_yes false = refl

-- between start codes nothing changes
pub behind_same : (es : List ℕ) (from to : ℕ) → from ≤ to → ((at : ℕ) → from ≤ at → at < to → is_start_code_at es at ≡ false) → is_behind_slice es to ≡ is_behind_slice es from
behind_same es from to le none =
    let sum : to ≡ from + (to - from) = omega arith in
    ap (is_behind_slice es) sum ∙ same_over es (to - from) from (λ at b u. none at b (omega arith))
