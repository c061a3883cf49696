-- Start codes of a list that is the front of another, or its end.
use Rattle.std.proofs.Common.{◌≡◌, ℕ, zero, suc, ◌+◌, ◌-◌, ◌<◌, ◌≤◌, Bool, true, false, List, [], ◌∷◌, ◌++◌, length, get_or, take, drop, Option, Some, nat_lt, eqb, refl, sym, ap, ◌∙◌, inl, inr, arith, min, length-append, length-drop, length-take}
use Rattle.std.specs.Option.{option_map_or}
use Rattle.std.proofs.lemmas.Bool.{cases_lt, lt-ltb, le-ltb, and_left, and_parts, eqb-true}
use Rattle.std.proofs.lemmas.List.{get_or_append_left, get_or-drop, drop_at, drop-append-le, drop-drop, take-append-drop}
use Rattle.es_units.specs.StartCodes.{is_start_code_at, start_code_at, has_code}
use Rattle.es_units.proofs.Codes.{code_stands}

same_test : (a b c d : ℕ) → (a < b → c < d) → (c < d → a < b) → nat_lt a b ≡ nat_lt c d
same_test a b c d there back = elim (cases_lt a b) [
  | inl less ↦ lt-ltb a b less ∙ sym (lt-ltb c d (there less))
  | inr more ↦ elim (cases_lt c d) [
    | inl less ↦ absurd (let bad : a < b = back less in omega arith)
    | inr other ↦ le-ltb a b more ∙ sym (le-ltb c d other)
  ]
]

-- two places with the same bytes, of which as many stand
pub record IsLike (es : List ℕ) (i : ℕ) (fs : List ℕ) (j : ℕ) : Type 0 where
  pub whole : nat_lt (i + 3) (length es) ≡ nat_lt (j + 3) (length fs)
  pub first : get_or es i 0 ≡ get_or fs j 0
  pub second : get_or es (i + 1) 0 ≡ get_or fs (j + 1) 0
  pub third : get_or es (i + 2) 0 ≡ get_or fs (j + 2) 0
  pub fourth : get_or es (i + 3) 0 ≡ get_or fs (j + 3) 0

pub like_is : (es : List ℕ) (i : ℕ) (fs : List ℕ) (j : ℕ) → IsLike es i fs j → is_start_code_at es i ≡ is_start_code_at fs j
like_is es i fs j like = rw (like.whole, like.first, like.second, like.third) refl

pub like_code : (es : List ℕ) (i : ℕ) (fs : List ℕ) (j : ℕ) → IsLike es i fs j → start_code_at es i ≡ start_code_at fs j
like_code es i fs j like = rw (like.whole, like.first, like.second, like.third, like.fourth) refl

-- a place of the front
pub like_front : (es more : List ℕ) (at : ℕ) → at + 3 < length es → IsLike (es ++ more) at es at
like_front es more at within = record {
  whole = same_test (at + 3) (length (es ++ more)) (at + 3) (length es) (λ _. within) (λ _. omega (arith, length-append es more));
  first = get_or_append_left es more 0 at (omega arith);
  second = get_or_append_left es more 0 (at + 1) (omega arith);
  third = get_or_append_left es more 0 (at + 2) (omega arith);
  fourth = get_or_append_left es more 0 (at + 3) within;
}

-- a place of the end, from a place on
pub like_drop : (n : ℕ) (es : List ℕ) (at : ℕ) → IsLike (drop n es) at es (n + at)
like_drop n es at = record {
  whole = same_test (at + 3) (length (drop n es)) (n + at + 3) (length es) (λ less. omega (arith, length-drop n es)) (λ less. omega (arith, length-drop n es));
  first = get_or-drop n es at 0;
  second = get_or-drop n es (at + 1) 0 ∙ ap (λ k. get_or es k 0) (omega arith);
  third = get_or-drop n es (at + 2) 0 ∙ ap (λ k. get_or es k 0) (omega arith);
  fourth = get_or-drop n es (at + 3) 0 ∙ ap (λ k. get_or es k 0) (omega arith);
}

pub front_same : (test : ℕ → Bool) (es more : List ℕ) (at : ℕ) → at + 3 < length es → has_code test (es ++ more) at ≡ has_code test es at
front_same test es more at within = ap (λ (code : Option ℕ). option_map_or test code false) (like_code (es ++ more) at es at (like_front es more at within))

-- ---- with three bytes FF before all

abbrev pub behind_none : List ℕ → List ℕ
behind_none es = 0xFF ∷ 0xFF ∷ 0xFF ∷ es

-- a place behind the first n of them is one of the list
pub joint_is : (es : List ℕ) (n j at : ℕ) → n + j ≡ at + 3 → is_start_code_at (drop n (behind_none es)) j ≡ is_start_code_at es at
joint_is es n j at sum =
    like_is (drop n (behind_none es)) j (behind_none es) (n + j) (like_drop n (behind_none es) j)
    ∙ ap (is_start_code_at (behind_none es)) (let e : n + j ≡ 3 + at = omega arith in e)
    ∙ sym (like_is es at (behind_none es) (3 + at) (like_drop 3 (behind_none es) at))

pub joint_code : (es : List ℕ) (n j at : ℕ) → n + j ≡ at + 3 → start_code_at (drop n (behind_none es)) j ≡ start_code_at es at
joint_code es n j at sum =
    like_code (drop n (behind_none es)) j (behind_none es) (n + j) (like_drop n (behind_none es) j)
    ∙ ap (start_code_at (behind_none es)) (let e : n + j ≡ 3 + at = omega arith in e)
    ∙ sym (like_code es at (behind_none es) (3 + at) (like_drop 3 (behind_none es) at))

-- no start code begins with FF
begins_with : (es : List ℕ) (at : ℕ) → is_start_code_at es at ≡ true → get_or es at 0 ≡ 0
begins_with es at is =
    let rest = (and_parts _ _ is).1 in
    eqb-true (get_or es at 0) 0 (and_parts (eqb (get_or es at 0) 0) _ rest).0

pub joint_place : (es : List ℕ) (n j value : ℕ) → start_code_at (drop n (behind_none es)) j ≡ Some value → 3 ≤ n + j
joint_place es n j value code =
    let stands : is_start_code_at (behind_none es) (n + j) ≡ true =
    sym (like_is (drop n (behind_none es)) j (behind_none es) (n + j) (like_drop n (behind_none es) j)) ∙ (code_stands (drop n (behind_none es)) j value code).0 in
    far (n + j) (begins_with (behind_none es) (n + j) stands)
  where
    none : (k : ℕ) → k < 3 → get_or (behind_none es) k 0 ≡ 255
    none zero low = refl
    none (suc zero) low = refl
    none (suc (suc zero)) low = refl
    none (suc (suc (suc k))) low = absurd (omega arith)

    far : (k : ℕ) → get_or (behind_none es) k 0 ≡ 0 → 3 ≤ k
    far k begins = elim (cases_lt k 3) [
      | inl low ↦ absurd (omega (arith, begins, none k low))
      | inr high ↦ high
    ]

-- ---- the last three bytes

pub tail_more : (es xs : List ℕ) → drop (length (es ++ xs)) (behind_none (es ++ xs)) ≡ drop (length xs) (drop (length es) (behind_none es) ++ xs)
tail_more es xs =
    let inner : drop (length es) (behind_none es ++ xs) ≡ drop (length es) (behind_none es) ++ xs = drop-append-le (length es) (behind_none es) xs (omega arith) in
    ap (λ n. drop n (behind_none (es ++ xs))) (length-append es xs)
    ∙ sym (drop-drop (length xs) (length es) (behind_none es ++ xs)) ∙ ap (drop (length xs)) inner

pub joint_list : (es xs : List ℕ) → drop (length es) (behind_none es) ++ xs ≡ drop (length es) (behind_none (es ++ xs))
joint_list es xs = sym (drop-append-le (length es) (behind_none es) xs (omega arith))

-- ---- the last three bytes and a piece behind them

-- those of them that stand in six places
pub joint_front : (tail piece : List ℕ) (a b c x y z count : ℕ) → length tail ≡ 3 → a ≡ get_or tail 0 0 → b ≡ get_or tail 1 0 → c ≡ get_or tail 2 0
    → x ≡ get_or piece 0 255 → y ≡ get_or piece 1 255 → z ≡ get_or piece 2 255 → count ≡ min (length piece) 3
    → take (3 + count) (a ∷ b ∷ c ∷ x ∷ y ∷ z ∷ []) ≡ take (3 + count) (tail ++ piece)
joint_front [] piece a b c x y z count long ia ib ic ix iy iz is = absurd (omega (arith, long))
joint_front (t ∷ []) piece a b c x y z count long ia ib ic ix iy iz is = absurd (omega (arith, long))
joint_front (t ∷ u ∷ []) piece a b c x y z count long ia ib ic ix iy iz is = absurd (omega (arith, long))
joint_front (t ∷ u ∷ v ∷ w ∷ more) piece a b c x y z count long ia ib ic ix iy iz is = absurd (omega (arith, long))
joint_front (t ∷ u ∷ v ∷ []) piece a b c x y z count long ia ib ic ix iy iz is = rw (ia, ib, ic) (by_piece piece ix iy iz is)
  where
    by_piece : (piece : List ℕ) → x ≡ get_or piece 0 255 → y ≡ get_or piece 1 255 → z ≡ get_or piece 2 255 → count ≡ min (length piece) 3
        → take (3 + count) (t ∷ u ∷ v ∷ x ∷ y ∷ z ∷ []) ≡ take (3 + count) (t ∷ u ∷ v ∷ piece)
    by_piece [] ix iy iz is = let e : count ≡ 0 = is in rw e refl
    by_piece (p ∷ []) ix iy iz is = let e : count ≡ 1 = is in rw (e, ix) refl
    by_piece (p ∷ q ∷ []) ix iy iz is = let e : count ≡ 2 = is in rw (e, ix, iy) refl
    by_piece (p ∷ q ∷ r ∷ more) ix iy iz is = let e : count ≡ 3 = omega (arith, is) in rw (e, ix, iy, iz) refl

-- a place behind them is one of the piece
pub joint_behind : (tail piece : List ℕ) (at : ℕ) → length tail ≡ 3 → 3 ≤ at → is_start_code_at (tail ++ piece) at ≡ is_start_code_at piece (at - 3)
joint_behind tail piece at long le =
    let rest : drop 3 (tail ++ piece) ≡ piece = drop_at tail piece 3 long in
    let place : 3 + (at - 3) ≡ at = omega arith in
    ap (is_start_code_at (tail ++ piece)) (sym place)
    ∙ sym (like_is (drop 3 (tail ++ piece)) (at - 3) (tail ++ piece) (3 + (at - 3)) (like_drop 3 (tail ++ piece) (at - 3)))
    ∙ ap (λ (es : List ℕ). is_start_code_at es (at - 3)) rest

-- a place of one of the first bytes is one of the front, if enough bytes stand behind it
pub joint_none : (tail piece : List ℕ) (count at : ℕ) → length tail ≡ 3 → count ≡ min (length piece) 3 → at < 3
    → is_start_code_at (take (3 + count) (tail ++ piece)) at ≡ false → is_start_code_at (tail ++ piece) at ≡ false
joint_none tail piece count at long is low none =
    let size : length (tail ++ piece) ≡ 3 + length piece = omega (arith, length-append tail piece) in
    elim (cases_lt (at + 3) (length (tail ++ piece))) [
      | inr past ↦ and_left _ _ (le-ltb (at + 3) (length (tail ++ piece)) past)
      | inl within ↦ (
          let front = take (3 + count) (tail ++ piece) in
          let some : at + 3 < length front = omega (arith, length-take (3 + count) (tail ++ piece)) in
          ap (λ (es : List ℕ). is_start_code_at es at) (sym (take-append-drop (3 + count) (tail ++ piece)))
          ∙ like_is (front ++ drop (3 + count) (tail ++ piece)) at front at (like_front front (drop (3 + count) (tail ++ piece)) at some) ∙ none
          )
    ]
