-- What is found from bytes, by what is known of the section at their head.
use Rattle.std.proofs.Common.{
  ◌≡◌,
  ℕ,
  zero,
  suc,
  ◌+◌,
  ◌-◌,
  ◌<◌,
  ◌≤◌,
  ◌≢◌,
  Bool,
  true,
  false,
  cond,
  eqb,
  List,
  [],
  ◌∷◌,
  ◌++◌,
  length,
  take,
  Err,
  refl,
  sym,
  ap,
  ◌∙◌,
  append_assoc,
  arith,
  length-append,
  ◌⊎◌,
  inl,
  inr,
  ⊎_elim,
}
use Rattle.std.specs.Prelude.{nat_lt, nat_le, not, ◌&&◌, ◌||◌}
use Rattle.std.proofs.lemmas.List.{append-nil, take-append-le, take_all}
use Rattle.std.proofs.lemmas.Bool.{cases_lt, ne_eqb, leb-true, leb-false, ltb-false, lt-ltb, le-ltb, le-leb}
use Rattle.psi_tables.specs.declared.section.SectionFault.{SectionFault}
use Rattle.psi_tables.specs.declared.section.SectionFault.TheVariants.{BadSection}
use Rattle.psi_tables.specs.Section.{section_length}
use Rattle.psi_tables.specs.Sections.{Found, is_read, has_bad_length, section_size, checked, found_at, found_from, until_error}
use Rattle.psi_tables.specs.Private.SectionFront.{is_bad, is_settled, IsLike}
use Rattle.psi_tables.proofs.Headers.{table_id-append, section_length-append, table_id-same, section_length-same}

-- ---- tests as truth values

-- what is found, by the tests
abbrev pick : Bool → Bool → Bool → Bool → List Found → List Found
pick short read bad more whole = cond (short || not read) [] (cond bad (Err BadSection ∷ []) (cond more [] whole))

pick-same : (short other_short read bad more other_more : Bool) (whole other_whole : List Found) → short ≡ false → other_short ≡ false
    → (read ≡ true → bad ≡ false → (more ≡ other_more) × (whole ≡ other_whole))
    → pick short read bad more whole ≡ pick other_short read bad other_more other_whole
pick-same true other_short read bad more other_more whole other_whole a b h = cc
pick-same false true read bad more other_more whole other_whole a b h = cc
pick-same false false false bad more other_more whole other_whole a b h = refl
pick-same false false true true more other_more whole other_whole a b h = refl
pick-same false false true false more other_more whole other_whole a b h = let same = h refl refl in cc

pick-none : (short read bad more : Bool) (whole : List Found) → (short ≡ false → read ≡ true → (bad ≡ false) × (more ≡ true)) → pick short read bad more whole ≡ []
pick-none true read bad more whole h = refl
pick-none false false bad more whole h = refl
pick-none false true bad more whole h = let known = h refl refl in rw (known.0, known.1) refl

-- ---- one section

pub is_read-append : (a x : List ℕ) → 3 ≤ length a → is_read (a ++ x) ≡ is_read a
is_read-append a x whole = ap (λ (id : ℕ). eqb id 0 || eqb id 2) (table_id-append a x whole)

pub section_size-append : (a x : List ℕ) → 3 ≤ length a → section_size (a ++ x) ≡ section_size a
section_size-append a x whole = ap (λ (n : ℕ). 3 + n) (section_length-append a x whole)

has_bad_length-append : (a x : List ℕ) → 3 ≤ length a → has_bad_length (a ++ x) ≡ has_bad_length a
has_bad_length-append a x whole = ap (λ (n : ℕ). nat_lt n 9 || nat_lt 1021 n) (section_length-append a x whole)

pub is_bad-append : (a x : List ℕ) → 3 ≤ length a → is_bad (a ++ x) ≡ is_bad a
is_bad-append a x whole =
    ap (λ (read : Bool). read && has_bad_length (a ++ x)) (is_read-append a x whole) ∙ ap (λ (bad : Bool). is_read a && bad) (has_bad_length-append a x whole)

-- a settled section has its header
pub settled-header : (a : List ℕ) → is_settled a ≡ true → 3 ≤ length a
settled-header a settled = leb-true 3 (length a) (and-left _ _ settled)
  where
    and-left : (x y : Bool) → x && y ≡ true → x ≡ true
    and-left true y is = refl
    and-left false y is = is

and-right : (x y : Bool) → x && y ≡ true → y ≡ true
and-right true y is = is
and-right false y is = cc

or-right : (x y : Bool) → x || y ≡ true → x ≡ false → y ≡ true
or-right true y is none = cc
or-right false y is none = is

-- where its length isn't bad, all its bytes are there
pub settled-size : (a : List ℕ) → is_settled a ≡ true → is_bad a ≡ false → section_size a ≤ length a
settled-size a settled good = leb-true (section_size a) (length a) (or-right (is_bad a) _ (and-right _ _ settled) good)

-- what isn't settled has a header and is shorter than the section, or has none
pub unsettled-size : (a : List ℕ) → is_settled a ≡ false → length a < section_size a
unsettled-size a unsettled = by_tests (nat_le 3 (length a)) (is_bad a) (nat_le (section_size a) (length a)) unsettled (λ is. leb-false 3 (length a) is) (λ is. leb-false (section_size a) (length a) is)
  where
    by_tests : (header bad whole : Bool) → header && (bad || whole) ≡ false → (header ≡ false → length a < 3) → (whole ≡ false → length a < section_size a) → length a < section_size a
    by_tests false bad whole is short more = omega (arith, short refl)
    by_tests true true whole is short more = cc
    by_tests true false whole is short more = more is

pub unsettled-good : (a : List ℕ) → is_settled a ≡ false → 3 ≤ length a → is_bad a ≡ false
unsettled-good a unsettled header = by_tests (nat_le 3 (length a)) (is_bad a) _ unsettled (le-leb 3 (length a) header)
  where
    by_tests : (header bad whole : Bool) → header && (bad || whole) ≡ false → header ≡ true → bad ≡ false
    by_tests false bad whole is there = cc
    by_tests true true whole is there = is
    by_tests true false whole is there = refl

bad-length : (read bad : Bool) → read && bad ≡ false → read ≡ true → bad ≡ false
bad-length true bad is there = is
bad-length false bad is there = cc

-- nothing is found of what isn't settled
pub found_at-unsettled : (a : List ℕ) → is_settled a ≡ false → found_at a ≡ []
found_at-unsettled a unsettled =
    pick-none (nat_lt (length a) 3) (is_read a) (has_bad_length a) (nat_lt (length a) (section_size a)) _
    (λ header read. (bad-length (is_read a) (has_bad_length a) (unsettled-good a unsettled (ltb-false (length a) 3 header)) read, lt-ltb (length a) (section_size a) (unsettled-size a unsettled)))

-- nor of a section that is passed over
pub found_at-passed : (a : List ℕ) → is_read a ≡ false → found_at a ≡ []
found_at-passed a passed = pick-none (nat_lt (length a) 3) (is_read a) (has_bad_length a) (nat_lt (length a) (section_size a)) _ (λ header read. absurd (false_true (sym passed ∙ read)))
  where
    false_true : false ≡ true → ⊥
    false_true is = cc

-- bytes behind a settled section don't change what is found of it
pub found_at-append : (a x : List ℕ) → is_settled a ≡ true → found_at (a ++ x) ≡ found_at a
found_at-append a x settled =
    let header : 3 ≤ length a = settled-header a settled in
    let longer : 3 ≤ length (a ++ x) = omega (arith, length-append a x) in
    let whole : is_read a ≡ true → has_bad_length a ≡ false → section_size a ≤ length a = λ read good.
    settled-size a settled (ap (λ (r : Bool). r && has_bad_length a) read ∙ good) in
    let tests : is_read a ≡ true → has_bad_length a ≡ false → (nat_lt (length (a ++ x)) (section_size a) ≡ nat_lt (length a) (section_size a))
    × (checked (take (section_size a) (a ++ x)) ∷ [] ≡ checked (take (section_size a) a) ∷ []) = λ read good.
    let fits : section_size a ≤ length a = whole read good in (
      le-ltb (length (a ++ x)) (section_size a) (omega (arith, length-append a x))
          ∙ sym (le-ltb (length a) (section_size a) fits),
      ap (λ (s : List ℕ). checked s ∷ []) (take-append-le (section_size a) a x fits),
    ) in
    let renamed : found_at (a ++ x) ≡ pick (nat_lt (length (a ++ x)) 3) (is_read a) (has_bad_length a) (nat_lt (length (a ++ x)) (section_size a)) (checked (take (section_size a) (a ++ x)) ∷ []) =
    rw (table_id-append a x header, section_length-append a x header) refl in
    renamed ∙ pick-same (nat_lt (length (a ++ x)) 3) (nat_lt (length a) 3) (is_read a) (has_bad_length a) _ _ _ _ (le-ltb (length (a ++ x)) 3 longer) (le-ltb (length a) 3 header) tests

-- ---- one section behind the other

-- nothing begins in bytes that belong to a section before
pub found_from-none : (n : ℕ) (own next : List ℕ) → length own ≤ n → found_from n own next ≡ []
found_from-none n [] next within = refl
found_from-none zero (byte ∷ own) next within = absurd (omega arith)
found_from-none (suc n) (byte ∷ own) next within = found_from-none n own next (omega arith)

-- bytes of a section before are passed over
pub found_from-behind : (n m : ℕ) (s own next : List ℕ) → n ≡ length s + m → found_from n (s ++ own) next ≡ found_from m own next
found_from-behind n m [] own next is = ap (λ (k : ℕ). found_from k own next) (omega (arith, is))
found_from-behind zero m (byte ∷ s) own next is = absurd (omega arith)
found_from-behind (suc n) m (byte ∷ s) own next is = found_from-behind n m s own next (omega arith)

-- ---- what is held of one section

-- bytes behind it leave what is held of a section within it
within-append : (a x : List ℕ) → length a ≤ section_size a → length a ≤ section_size (a ++ x)
within-append a x within = ⊎_elim (λ short. omega (arith, short)) (λ header. omega (arith, within, section_size-append a x header)) (cases_lt (length a) 3)

-- one section alone, whatever goes on with it
pub found_from-one : (byte : ℕ) (us next : List ℕ) → byte ≢ 255 → length (byte ∷ us) ≤ section_size (byte ∷ us) → found_from 0 (byte ∷ us) next ≡ found_at (byte ∷ us ++ next)
found_from-one byte us next no_stuffing within =
    let n : ℕ = section_size (byte ∷ us ++ next) - 1 in
    let none : found_from n us next ≡ [] = found_from-none n us next (omega (arith, within-append (byte ∷ us) next within)) in
    ap (λ (stuffing : Bool). cond stuffing [] (found_at (byte ∷ us ++ next) ++ found_from n us next)) (ne_eqb byte 255 no_stuffing)
    ∙ ap (λ (found : List Found). found_at (byte ∷ us ++ next) ++ found) none ∙ append-nil (found_at (byte ∷ us ++ next))

-- a whole section and the bytes behind it
pub found_from-whole : (byte : ℕ) (us behind next : List ℕ) → byte ≢ 255 → is_settled (byte ∷ us) ≡ true
    → length (byte ∷ us) ≡ section_size (byte ∷ us) → found_from 0 (byte ∷ us ++ behind) next ≡ found_at (byte ∷ us) ++ found_from 0 behind next
found_from-whole byte us behind next no_stuffing settled whole =
    let joined : byte ∷ us ++ behind ++ next ≡ byte ∷ us ++ (behind ++ next) = append_assoc (byte ∷ us) behind next in
    let n : ℕ = section_size (byte ∷ us ++ behind ++ next) - 1 in
    let same_size : section_size (byte ∷ us ++ behind ++ next) ≡ section_size (byte ∷ us) = ap section_size joined
    ∙ section_size-append (byte ∷ us) (behind ++ next) (settled-header (byte ∷ us) settled) in
    let first : found_at (byte ∷ us ++ behind ++ next) ≡ found_at (byte ∷ us) = ap found_at joined ∙ found_at-append (byte ∷ us) (behind ++ next) settled in
    let others : found_from n (us ++ behind) next ≡ found_from 0 behind next = found_from-behind n 0 us behind next (omega (arith, same_size, whole)) in
    ap (λ (stuffing : Bool). cond stuffing [] (found_at (byte ∷ us ++ behind ++ next) ++ found_from n (us ++ behind) next))
    (ne_eqb byte 255 no_stuffing) ∙ ap (λ (found : List Found). found ++ found_from n (us ++ behind) next) first
    ∙ ap (λ (found : List Found). found_at (byte ∷ us) ++ found) others

-- an error at the head ends it
pub found_from-error : (byte : ℕ) (us behind next : List ℕ) (fault : SectionFault) → byte ≢ 255 → is_settled (byte ∷ us) ≡ true
    → found_at (byte ∷ us) ≡ Err fault ∷ [] → until_error (found_from 0 (byte ∷ us ++ behind) next) ≡ Err fault ∷ []
found_from-error byte us behind next fault no_stuffing settled error =
    let joined : byte ∷ us ++ behind ++ next ≡ byte ∷ us ++ (behind ++ next) = append_assoc (byte ∷ us) behind next in
    let n : ℕ = section_size (byte ∷ us ++ behind ++ next) - 1 in
    let first : found_at (byte ∷ us ++ behind ++ next) ≡ Err fault ∷ [] = ap found_at joined ∙ found_at-append (byte ∷ us) (behind ++ next) settled ∙ error in
    ap (λ (stuffing : Bool). until_error (cond stuffing [] (found_at (byte ∷ us ++ behind ++ next) ++ found_from n (us ++ behind) next)))
    (ne_eqb byte 255 no_stuffing) ∙ ap (λ (found : List Found). until_error (found ++ found_from n (us ++ behind) next)) first

-- ---- the same section

like-short : (a b : List ℕ) → IsLike a b → length b < 3 → a ≡ b
like-short a b like short = sym (take_all 3 a (omega (arith, like.size, short))) ∙ like.header ∙ take_all 3 b (omega (arith, short))

is_read-like : (a b : List ℕ) → IsLike a b → is_read a ≡ is_read b
is_read-like a b like = ap (λ (id : ℕ). eqb id 0 || eqb id 2) (table_id-same a b like.header)

has_bad_length-like : (a b : List ℕ) → IsLike a b → has_bad_length a ≡ has_bad_length b
has_bad_length-like a b like = ap (λ (n : ℕ). nat_lt n 9 || nat_lt 1021 n) (section_length-same a b like.header)

pub is_bad-like : (a b : List ℕ) → IsLike a b → is_bad a ≡ is_bad b
is_bad-like a b like = ap (λ (read : Bool). read && has_bad_length a) (is_read-like a b like) ∙ ap (λ (bad : Bool). is_read b && bad) (has_bad_length-like a b like)

pub section_size-like : (a b : List ℕ) → IsLike a b → section_size a ≡ section_size b
section_size-like a b like = ap (λ (n : ℕ). 3 + n) (section_length-same a b like.header)

-- equal, or of another table with its header there
like-cases : (a b : List ℕ) → IsLike a b → (a ≡ b) ⊎ ((3 ≤ length b) × (is_read b ≡ false))
like-cases a b like =
    ⊎_elim (λ short. inl (like-short a b like short))
    (λ header. elim (is_read b) as (λ (read : Bool). is_read b ≡ read → (a ≡ b) ⊎ ((3 ≤ length b) × (is_read b ≡ false)))
    [ true ↦ λ read. inl (like.read read) | false ↦ λ passed. inr (header, passed) ] refl) (cases_lt (length b) 3)

pub found_at-like : (a b x : List ℕ) → IsLike a b → found_at (a ++ x) ≡ found_at (b ++ x)
found_at-like a b x like =
    ⊎_elim (λ same. ap (λ (c : List ℕ). found_at (c ++ x)) same)
    (λ other. let header : 3 ≤ length a = omega (arith, like.size, other.0) in
    found_at-passed (a ++ x) (is_read-append a x header ∙ is_read-like a b like ∙ other.1) ∙ sym (found_at-passed (b ++ x) (is_read-append b x other.0 ∙ other.1)))
    (like-cases a b like)

-- bytes of a section that is passed over, and those behind
found_from-other : (byte : ℕ) (us behind next : List ℕ) → 3 ≤ length (byte ∷ us) → is_read (byte ∷ us) ≡ false
    → length (byte ∷ us) ≤ section_size (byte ∷ us) → found_from 0 (byte ∷ us ++ behind) next
    ≡ cond (eqb byte 255) [] (found_from (section_size (byte ∷ us) - length (byte ∷ us)) behind next)
found_from-other byte us behind next header passed within =
    let joined : byte ∷ us ++ behind ++ next ≡ byte ∷ us ++ (behind ++ next) = append_assoc (byte ∷ us) behind next in
    let n : ℕ = section_size (byte ∷ us ++ behind ++ next) - 1 in
    let same_size : section_size (byte ∷ us ++ behind ++ next) ≡ section_size (byte ∷ us) = ap section_size joined ∙ section_size-append (byte ∷ us) (behind ++ next) header in
    let first : found_at (byte ∷ us ++ behind ++ next) ≡ [] = ap found_at joined ∙ found_at-passed (byte ∷ us ++ (behind ++ next)) (is_read-append (byte ∷ us) (behind ++ next) header ∙ passed) in
    let others : found_from n (us ++ behind) next ≡ found_from (section_size (byte ∷ us) - length (byte ∷ us)) behind next = found_from-behind n _ us behind next (omega (arith, same_size, within)) in
    ap (λ (found : List Found). cond (eqb byte 255) [] (found ++ found_from n (us ++ behind) next)) first ∙ ap (λ (found : List Found). cond (eqb byte 255) [] found) others

both-other : (byte : ℕ) (us : List ℕ) (other : ℕ) (vs behind next : List ℕ) → IsLike (byte ∷ us) (other ∷ vs) → 3 ≤ length (other ∷ vs)
    → is_read (other ∷ vs) ≡ false → length (other ∷ vs) ≤ section_size (other ∷ vs)
    → found_from 0 (byte ∷ us ++ behind) next ≡ found_from 0 (other ∷ vs ++ behind) next
both-other byte us other vs behind next like header passed within =
    let head : byte ≡ other = cc (like.header) in
    let size : section_size (byte ∷ us) ≡ section_size (other ∷ vs) = section_size-like (byte ∷ us) (other ∷ vs) like in
    let left : found_from 0 (byte ∷ us ++ behind) next ≡ cond (eqb byte 255) []
    (found_from (section_size (byte ∷ us) - length (byte ∷ us)) behind next) = found_from-other byte us behind next
    (omega (arith, like.size, header)) (is_read-like (byte ∷ us) (other ∷ vs) like ∙ passed) (omega (arith, like.size, size, within)) in
    let m : section_size (byte ∷ us) - length (byte ∷ us) ≡ section_size (other ∷ vs) - length (other ∷ vs) = omega (arith, like.size, size) in
    left ∙ ap (λ (id : ℕ). cond (eqb id 255) [] (found_from (section_size (byte ∷ us) - length (byte ∷ us)) behind next)) head
    ∙ ap (λ (k : ℕ). cond (eqb other 255) [] (found_from k behind next)) m ∙ sym (found_from-other other vs behind next header passed within)

pub found_from-like : (a b behind next : List ℕ) → IsLike a b → length b ≤ section_size b → found_from 0 (a ++ behind) next ≡ found_from 0 (b ++ behind) next
found_from-like a b behind next like within =
    ⊎_elim (λ same. ap (λ (c : List ℕ). found_from 0 (c ++ behind) next) same) (λ other. by_heads a b like within other.0 other.1) (like-cases a b like)
  where
    by_heads : (a b : List ℕ) → IsLike a b → length b ≤ section_size b → 3 ≤ length b → is_read b ≡ false → found_from 0 (a ++ behind) next ≡ found_from 0 (b ++ behind) next
    by_heads [] b like within header passed = absurd (omega (arith, like.size, header))
    by_heads (byte ∷ us) [] like within header passed = absurd (omega (arith, header))
    by_heads (byte ∷ us) (other ∷ vs) like within header passed = both-other byte us other vs behind next like header passed within

-- ---- a length that isn't bad

or-none : (x y : Bool) → x || y ≡ false → y ≡ false
or-none true y is = cc
or-none false y is = is

pub good-size : (a : List ℕ) → is_bad a ≡ false → is_read a ≡ true → section_size a ≤ 1024
good-size a good read = omega (arith, ltb-false 1021 (section_length a) (or-none _ _ (bad-length (is_read a) (has_bad_length a) good read)))

-- ---- what is found of a settled section that is read

pub found_at-bad : (a : List ℕ) → is_settled a ≡ true → is_bad a ≡ true → found_at a ≡ Err BadSection ∷ []
found_at-bad a settled bad =
    by_tests (nat_lt (length a) 3) (is_read a) (has_bad_length a) _ (le-ltb (length a) 3 (settled-header a settled)) bad
  where
    by_tests : (short read bad : Bool) (whole : List Found) → short ≡ false → read && bad ≡ true → cond (short || not read) [] (cond bad (Err BadSection ∷ []) whole) ≡ Err BadSection ∷ []
    by_tests true read bad whole header is = cc
    by_tests false false bad whole header is = cc
    by_tests false true true whole header is = refl
    by_tests false true false whole header is = cc

pub found_at-whole : (a : List ℕ) → is_settled a ≡ true → is_bad a ≡ false → is_read a ≡ true → length a ≤ section_size a → found_at a ≡ checked a ∷ []
found_at-whole a settled good read within =
    let whole : take (section_size a) a ≡ a = take_all (section_size a) a within in
    by_tests (nat_lt (length a) 3) (is_read a) (has_bad_length a) (nat_lt (length a) (section_size a)) (checked (take (section_size a) a) ∷ [])
    (le-ltb (length a) 3 (settled-header a settled)) read (bad-length (is_read a) (has_bad_length a) good read)
    (le-ltb (length a) (section_size a) (settled-size a settled good)) ∙ ap (λ (section : List ℕ). checked section ∷ []) whole
  where
    by_tests : (short read bad more : Bool) (all : List Found) → short ≡ false → read ≡ true → bad ≡ false → more ≡ false → pick short read bad more all ≡ all
    by_tests short read bad more all header is_read good there = rw (header, is_read, good, there) refl
