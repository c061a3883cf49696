-- One unit more along the needs.
use Rattle.std.proofs.Common.{◌≡◌, ℕ, ◌+◌, ◌*◌, ◌<◌, ◌≤◌, ◌^◌, ◌⊎◌, List, length, take, get_or, sum_by, refl, sym, ap, subst, ◌∙◌, inl, inr, arith, ℤ, pos, ◌-ℤ◌, ◌≤ℤ◌, ◌<ℤ◌}
use Rattle.std.proofs.lemmas.Bool.{cases_Bool, cases_eq}
use Rattle.std.proofs.lemmas.Int.{ints}
use Rattle.std.proofs.lemmas.List.{length-take}
use Rattle.std.proofs.lemmas.List.Elements.{All-take}
use Rattle.std.proofs.lemmas.List.Sums.{sum_by_more, sum_by-le}
use Rattle.version_table.specs.declared.table.Table.{Table}
use Rattle.dual_bounds.specs.Room.{is_within, room}
use Rattle.impossible_proof.specs.declared.needs.UnitNeed.{UnitNeed}
use Rattle.impossible_proof.specs.Private.Needs.{AreFew, need_in, packets_in}
use Rattle.impossible_proof.specs.Private.Scan.{AllHaveRoom, IsFirstEnd, IsLowest, NoneBegins, before, beginning, due_at, ending, ending_by, room_before}

-- ---- sums
pub before-more : (needs : List UnitNeed) (i : ℕ) (d : UnitNeed) → i < length needs → before needs (i + 1) ≡ before needs i + (get_or needs i d).packets
unfolding before
before-more needs i d within = sum_by_more (λ (one : UnitNeed). one.packets) needs i d within

pub before-start : (needs : List UnitNeed) → before needs 0 ≡ 0
unfolding before
before-start needs = refl

pub before-small : (needs : List UnitNeed) (i : ℕ) → AreFew needs → i ≤ length needs → before needs i ≤ 2 ^ 37
unfolding before
before-small needs i few within =
    let first = take i needs in
    let most : sum_by (λ (one : UnitNeed). one.packets) first ≤ length first * 2 ^ 15 =
    sum_by-le (λ (one : UnitNeed). one.packets) (2 ^ 15) first (All-take (λ (one : UnitNeed). one.packets ≤ 2 ^ 15) i needs few.small) in
    omega (arith, most, length-take i needs, few.few)

pub need_in-more : (from due : ℕ) (needs : List UnitNeed) (i : ℕ) (d : UnitNeed) → i < length needs
    → need_in from due (take (i + 1) needs) ≡ need_in from due (take i needs) + packets_in from due (get_or needs i d)
unfolding need_in
need_in-more from due needs i d within = sum_by_more (packets_in from due) needs i d within

pub need_in-start : (from due : ℕ) (needs : List UnitNeed) → need_in from due (take 0 needs) ≡ 0
unfolding need_in
need_in-start from due needs = refl

-- ---- beginnings and ends
pub beginning-is : (table : Table) (needs : List UnitNeed) (i due : ℕ) (total : ℕ) (own : ℤ) → due ≡ due_at needs i → total ≡ before needs i → own ≡ room_before table due
    → (pos total -ℤ own) ≡ beginning table needs i
unfolding beginning
beginning-is table needs i due total own due_is total_is own_is =
    ap (λ (n : ℕ). pos n -ℤ own) total_is ∙ ap (λ (r : ℤ). pos (before needs i) -ℤ r) (own_is ∙ ap (room_before table) due_is)

pub ending-is : (table : Table) (needs : List UnitNeed) (i due : ℕ) (total : ℕ) (own : ℤ) → due ≡ due_at needs i → total ≡ before needs (i + 1) → own ≡ room table 0 due
    → (pos total -ℤ own) ≡ ending table needs i
unfolding ending
ending-is table needs i due total own due_is total_is own_is =
    ap (λ (n : ℕ). pos n -ℤ own) total_is ∙ ap (λ (r : ℤ). pos (before needs (i + 1)) -ℤ r) (own_is ∙ ap (room table 0) due_is)

pub ending_by-is : (table : Table) (needs : List UnitNeed) (due total : ℕ) (own : ℤ) → total ≡ need_in 0 due needs → own ≡ room table 0 due → (pos total -ℤ own) ≡ ending_by table needs due
unfolding ending_by
ending_by-is table needs due total own total_is own_is =
    ap (λ (n : ℕ). pos n -ℤ own) total_is ∙ ap (λ (r : ℤ). pos (need_in 0 due needs) -ℤ r) own_is

-- ---- the least beginning
at_most : (a b c : ℤ) → a ≤ℤ b → b ≤ℤ c → a ≤ℤ c
at_most a b c first second = omega (arith, ints)

same_most : (a b c : ℤ) → a ≤ℤ b → b ≡ c → a ≤ℤ c
same_most a b c le same = subst (λ (x : ℤ). a ≤ℤ x) same le

too_high : (old new own : ℤ) → pos (2 ^ 62) ≤ℤ old → new ≡ old → new ≤ℤ own → own <ℤ pos (2 ^ 62) → ⊥
too_high old new own high kept le small = omega (arith, ints)

pub lowest-more : (table : Table) (needs : List UnitNeed) (i : ℕ) (old new own : ℤ) → IsLowest table needs i old → own ≡ beginning table needs i → new ≤ℤ old → new ≤ℤ own
    → ((new ≡ old) ⊎ (new ≡ own)) → own <ℤ pos (2 ^ 62) → IsLowest table needs (i + 1) new
lowest-more table needs i old new own is own_is le_old le_own one small = record {
  least = λ j upto. elim (cases_eq j i) as (λ _. new ≤ℤ beginning table needs j) [
    | inl same ↦ subst (λ (k : ℕ). new ≤ℤ beginning table needs k) (sym same) (same_most new own (beginning table needs i) le_own own_is)
    | inr apart ↦ at_most new old (beginning table needs j) le_old (is.least j (omega arith))
  ];
  own = inr (elim one as (λ _. (j : ℕ) × (j < i + 1) × (new ≡ beginning table needs j)) [
    | inr here ↦ (i, omega arith, here ∙ own_is)
    | inl kept ↦ elim is.own as (λ _. (j : ℕ) × (j < i + 1) × (new ≡ beginning table needs j)) [
      | inl none ↦ absurd (too_high old new own none.1 kept le_own small)
      | inr some ↦ (some.0, omega (arith, some.1), kept ∙ some.2)
    ]
  ]);
}

-- no beginning lies below this end
pub have_room-more : (table : Table) (needs : List UnitNeed) (i : ℕ) (lowest own : ℤ) → AllHaveRoom table needs i → ((j : ℕ) → j < i + 1 → lowest ≤ℤ beginning table needs j)
    → own ≡ ending table needs i → own ≤ℤ lowest → AllHaveRoom table needs (i + 1)
have_room-more table needs i lowest own have least own_is upto j k order below =
    elim (cases_eq k i) as (λ _. ending table needs k ≤ℤ beginning table needs j) [
      | inl same ↦ subst (λ (x : ℕ). ending table needs x ≤ℤ beginning table needs j) (sym same)
          (subst (λ (x : ℤ). x ≤ℤ beginning table needs j) own_is (at_most own lowest (beginning table needs j) upto (least j (omega (arith, same)))))
      | inr apart ↦ have j k order (omega arith)
    ]

-- one does
pub first_end : (table : Table) (needs : List UnitNeed) (i due : ℕ) (lowest own : ℤ) → i < length needs → due ≡ due_at needs i → AllHaveRoom table needs i
    → IsLowest table needs (i + 1) lowest → own ≡ ending table needs i → lowest <ℤ own → IsFirstEnd table needs due
first_end table needs i due lowest own within due_is have is own_is above =
    elim is.own as (λ _. IsFirstEnd table needs due) [
      | inl none ↦ (let never = none.0 in absurd (omega arith))
      | inr some ↦ record {
        place = i;
        within = within;
        due_is = due_is;
        first = have;
        start = some.0;
        order = omega (arith, some.1);
        above = subst (λ (x : ℤ). x <ℤ ending table needs i) some.2 (subst (λ (x : ℤ). lowest <ℤ x) own_is above);
      }
    ]

-- ---- beginnings before a place
pub none_begins-more : (table : Table) (needs : List UnitNeed) (due i : ℕ) → NoneBegins table needs due i
    → (due_at needs i ≤ due → ending_by table needs due ≤ℤ beginning table needs i) → NoneBegins table needs due (i + 1)
none_begins-more table needs due i none own j below upto =
    elim (cases_eq j i) as (λ _. ending_by table needs due ≤ℤ beginning table needs j) [
      | inl same ↦ subst (λ (x : ℕ). ending_by table needs due ≤ℤ beginning table needs x) (sym same) (own (subst (λ (x : ℕ). due_at needs x ≤ due) same upto))
      | inr apart ↦ none j (omega arith) upto
    ]

-- ---- what a window needs, one unit more
pub packets_in-small : (from due : ℕ) (one : UnitNeed) → one.packets ≤ 2 ^ 15 → packets_in from due one ≤ 2 ^ 15
packets_in-small from due one small = elim (cases_Bool (is_within from due one.due)) as (λ _. packets_in from due one ≤ 2 ^ 15) [
  | inl inside ↦ rw inside small
  | inr outside ↦ rw outside (omega arith)
]
