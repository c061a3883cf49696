-- Windows with one changed or one added, as a search gives them.
use Rattle.std.proofs.Common.{◌≡◌, ◌≢◌, ℕ, ◌+◌, ◌-◌, ◌<◌, ◌≤◌, List, ◌∷◌, length, map, take, drop, get_or, set, Option, Some, slice_get, All, refl, sym, ap, subst, ◌∙◌, inl, inr, arith, ◌≤ℤ◌}
use Rattle.std.specs.List.{insert}
use Rattle.std.proofs.lemmas.Bool.{cases_eq, cases_lt}
use Rattle.std.proofs.lemmas.Int.{ints}
use Rattle.std.proofs.lemmas.List.{get_or-map, get_or-set_other, get_or-set_same, get_or_default, get_or_read, length-map, length-set, take-append-drop}
use Rattle.std.proofs.lemmas.List.Edits.{get_or-insert_above, get_or-insert_at, get_or-insert_below, length-insert}
use Rattle.std.proofs.lemmas.List.Elements.{All-append, All-cons, All-drop, All-map, All-set, All-take}
use Rattle.std.proofs.lemmas.Option.{get_or_from_slice_get, slice_get_within}
use Rattle.version_table.specs.declared.table.Table.{Table}
use Rattle.dual_bounds.specs.declared.constants.TheConstants.{LAMBDA_MOST}
use Rattle.dual_bounds.specs.declared.windows.Multiplier.{Multiplier}
use Rattle.dual_bounds.specs.declared.windows.Window.{Window}
use Rattle.dual_bounds.specs.Values.{from_start, value_of_windows}
use Rattle.dual_bounds.proofs.ValueLaws.{any_order}
use Rattle.multiplier_search.specs.Single.{AreInOrder}
use Rattle.multiplier_search.specs.Turns.{BeatAdditions, BeatChanges, with_lambda}
use Rattle.multiplier_search.specs.Windows.{AreSearched, IsSound, Precedes}
use Rattle.multiplier_search.specs.Private.Lambda.{EndsRise, RisesTo, value_beside, value_with}
use Rattle.multiplier_search.specs.Private.Turns.{AreFromStart, AreNext, BeatFirstChanges, IsGreaterOf, IsPlace}
use Rattle.multiplier_search.proofs.Beside.{greatest-with}

-- ---- the order of windows
precedes_same : (a b a' b' : Window) → a'.due ≡ a.due → a'.from ≡ a.from → b'.due ≡ b.due → b'.from ≡ b.from → Precedes a b → Precedes a' b'
precedes_same a b a' b' due from due' from' (inl less) = inl (omega arith)
precedes_same a b a' b' due from due' from' (inr same) = inr (omega (arith, same.0), omega (arith, same.1))

set_keeps : (f : Window → ℕ) (windows : List Window) (k : ℕ) (w w' : Window) → k < length windows → w ≡ get_or windows k w → f w' ≡ f w → (j : ℕ) (d : Window)
    → f (get_or (set windows k w') j d) ≡ f (get_or windows j d)
set_keeps f windows k w w' within read same j d = elim (cases_eq j k) as (λ _. f (get_or (set windows k w') j d) ≡ f (get_or windows j d)) [
  | inl here ↦ (let there : f (get_or (set windows k w') k d) ≡ f (get_or windows k d) =
      ap f (get_or-set_same windows k w' d within) ∙ same ∙ ap f (get_or_read windows k w within read d) in
      subst (λ n. f (get_or (set windows k w') n d) ≡ f (get_or windows n d)) (sym here) there)
  | inr other ↦ ap f (get_or-set_other windows k j w' d other)
]

pub set-searched : (windows : List Window) (k : ℕ) (w : Window) (lambda : ℕ) → k < length windows → w ≡ get_or windows k w → lambda ≤ LAMBDA_MOST → AreSearched windows
    → AreSearched (set windows k (with_lambda w lambda))
set-searched windows k w lambda within read limit searched =
    let w' = with_lambda w lambda in
    let own : IsSound w = subst (λ (x : Window). IsSound x) (sym read) (searched.sound k w within) in
    record {
      sound = All-set IsSound windows k w' (record { order = own.order; lambda = limit }) searched.sound;
      rise = λ j d low. (let size : length (set windows k w') ≡ length windows = length-set windows k w' in
          precedes_same (get_or windows j d) (get_or windows (j + 1) d) (get_or (set windows k w') j d) (get_or (set windows k w') (j + 1) d)
          (set_keeps (λ x. x.due) windows k w w' within read refl j d)
          (set_keeps (λ x. x.from) windows k w w' within read refl j d)
          (set_keeps (λ x. x.due) windows k w w' within read refl (j + 1) d)
          (set_keeps (λ x. x.from) windows k w w' within read refl (j + 1) d)
          (searched.rise j d (omega arith)));
    }

pub changed-next : (windows changed : List Window) (k : ℕ) (d : Window) (lambda : ℕ) → k < length windows → changed ≡ set windows k (with_lambda (get_or windows k d) lambda) → lambda ≤ LAMBDA_MOST
    → AreSearched windows → AreNext windows 0 changed
changed-next windows changed k d lambda within is limit searched =
    let w = get_or windows k d in
    let w' = with_lambda w lambda in
    let read : w ≡ get_or windows k w = get_or_default windows k d w within in
    let next : AreNext windows 0 (set windows k w') = record {
      few = omega (arith, length-set windows k w');
      searched = set-searched windows k w lambda within read limit searched;
      starts = λ all. All-set (λ x. x.from ≡ 0) windows k w' (all k d within) all;
    } in
    subst (λ (x : List Window). AreNext windows 0 x) (sym is) next

pub same-next : (windows : List Window) (more : ℕ) → AreSearched windows → AreNext windows more windows
same-next windows more searched = record { few = omega arith; searched = searched; starts = λ all. all }

pub greater-next : (table : Table) (fixed : List (Option ℕ)) (start : List Window) (more : ℕ) (a b greater : List Window) → AreNext start more a → AreNext start more b
    → IsGreaterOf table fixed a b greater → AreNext start more greater
greater-next table fixed start more a b greater first second is = elim is.one as (λ _. AreNext start more greater) [
  | inl e ↦ subst (λ (x : List Window). AreNext start more x) (sym e) first
  | inr e ↦ subst (λ (x : List Window). AreNext start more x) (sym e) second
]

-- ---- one window more
module _ (windows : List Window) (place : ℕ) (window : Window) (searched : AreSearched windows) (is : IsPlace windows window place)
    (precedes : (d : Window) → place < length windows → Precedes window (get_or windows place d)) (sound : IsSound window) where
  insert-rises : (j : ℕ) (d : Window) → j + 1 < length (insert windows place window) → Precedes (get_or (insert windows place window) j d) (get_or (insert windows place window) (j + 1) d)
  insert-rises j d low =
      let size = length-insert windows place window is.within in
      elim (cases_lt j place) as (λ _. Precedes (get_or (insert windows place window) j d) (get_or (insert windows place window) (j + 1) d)) [
        | inl before ↦
            (let here : get_or (insert windows place window) j d ≡ get_or windows j d = get_or-insert_below windows place window d j before is.within in
            elim (cases_lt (j + 1) place) as (λ _. Precedes (get_or (insert windows place window) j d) (get_or (insert windows place window) (j + 1) d)) [
              | inl both ↦
                  (let there : get_or (insert windows place window) (j + 1) d ≡ get_or windows (j + 1) d = get_or-insert_below windows place window d (j + 1) both is.within in
                  same_order _ _ _ _ here there (searched.rise j d (omega (arith, is.within))))
              | inr last ↦
                  (let at : j + 1 ≡ place = omega arith in
                  let there : get_or (insert windows place window) (j + 1) d ≡ window =
                  subst (λ n. get_or (insert windows place window) n d ≡ window) (sym at) (get_or-insert_at windows place window d is.within) in
                  same_order _ _ _ _ here there (is.before j d before))
            ])
        | inr from ↦
            (let there : get_or (insert windows place window) (j + 1) d ≡ get_or windows j d = get_or-insert_above windows place window d j from is.within in
            elim (cases_eq j place) as (λ _. Precedes (get_or (insert windows place window) j d) (get_or (insert windows place window) (j + 1) d)) [
              | inl at ↦
                  (let here : get_or (insert windows place window) j d ≡ window =
                  subst (λ n. get_or (insert windows place window) n d ≡ window) (sym at) (get_or-insert_at windows place window d is.within) in
                  let next : Precedes window (get_or windows j d) = subst (λ n. Precedes window (get_or windows n d)) (sym at) (precedes d (omega arith)) in
                  same_order _ _ _ _ here there next)
              | inr beyond ↦
                  (let before : (j - 1) + 1 ≡ j = omega arith in
                  let here : get_or (insert windows place window) j d ≡ get_or windows (j - 1) d =
                  subst (λ n. get_or (insert windows place window) n d ≡ get_or windows (j - 1) d) before (get_or-insert_above windows place window d (j - 1) (omega arith) is.within) in
                  let rise : Precedes (get_or windows (j - 1) d) (get_or windows ((j - 1) + 1) d) = searched.rise (j - 1) d (omega arith) in
                  same_order _ _ _ _ here there (subst (λ n. Precedes (get_or windows (j - 1) d) (get_or windows n d)) before rise))
            ])
      ]
    where
      same_order : (a b a' b' : Window) → a ≡ a' → b ≡ b' → Precedes a' b' → Precedes a b
      same_order a b a' b' one other rise = precedes_same a' b' a b (ap (λ (x : Window). x.due) one) (ap (λ (x : Window). x.from) one) (ap (λ (x : Window). x.due) other)
          (ap (λ (x : Window). x.from) other) rise

  pub insert-searched : AreSearched (insert windows place window)
  insert-searched = record {
    sound = All-append IsSound (take place windows) (window ∷ drop place windows)
        (All-take IsSound place windows searched.sound)
        (All-cons IsSound window (drop place windows) sound (All-drop IsSound place windows searched.sound));
    rise = insert-rises;
  }

  pub inserted-next : window.from ≡ 0 → AreNext windows 1 (insert windows place window)
  inserted-next from = record {
    few = omega (arith, length-insert windows place window is.within);
    searched = insert-searched;
    starts = λ all. All-append (λ x. x.from ≡ 0) (take place windows) (window ∷ drop place windows)
        (All-take (λ x. x.from ≡ 0) place windows all)
        (All-cons (λ x. x.from ≡ 0) window (drop place windows) from (All-drop (λ x. x.from ≡ 0) place windows all));
  }

-- a window put among others adds what it adds before them
pub insert-value : (table : Table) (fixed : List (Option ℕ)) (windows : List Window) (place : ℕ) (w : Window)
    → value_of_windows table fixed (insert windows place w) ≡ value_of_windows table fixed (w ∷ windows)
insert-value table fixed windows place w =
    any_order table fixed (take place windows) w (drop place windows) ∙ ap (λ (x : List Window). value_of_windows table fixed (w ∷ x)) (take-append-drop place windows)

-- ---- what is beaten
-- one more place
pub changes-more : (table : Table) (fixed : List (Option ℕ)) (start best changed best' : List Window) (n : ℕ) (d : Window) (lambda : ℕ) → n < length start
    → BeatFirstChanges table fixed n start best
    → RisesTo (value_with table fixed start n (get_or start n d).from (get_or start n d).due) lambda → EndsRise (value_with table fixed start n (get_or start n d).from (get_or start n d).due) lambda
    → changed ≡ set start n (with_lambda (get_or start n d) lambda) → IsGreaterOf table fixed best changed best' → BeatFirstChanges table fixed (n + 1) start best'
changes-more table fixed start best changed best' n d lambda within beat rises ends put is k window l low at limit =
    elim (cases_lt k n) as (λ _. value_of_windows table fixed (set start k (with_lambda window l)) ≤ℤ value_of_windows table fixed best') [
      | inl before ↦ (let le = beat k window l before at limit in let first = is.first in omega (arith, ints))
      | inr last ↦
          (let same : k ≡ n = omega arith in
          let w = get_or start n d in
          let there : slice_get start n ≡ Some window = subst (λ i. slice_get start i ≡ Some window) same at in
          let own : w ≡ window = get_or_from_slice_get start n window d there in
          let le : value_of_windows table fixed (set start n (with_lambda w l)) ≤ℤ value_of_windows table fixed (set start n (with_lambda w lambda)) =
          greatest-with table fixed start n w.from w.due within lambda l rises ends limit in
          let second : value_of_windows table fixed (set start n (with_lambda w lambda)) ≤ℤ value_of_windows table fixed best' =
          subst (λ (x : List Window). value_of_windows table fixed x ≤ℤ value_of_windows table fixed best') put is.second in
          let total : value_of_windows table fixed (set start n (with_lambda w l)) ≤ℤ value_of_windows table fixed best' = omega (arith, ints) in
          let total' : value_of_windows table fixed (set start n (with_lambda window l)) ≤ℤ value_of_windows table fixed best' =
          subst (λ (x : Window). value_of_windows table fixed (set start n (with_lambda x l)) ≤ℤ value_of_windows table fixed best') own total in
          subst (λ i. value_of_windows table fixed (set start i (with_lambda window l)) ≤ℤ value_of_windows table fixed best') (sym same) total')
    ]

pub changes-all : (table : Table) (fixed : List (Option ℕ)) (start best : List Window) (n : ℕ) → length start ≤ n → BeatFirstChanges table fixed n start best → BeatChanges table fixed start best
changes-all table fixed start best n all beat k window lambda at limit =
    let within = slice_get_within start k window at in
    beat k window lambda (omega arith) at limit

pub changes-rise : (table : Table) (fixed : List (Option ℕ)) (start a b : List Window) → value_of_windows table fixed a ≤ℤ value_of_windows table fixed b → BeatChanges table fixed start a
    → BeatChanges table fixed start b
changes-rise table fixed start a b le beat k window lambda at limit = let first = beat k window lambda at limit in omega (arith, ints)

pub additions-rise : (table : Table) (fixed : List (Option ℕ)) (dues : List ℕ) (start a b : List Window) → value_of_windows table fixed a ≤ℤ value_of_windows table fixed b
    → BeatAdditions table fixed dues start a → BeatAdditions table fixed dues start b
additions-rise table fixed dues start a b le beat due lambda of_dues lacks limit = let first = beat due lambda of_dues lacks limit in omega (arith, ints)

-- a window from time 0 on that is put where none ends at its due time
pub added-next : (start added : List Window) (place due lambda : ℕ) → AreSearched start → IsPlace start (record { from = 0; due = due; lambda = lambda }) place
    → All (λ w. w.due ≢ due) start → lambda ≤ LAMBDA_MOST → added ≡ insert start place (record { from = 0; due = due; lambda = lambda }) → AreNext start 1 added
added-next start added place due lambda searched at free limit put =
    let own : Window = record { from = 0; due = due; lambda = lambda } in
    let precedes : (d : Window) → place < length start → Precedes own (get_or start place d) = λ d within.
    (let x = get_or start place d in
    let other : x.due ≢ due = free place d within in
    elim (cases_lt due x.due) as (λ _. Precedes own x) [
      | inl less ↦ inl less
      | inr most ↦ absurd (at.behind d within (inl (omega arith)))
    ]) in
    subst (λ (x : List Window). AreNext start 1 x) (sym put)
    (inserted-next start place own searched at precedes (record { order = omega arith; lambda = limit }) refl)

-- what is put there adds what it adds before the others
pub added-value : (table : Table) (fixed : List (Option ℕ)) (start added found : List Window) (place due lambda : ℕ)
    → added ≡ insert start place (record { from = 0; due = due; lambda = lambda }) → value_of_windows table fixed added ≤ℤ value_of_windows table fixed found
    → value_beside table fixed start 0 due lambda ≤ℤ value_of_windows table fixed found
added-value table fixed start added found place due lambda put le =
    let own : Window = record { from = 0; due = due; lambda = lambda } in
    let same : value_of_windows table fixed added ≡ value_beside table fixed start 0 due lambda =
    ap (value_of_windows table fixed) put ∙ insert-value table fixed start place own in
    omega (arith, ints)

pub from-start : (multipliers : List Multiplier) → AreFromStart (map from_start multipliers)
from-start multipliers = All-map (λ (w : Window). w.from ≡ 0) from_start multipliers (λ k d low. refl)

-- multipliers in order are windows as a search gives them, and the other way round
at-from-start : (multipliers : List Multiplier) (k : ℕ) (d : Multiplier) (e : Window) → k < length multipliers → get_or (map from_start multipliers) k e ≡ from_start (get_or multipliers k d)
at-from-start multipliers k d e within = get_or-map from_start multipliers k d e within

pub order-searched : (multipliers : List Multiplier) → AreInOrder multipliers → AreSearched (map from_start multipliers)
order-searched multipliers order = record {
  sound = All-map IsSound from_start multipliers (λ k d low. record { order = omega arith; lambda = order.lambdas k d low });
  rise = λ k e low. (let d : Multiplier = record { due = 0; lambda = 0 } in
      let size = length-map multipliers from_start in
      let within : k + 1 < length multipliers = omega arith in
      let here = ap (λ (w : Window). w.due) (at-from-start multipliers k d e (omega arith)) in
      let next = ap (λ (w : Window). w.due) (at-from-start multipliers (k + 1) d e within) in
      inl (omega (arith, order.rise k d within)));
}

pub searched-order : (multipliers : List Multiplier) → AreSearched (map from_start multipliers) → AreInOrder multipliers
searched-order multipliers searched = record {
  lambdas = λ k d low. (let size = length-map multipliers from_start in
      let here = ap (λ (w : Window). w.lambda) (at-from-start multipliers k d (from_start d) low) in
      omega (arith, (searched.sound k (from_start d) (omega arith)).lambda));
  rise = λ k d low. (let size = length-map multipliers from_start in
      let e = from_start d in
      let here = at-from-start multipliers k d e (omega arith) in
      let next = at-from-start multipliers (k + 1) d e low in
      let rise : Precedes (get_or (map from_start multipliers) k e) (get_or (map from_start multipliers) (k + 1) e) = searched.rise k e (omega arith) in
      elim rise as (λ _. (get_or multipliers k d).due < (get_or multipliers (k + 1) d).due) [
        | inl less ↦ omega (arith, ap (λ (w : Window). w.due) here, ap (λ (w : Window). w.due) next)
        | inr same ↦ absurd (omega (arith, ap (λ (w : Window). w.from) here, ap (λ (w : Window). w.from) next, same.1))
      ]);
}
