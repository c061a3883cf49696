-- Grammars read one after another, by what is told of the bits or not.
use Rattle.std.proofs.Common.{◌≡◌, ℕ, ◌+◌, List, [], ◌++◌, length, Option, Some, None, IfSome, IsSomeAnd, IsNone, true, refl, sym, ap, subst, ◌∙◌, inl, inr, arith, append_assoc}
use Rattle.std.specs.Option.{option_map}
use Rattle.std.proofs.lemmas.List.{length-append, append_cancel_right}
use Rattle.picture_grammar.specs.Refusal.{Refusal}
use Rattle.picture_grammar.specs.Grammar.{Grammar, done, ◌>>=◌, optional}
use Rattle.picture_grammar.specs.Exact.{IsExact, IsLocal}
use Rattle.grammar_reading.specs.BitsRead.{PlacedRefusal, AdvancesFrom, IsSpelled, ReadsFrom, RefusedAt, ExplainsFrom}

-- ---- fronts and places

-- two fronts, one behind the other
both-left : (bits middle after : Option (List ℕ)) (f g : List ℕ) → bits ≡ option_map (λ rest. f ++ rest) middle
    → middle ≡ option_map (λ rest. g ++ rest) after → bits ≡ option_map (λ rest. (f ++ g) ++ rest) after
both-left bits middle None f g p q = p ∙ ap (option_map (λ rest. f ++ rest)) q
both-left bits middle (Some rest) f g p q = p ∙ ap (option_map (λ x. f ++ x)) q ∙ ap Some (sym (append_assoc f g rest))

both-moved : (f g : List ℕ) (place middle after : ℕ) → middle ≡ place + length f → after ≡ middle + length g → after ≡ place + length (f ++ g)
both-moved f g place middle after p q = omega (arith, length-append f g)

no-front : (bits : Option (List ℕ)) → bits ≡ option_map (λ (rest : List ℕ). [] ++ rest) bits
no-front None = refl
no-front (Some bits) = refl

module _ {bits middle after : Option (List ℕ)} {place place_middle place_after : ℕ} where
  pub advances-on : AdvancesFrom bits middle place place_middle → AdvancesFrom middle after place_middle place_after → AdvancesFrom bits after place place_after
  advances-on a b = record {
    front = a.front ++ b.front;
    left = both-left bits middle after a.front b.front a.left b.left;
    moved = both-moved a.front b.front place place_middle place_after a.moved b.moved;
  }

pub advances-none : (bits : Option (List ℕ)) (place : ℕ) → AdvancesFrom bits bits place place
advances-none bits place = record { front = []; left = no-front bits; moved = omega arith }

pub reads-advances : {A : Type 0} {grammar : Grammar A} {value : A} {bits after : Option (List ℕ)} {place place_after : ℕ}
    → ReadsFrom grammar value bits after place place_after → AdvancesFrom bits after place place_after
reads-advances r = record { front = r.front; left = r.left; moved = r.moved }

-- ---- one thing behind another

-- what spells the first value does so before what spells the second one
abbrev pub StandsBefore : {A B : Type 0} → Grammar A → A → Grammar B → B → Type 0
StandsBefore first a second value = (f g rest other : List ℕ) → first.Spells a (f ++ rest) rest → second.Spells value (g ++ other) other → first.Spells a (f ++ (g ++ other)) (g ++ other)

-- what spells a value of a grammar that doesn't look ahead does so before everything
pub anywhere : {A : Type 0} {grammar : Grammar A} → IsLocal grammar → (value : A) (front rest following : List ℕ)
    → grammar.Spells value (front ++ rest) rest → grammar.Spells value (front ++ following) following
anywhere {grammar = grammar} local value front rest following s =
    let (f, p, q) = local.anywhere value (front ++ rest) rest s in
    let same : f ≡ front = sym (append_cancel_right front f rest p) in
    subst (λ (x : List ℕ). grammar.Spells value (x ++ following) following) same (q following)

pub stands-before : {A B : Type 0} {first : Grammar A} (second : Grammar B) (a : A) (value : B) → IsLocal first → StandsBefore first a second value
stands-before second a value local f g rest other s t = anywhere local a f rest (g ++ other) s

-- Two reads, one behind the other, are a read of what the two spell together.
module _ {A B C : Type 0} (first : Grammar A) (second : Grammar B) (both : Grammar C) (a : A) (b : B) (c : C)
    (together : (bits middle rest : List ℕ) → first.Spells a bits middle → second.Spells b middle rest → both.Spells c bits rest) where
  both-spelled : (middle after : Option (List ℕ)) (f g : List ℕ) → StandsBefore first a second b
      → IsSpelled first a f middle → middle ≡ option_map (λ rest. g ++ rest) after → IsSpelled second b g after → IsSpelled both c (f ++ g) after
  both-spelled middle None f g before s left (other, t) =
      let (rest, s') = subst (IsSpelled first a f) left s in
      (other, subst (λ x. both.Spells c x other) (sym (append_assoc f g other)) (together (f ++ (g ++ other)) (g ++ other) other (before f g rest other s' t) t))
  both-spelled middle (Some other) f g before s left t =
      let s' = subst (IsSpelled first a f) left s in
      subst (λ x. both.Spells c x other) (sym (append_assoc f g other)) (together (f ++ (g ++ other)) (g ++ other) other s' t)

  pub reads-both : {bits middle after : Option (List ℕ)} {place place_middle place_after : ℕ} → StandsBefore first a second b
      → ReadsFrom first a bits middle place place_middle → ReadsFrom second b middle after place_middle place_after → ReadsFrom both c bits after place place_after
  reads-both {bits} {middle} {after} {place} {place_middle} {place_after} before r s = record {
    front = r.front ++ s.front;
    spelled = both-spelled middle after r.front s.front before r.spelled s.left s.spelled;
    left = both-left bits middle after r.front s.front r.left s.left;
    moved = both-moved r.front s.front place place_middle place_after r.moved s.moved;
  }

pub reads-then : {A B : Type 0} {first : Grammar A} (next : A → Grammar B) {a : A} {value : B} {bits middle after : Option (List ℕ)}
    {place place_middle place_after : ℕ} → StandsBefore first a (next a) value
    → ReadsFrom first a bits middle place place_middle → ReadsFrom (next a) value middle after place_middle place_after → ReadsFrom (first >>= next) value bits after place place_after
reads-then {first = first} next {a} {value} before r s = reads-both first (next a) (first >>= next) a value value (λ bits middle rest u v. (a, middle, u, v)) before r s

-- a refusal of the first thing is one of both
pub explains-first : {A B : Type 0} (first : Grammar A) (next : A → Grammar B) (told : Option PlacedRefusal) (bits : Option (List ℕ)) (place : ℕ)
    → IfSome bits (λ bits. ExplainsFrom first told bits place) → IfSome bits (λ bits. ExplainsFrom (first >>= next) told bits place)
explains-first first next None None place e = tt
explains-first first next (Some said) None place e = tt
explains-first first next None (Some bits) place e = tt
explains-first first next (Some said) (Some bits) place r = record { front = r.front; left = r.left; split = r.split; refused = inl r.refused; moved = r.moved }

-- A refusal behind a read is one of what the two spell together.
module _ {A B C : Type 0} (first : Grammar A) (second : Grammar B) (both : Grammar C) (a : A)
    (together : (bits middle left : List ℕ) (refusal : Refusal) → first.Spells a bits middle → second.Refuses middle refusal left → both.Refuses bits refusal left) where
  refused-behind : (front rest : List ℕ) (said : PlacedRefusal) (place place_middle : ℕ) → first.Spells a (front ++ rest) rest → place_middle ≡ place + length front
      → RefusedAt second said.refusal rest place_middle said.at → RefusedAt both said.refusal (front ++ rest) place said.at
  refused-behind front rest said place place_middle spelled moved r = record {
    front = front ++ r.front;
    left = r.left;
    split = ap (λ x. front ++ x) r.split ∙ sym (append_assoc front r.front r.left);
    refused = together (front ++ rest) rest r.left said.refusal spelled r.refused;
    moved = both-moved front r.front place place_middle said.at moved r.moved;
  }

  explains-told : (told : Option PlacedRefusal) (bits middle : Option (List ℕ)) (place place_middle : ℕ) (front : List ℕ)
      → bits ≡ option_map (λ rest. front ++ rest) middle → IsSpelled first a front middle
      → place_middle ≡ place + length front → IfSome middle (λ rest. ExplainsFrom second told rest place_middle) → IfSome bits (λ bits. ExplainsFrom both told bits place)
  explains-told told bits None place place_middle front left s moved e = subst (λ o. IfSome o (λ bits. ExplainsFrom both told bits place)) (sym left) tt
  explains-told None bits (Some rest) place place_middle front left s moved e = subst (λ o. IfSome o (λ bits. ExplainsFrom both None bits place)) (sym left) tt
  explains-told (Some said) bits (Some rest) place place_middle front left s moved e =
      subst (λ o. IfSome o (λ bits. ExplainsFrom both (Some said) bits place)) (sym left) (refused-behind front rest said place place_middle s moved e)

  pub explains-both : {bits middle : Option (List ℕ)} {place place_middle : ℕ} (told : Option PlacedRefusal) → ReadsFrom first a bits middle place place_middle
      → IfSome middle (λ rest. ExplainsFrom second told rest place_middle) → IfSome bits (λ bits. ExplainsFrom both told bits place)
  explains-both {bits} {middle} {place} {place_middle} told r e = explains-told told bits middle place place_middle r.front r.left r.spelled r.moved e

pub explains-then : {A B : Type 0} {first : Grammar A} (next : A → Grammar B) {a : A} {bits middle : Option (List ℕ)} {place place_middle : ℕ} (told : Option PlacedRefusal)
    → ReadsFrom first a bits middle place place_middle → IfSome middle (λ rest. ExplainsFrom (next a) told rest place_middle) → IfSome bits (λ bits. ExplainsFrom (first >>= next) told bits place)
explains-then {first = first} next {a} told r e = explains-both first (next a) (first >>= next) a (λ bits middle left refusal u v. inr (a, middle, u, v)) told r e

-- ---- no bits, and what stands in some cases only

pub reads-done : {A : Type 0} (value : A) (bits : Option (List ℕ)) (place : ℕ) → ReadsFrom (done value) value bits bits place place
reads-done value None place = record { front = []; spelled = ([], (refl, refl)); left = refl; moved = omega arith }
reads-done value (Some bits) place = record { front = []; spelled = (refl, refl); left = refl; moved = omega arith }

-- a value that another one is made of, as a record of its parts
made-spelled : {A B : Type 0} (grammar : Grammar A) (make : A → B) (value : A) (after : Option (List ℕ)) (front : List ℕ)
    → IsSpelled grammar value front after → IsSpelled (grammar >>= λ a. done (make a)) (make value) front after
made-spelled grammar make value None front (rest, s) = (rest, (value, rest, s, (refl, refl)))
made-spelled grammar make value (Some rest) front s = (value, rest, s, (refl, refl))

pub reads-made : {A B : Type 0} {grammar : Grammar A} (make : A → B) {value : A} {bits after : Option (List ℕ)} {place place_after : ℕ}
    → ReadsFrom grammar value bits after place place_after → ReadsFrom (grammar >>= λ a. done (make a)) (make value) bits after place place_after
reads-made {grammar = grammar} make {value} {after = after} r = record { front = r.front; spelled = made-spelled grammar make value after r.front r.spelled; left = r.left; moved = r.moved }

pub reads-some : {A : Type 0} {grammar : Grammar A} {value : A} {bits after : Option (List ℕ)} {place place_after : ℕ}
    → ReadsFrom grammar value bits after place place_after → ReadsFrom (optional true grammar) (Some value) bits after place place_after
reads-some r = reads-made Some r

-- ---- the answer is the only one

-- what was read is what comes
pub read-comes : {A : Type 0} {grammar : Grammar A} → IsExact grammar → {found value : A} {bits after : Option (List ℕ)} {place place_after : ℕ} (rest : List ℕ)
    → ReadsFrom grammar found bits after place place_after → IsSomeAnd bits (λ bits. grammar.Spells value bits rest) → (found ≡ value) × (after ≡ Some rest)
read-comes {grammar = grammar} exact {found} {value} {bits} {after} rest r comes = by_cases after r.left r.spelled where
  by_cases : (after : Option (List ℕ)) → bits ≡ option_map (λ rest. r.front ++ rest) after → IsSpelled grammar found r.front after → (found ≡ value) × (after ≡ Some rest)
  by_cases None left s = absurd (subst (λ o. IsSomeAnd o (λ bits. grammar.Spells value bits rest)) left comes)
  by_cases (Some other) left s =
      let t = subst (λ o. IsSomeAnd o (λ bits. grammar.Spells value bits rest)) left comes in
      let same = exact.one_value found value (r.front ++ other) other rest s t in
      (same.0, ap Some same.1)

-- where a value comes no fault tells a refusal
pub refused-comes : {A : Type 0} {grammar : Grammar A} → IsExact grammar → (value : A) (bits : Option (List ℕ)) (place : ℕ) (told : Option PlacedRefusal) (rest : List ℕ)
    → IfSome bits (λ bits. ExplainsFrom grammar told bits place) → IsSomeAnd bits (λ bits. grammar.Spells value bits rest) → IsNone told
refused-comes exact value None place told rest e s = absurd s
refused-comes exact value (Some bits) place None rest e s = refl
refused-comes exact value (Some bits) place (Some said) rest r s = absurd (exact.not_both value bits rest r.left said.refusal s r.refused)
