-- Steps of readers, one behind another.
use Rattle.std.proofs.Common.{◌≡◌, ◌+◌, ◌-◌, ◌^◌, ◌<◌, ◌≤◌, ℕ, List, length, Option, Some, None, IfSome, Result, Ok, Err, MatchResult, IsErrOf, IsErrAnd, refl, sym, ap, subst, ◌∙◌, inl, inr, arith}
use Rattle.std.proofs.lemmas.Bool.{cases_lt}
use Rattle.std.proofs.lemmas.List.{drop-drop}
use Rattle.shelf_io.specs.declared.fault.Fault.TheVariants.{Failed, Missing}
use Rattle.shelf_io.specs.declared.source.Source.{Ghosts}
use Rattle.shelf_io.specs.Counts.{Rose}
use Rattle.shelf_io.specs.Source.{without_front}
use Rattle.bit_cursor.specs.declared.bit_reader.BitReader.{BitReader}
use Rattle.bit_cursor.specs.BitReader.{source_of, faults_of, absences_of}
use Rattle.bit_cursor.proofs.Source.{keeps_then}
use Rattle.picture_grammar.specs.Refusal.{Refusal}
use Rattle.picture_grammar.specs.Grammar.{Grammar, done, ◌>>=◌}
use Rattle.grammar_reading.specs.BitsRead.{PlacedRefusal}
use Rattle.video_headers.specs.declared.fault.HeadFault.{HeadFault}
use Rattle.video_headers.specs.declared.fault.HeadFault.TheVariants.{Outside}
use Rattle.video_headers.specs.HeadFault.{refusal_told}
use Rattle.video_headers.specs.Runs.{Runs}
use Rattle.video_headers.specs.Private.Reading.{Goes, Stops, Answers}
use Rattle.shelf_io.proofs.Counted.{rose_later}

pub goes-done : {A : Type 0} (value : A) (from : ℕ → List ℕ → Type 0) → Goes (done value) value from from
goes-done value from = record { on = λ end bits left. (bits, (refl, refl), left) }

pub goes-bind : {A B : Type 0} {first : Grammar A} {a : A} {from middle : ℕ → List ℕ → Type 0} (next : A → Grammar B) {value : B} {to : ℕ → List ℕ → Type 0}
    → Goes first a from middle → Goes (next a) value middle to → Goes (first >>= next) value from to
goes-bind {a = a} next f g = record {
  on = λ end bits left.
      let (m, s, left') = f.on end bits left in
      let (rest, t, left'') = g.on end m left' in
      (rest, (a, m, s, t), left'');
}

behind_told : {A B : Type 0} (first : Grammar A) (a : A) (next : A → Grammar B) (told : Option PlacedRefusal) (end : ℕ) (bits m : List ℕ) → first.Spells a bits m
    → IfSome told (λ said. (left : List ℕ) × (next a).Refuses m said.refusal left × (said.at + length left ≡ end))
    → IfSome told (λ said. (left : List ℕ) × (first >>= next).Refuses bits said.refusal left × (said.at + length left ≡ end))
behind_told first a next None end bits m s why = tt
behind_told first a next (Some said) end bits m s (left, r, e) = (left, inr (a, m, s, r), e)

pub stops-behind : {A B : Type 0} {first : Grammar A} {a : A} {from middle : ℕ → List ℕ → Type 0} (next : A → Grammar B) {told : Option PlacedRefusal}
    → Goes first a from middle → Stops (next a) told middle → Stops (first >>= next) told from
stops-behind {first = first} {a = a} next {told} f g = record {
  why = λ end bits left.
      let (m, s, left') = f.on end bits left in
      behind_told first a next told end bits m s (g.why end m left');
}

first_told : {A B : Type 0} (first : Grammar A) (next : A → Grammar B) (told : Option PlacedRefusal) (end : ℕ) (bits : List ℕ)
    → IfSome told (λ said. (left : List ℕ) × first.Refuses bits said.refusal left × (said.at + length left ≡ end))
    → IfSome told (λ said. (left : List ℕ) × (first >>= next).Refuses bits said.refusal left × (said.at + length left ≡ end))
first_told first next None end bits why = tt
first_told first next (Some said) end bits (left, r, e) = (left, inl r, e)

pub stops-first : {A B : Type 0} {first : Grammar A} {from : ℕ → List ℕ → Type 0} (next : A → Grammar B) {told : Option PlacedRefusal} → Stops first told from → Stops (first >>= next) told from
stops-first {first = first} next {told} f = record { why = λ end bits left. first_told first next told end bits (f.why end bits left) }

-- ---- whole answers

pub runs-none : {S : Type 0} {g : Ghosts S} (reader : BitReader S g) → ((x : S) → g.keeps x x) → Runs reader reader
runs-none {g = g} reader itself = record {
  keeps = record { same_source = refl; keeps = itself _; faults = omega arith; absences = omega arith };
  count = 0;
  taken = record { rest = none_taken (g.left (source_of reader).now); fewer = omega arith };
  counted = omega arith;
  onward = omega arith;
} where
  none_taken : (told : Option (List ℕ)) → told ≡ without_front told 0
  none_taken None = refl
  none_taken (Some bytes) = refl

taken-twice : (told middle after : Option (List ℕ)) (m n : ℕ) → middle ≡ without_front told m → after ≡ without_front middle n → after ≡ without_front told (m + n)
taken-twice None middle after m n e f = f ∙ ap (λ t. without_front t n) e
taken-twice (Some bytes) middle after m n e f = f ∙ ap (λ t. without_front t n) e ∙ ap Some (drop-drop n m bytes)

gives-bind : {A B W : Type 0} {first : Grammar A} (next : A → Grammar B) (a : A) (value : W → B) (result : Result W HeadFault)
    {from : ℕ → List ℕ → Type 0} (to : ℕ → List ℕ → Type 0) (last : W → ℕ → List ℕ → Type 0)
    → Goes first a from to → MatchResult result (λ w. Goes (next a) (value w) to (last w)) (λ fault. Stops (next a) (refusal_told fault) to)
    → MatchResult result (λ w. Goes (first >>= next) (value w) from (last w)) (λ fault. Stops (first >>= next) (refusal_told fault) from)
gives-bind next a value (Ok w) to last f h = goes-bind next f h
gives-bind next a value (Err fault) to last f h = stops-behind next f h

module _ {S : Type 0} {g : Ghosts S} (keeps_on : (x y z : S) → g.keeps x y → g.keeps y z → g.keeps x z) where
  pub runs-then : {old middle new : BitReader S g} → Runs old middle → Runs middle new → Runs old new
  runs-then a b = record {
    keeps = keeps_then keeps_on a.keeps b.keeps;
    count = a.count + b.count;
    taken = record { rest = taken-twice _ _ _ a.count b.count a.taken.rest b.taken.rest; fewer = omega (arith, a.taken.fewer, b.taken.fewer) };
    counted = omega (arith, a.counted, b.counted);
    onward = omega (arith, a.onward, b.onward);
  }

  pub answers-bind : {A B V W : Type 0} {first : Grammar A} (next : A → Grammar B) {make : V → A} {v : V} {value : W → B}
      {result : Result W HeadFault} {from : ℕ → List ℕ → Type 0} {to : V → ℕ → List ℕ → Type 0} {last : W → ℕ → List ℕ → Type 0}
      {old middle new : BitReader S g} → Answers first make (Ok v) from to old middle → Answers (next (make v)) value result (to v) last middle new
      → Answers (first >>= next) value result from last old new
  answers-bind next {make = make} {v = v} {value = value} {result = result} {to = to} {last = last} a b = record {
    gives = gives-bind next (make v) value result (to v) last a.gives b.gives;
    runs = runs-then a.runs b.runs;
    failed = λ is. rose_later _ _ _ a.runs.keeps.faults b.runs.keeps.faults (b.failed is);
    missing = λ is. rose_later _ _ _ a.runs.keeps.absences b.runs.keeps.absences (b.missing is);
  }

pub answers-exit : {A B V W : Type 0} {first : Grammar A} (next : A → Grammar B) {make : V → A} {e : HeadFault} {value : W → B}
    (result : Result W HeadFault) {from : ℕ → List ℕ → Type 0} {to : V → ℕ → List ℕ → Type 0} {last : W → ℕ → List ℕ → Type 0}
    {S : Type 0} {g : Ghosts S} {old new : BitReader S g} → IsErrAnd result (λ f. f ≡ e) → Answers first make (Err e) from to old new → Answers (first >>= next) value result from last old new
answers-exit next (Ok w) is a = absurd is
answers-exit {first = first} next {e = e} {value = value} (Err fault) {from = from} {last = last} {old = old} {new = new} is a =
    subst (λ (f : HeadFault). Answers (first >>= next) value (Err f) from last old new) (sym is) (record {
      gives = stops-first next a.gives;
      runs = a.runs;
      failed = λ is. a.failed (let e = is in cc);
      missing = λ is. a.missing (let e = is in cc);
    })

pub answers-done : {A V : Type 0} (made : A) {value : V → A} (v : V) {from : ℕ → List ℕ → Type 0} {S : Type 0} {g : Ghosts S} (reader : BitReader S g) → ((x : S) → g.keeps x x) → value v ≡ made
    → Answers (done made) value (Ok v) from (λ v. from) reader reader
answers-done made {value} v {from} reader itself is = record {
  gives = subst (λ (x : _). Goes (done made) x from from) (sym is) (goes-done made from);
  runs = runs-none reader itself;
  failed = λ is. cc;
  missing = λ is. cc;
}

pub answers-of : {A V : Type 0} {grammar : Grammar A} {value : V → A} {result : Result V HeadFault} {from : ℕ → List ℕ → Type 0}
    {to : V → ℕ → List ℕ → Type 0} {S : Type 0} {g : Ghosts S} {old new : BitReader S g}
    → MatchResult result (λ v. Goes grammar (value v) from (to v)) (λ fault. Stops grammar (refusal_told fault) from) → Runs old new
    → (IsErrOf result (Outside Failed) → Rose (faults_of old) (faults_of new)) → (IsErrOf result (Outside Missing) → Rose (absences_of old) (absences_of new))
    → Answers grammar value result from to old new
answers-of gives runs failed missing = record { gives = gives; runs = runs; failed = failed; missing = missing }

-- the same refusal of another call
pub answers-as : {A V W : Type 0} {grammar : Grammar A} {make : V → A} {e : HeadFault} {value : W → A} (result : Result W HeadFault)
    {from : ℕ → List ℕ → Type 0} {to : V → ℕ → List ℕ → Type 0} {last : W → ℕ → List ℕ → Type 0}
    {S : Type 0} {g : Ghosts S} {old new : BitReader S g} → IsErrAnd result (λ f. f ≡ e) → Answers grammar make (Err e) from to old new → Answers grammar value result from last old new
answers-as (Ok w) is a = absurd is
answers-as {grammar = grammar} {e = e} {value = value} (Err fault) {from = from} {last = last} {old = old} {new = new} is a =
    subst (λ (f : HeadFault). Answers grammar value (Err f) from last old new) (sym is) (record {
      gives = a.gives;
      runs = a.runs;
      failed = λ is. a.failed (let e = is in cc);
      missing = λ is. a.missing (let e = is in cc);
    })

-- ---- where a reader says less of a value than the grammar

-- what an answer says of the source alone
pub record Follows {W : Type 0} {S : Type 0} {g : Ghosts S} (result : Result W HeadFault) (old new : BitReader S g) : Type 0 where
  pub runs : Runs old new
  pub failed : IsErrOf result (Outside Failed) → Rose (faults_of old) (faults_of new)
  pub missing : IsErrOf result (Outside Missing) → Rose (absences_of old) (absences_of new)

pub follows : {A W : Type 0} {grammar : Grammar A} {value : W → A} {result : Result W HeadFault} {from : ℕ → List ℕ → Type 0}
    {last : W → ℕ → List ℕ → Type 0} {S : Type 0} {g : Ghosts S} {old new : BitReader S g}
    → Answers grammar value result from last old new → Follows result old new
follows a = record { runs = a.runs; failed = a.failed; missing = a.missing }

module _ {A X : Type 0} (first : Grammar A) (f : A → X) where
  refuses-made : (bits left : List ℕ) (r : Refusal) → (first >>= λ a. done (f a)).Refuses bits r left → first.Refuses bits r left
  refuses-made bits left r (inl s) = s
  refuses-made bits left r (inr (a, m, s, none)) = absurd none

  stops-made : (told : Option PlacedRefusal) {from : ℕ → List ℕ → Type 0} → Stops (first >>= λ a. done (f a)) told from → Stops first told from
  stops-made told stops = record { why = λ end bits left. by_told told end bits (stops.why end bits left) } where
    by_told : (told : Option PlacedRefusal) (end : ℕ) (bits : List ℕ)
        → IfSome told (λ said. (left : List ℕ) × (first >>= λ a. done (f a)).Refuses bits said.refusal left × (said.at + length left ≡ end))
        → IfSome told (λ said. (left : List ℕ) × first.Refuses bits said.refusal left × (said.at + length left ≡ end))
    by_told None end bits why = tt
    by_told (Some said) end bits (left, r, e) = (left, refuses-made bits left said.refusal r, e)

  gives-mapped : {B W : Type 0} (next : A → Grammar B) (x : X) (value : W → B) (result : Result W HeadFault) {from : ℕ → List ℕ → Type 0} (to : ℕ → List ℕ → Type 0) (last : W → ℕ → List ℕ → Type 0)
      → Goes (first >>= λ a. done (f a)) x from to
      → ((a : A) → f a ≡ x → MatchResult result (λ w. Goes (next a) (value w) to (last w)) (λ fault. Stops (next a) (refusal_told fault) to))
      → MatchResult result (λ w. Goes (first >>= next) (value w) from (last w)) (λ fault. Stops (first >>= next) (refusal_told fault) from)
  gives-mapped next x value (Ok w) to last g h = record {
    on = λ end bits left.
        let (rest, (a, m, s, (e, e')), left') = g.on end bits left in
        let (rest', t, left'') = (h a (sym e)).on end rest left' in
        (rest', (a, rest, subst (λ (b : List ℕ). first.Spells a bits b) e' s, t), left'');
  }
  gives-mapped next x value (Err fault) to last g h = record {
    why = λ end bits left.
        let (rest, (a, m, s, (e, e')), left') = g.on end bits left in
        behind_told first a next (refusal_told fault) end bits rest (subst (λ (b : List ℕ). first.Spells a bits b) e' s) ((h a (sym e)).why end rest left');
  }

  -- a reader behind, whatever the value that isn't told
  pub answers-mapped : {S : Type 0} {g : Ghosts S} (keeps_on : (x y z : S) → g.keeps x y → g.keeps y z → g.keeps x z) {B V W : Type 0}
      (next : A → Grammar B) {make : V → X} {v : V} {value : W → B} {result : Result W HeadFault} {from : ℕ → List ℕ → Type 0}
      {to : V → ℕ → List ℕ → Type 0} {last : W → ℕ → List ℕ → Type 0} {old middle new : BitReader S g} → Answers (first >>= λ a. done (f a)) make (Ok v) from to old middle
      → Follows result middle new → ((a : A) → f a ≡ make v → MatchResult result (λ w. Goes (next a) (value w) (to v) (last w))
      (λ fault. Stops (next a) (refusal_told fault) (to v))) → Answers (first >>= next) value result from last old new
  answers-mapped keeps_on next {make = make} {v = v} {value = value} {result = result} {to = to} {last = last} a b h = record {
    gives = gives-mapped next (make v) value result (to v) last a.gives h;
    runs = runs-then keeps_on a.runs b.runs;
    failed = λ is. rose_later _ _ _ a.runs.keeps.faults b.runs.keeps.faults (b.failed is);
    missing = λ is. rose_later _ _ _ a.runs.keeps.absences b.runs.keeps.absences (b.missing is);
  }

  pub answers-made_exit : {B V W : Type 0} (next : A → Grammar B) {make : V → X} {e : HeadFault} {value : W → B} (result : Result W HeadFault)
      {from : ℕ → List ℕ → Type 0} {to : V → ℕ → List ℕ → Type 0} {last : W → ℕ → List ℕ → Type 0}
      {S : Type 0} {g : Ghosts S} {old new : BitReader S g} → IsErrAnd result (λ f. f ≡ e)
      → Answers (first >>= λ a. done (f a)) make (Err e) from to old new → Answers (first >>= next) value result from last old new
  answers-made_exit next (Ok w) is a = absurd is
  answers-made_exit next {e = e} {value = value} (Err fault) {from = from} {last = last} {old = old} {new = new} is a =
      subst (λ (f : HeadFault). Answers (first >>= next) value (Err f) from last old new) (sym is) (record {
        gives = stops-first next (stops-made (refusal_told e) a.gives);
        runs = a.runs;
        failed = λ is. a.failed (let e = is in cc);
        missing = λ is. a.missing (let e = is in cc);
      })

-- ---- grammars that are joined in other ways

behind_joined : {B C : Type 0} (second : Grammar B) (both : Grammar C) (bits m : List ℕ) → ((left : List ℕ) (r : Refusal) → second.Refuses m r left → both.Refuses bits r left)
    → (told : Option PlacedRefusal) (end : ℕ) → IfSome told (λ said. (left : List ℕ) × second.Refuses m said.refusal left × (said.at + length left ≡ end))
    → IfSome told (λ said. (left : List ℕ) × both.Refuses bits said.refusal left × (said.at + length left ≡ end))
behind_joined second both bits m together None end why = tt
behind_joined second both bits m together (Some said) end (left, r, e) = (left, together left said.refusal r, e)

module _ {A B C : Type 0} {first : Grammar A} {second : Grammar B} {both : Grammar C} {S : Type 0} {g : Ghosts S} (keeps_on : (x y z : S) → g.keeps x y → g.keeps y z → g.keeps x z)
    {from middle to : ℕ → List ℕ → Type 0} {old mid new : BitReader S g} where
  pub joined : {V W U : Type 0} {make : V → A} {v : V} {make' : W → B} {w : W} {value : U → C} (a : A) (b : B) {u : U} (c : C)
      → ((bits m rest : List ℕ) → first.Spells a bits m → second.Spells b m rest → both.Spells c bits rest)
      → Answers first make (Ok v) from (λ _. middle) old mid → Answers second make' (Ok w) middle (λ _. to) mid new → make v ≡ a → make' w ≡ b
      → value u ≡ c → Answers both value (Ok u) from (λ _. to) old new
  joined a b c together x y is is' is'' = record {
    gives = record {
      on = λ end bits left.
          let (m, s, left') = x.gives.on end bits left in
          let (rest, t, left'') = y.gives.on end m left' in (
            rest,
            subst (λ (k : C). both.Spells k bits rest) (sym is'')
                (together bits m rest (subst (λ (k : A). first.Spells k bits m) is s) (subst (λ (k : B). second.Spells k m rest) is' t)),
            left'',
          );
    };
    runs = runs-then keeps_on x.runs y.runs;
    failed = λ is. cc;
    missing = λ is. cc;
  }

  pub joined_exit : {V W U : Type 0} {make : V → A} {v : V} {make' : W → B} {e : HeadFault} {value : U → C} {last : U → ℕ → List ℕ → Type 0} (a : A)
      (result : Result U HeadFault) → IsErrAnd result (λ f. f ≡ e)
      → ((bits m left : List ℕ) (r : Refusal) → first.Spells a bits m → second.Refuses m r left → both.Refuses bits r left)
      → Answers first make (Ok v) from (λ _. middle) old mid → Answers second make' (Err e) middle (λ _. to) mid new → make v ≡ a → Answers both value result from last old new
  joined_exit a (Ok u) is together x y is' = absurd is
  joined_exit {e = e} {value = value} {last = last} a (Err fault) is together x y is' =
      subst (λ (f : HeadFault). Answers both value (Err f) from last old new) (sym is) (record {
        gives = record {
          why = λ end bits left.
              let (m, s, left') = x.gives.on end bits left in
              behind_joined second both bits m (λ left r u. together bits m left r (subst (λ (k : A). first.Spells k bits m) is' s) u) (refusal_told e) end (y.gives.why end m left');
        };
        runs = runs-then keeps_on x.runs y.runs;
        failed = λ is. rose_later _ _ _ x.runs.keeps.faults y.runs.keeps.faults (y.failed (let e = is in cc));
        missing = λ is. rose_later _ _ _ x.runs.keeps.absences y.runs.keeps.absences (y.missing (let e = is in cc));
      })

pub follows-none : {W : Type 0} {w : W} {S : Type 0} {g : Ghosts S} (reader : BitReader S g) → ((x : S) → g.keeps x x) → Follows (Ok w) reader reader
follows-none reader itself = record { runs = runs-none reader itself; failed = λ is. cc; missing = λ is. cc }
