-- Lists read one value at a time: what was read so far, one more value, the end, and a refusal.
use Rattle.std.proofs.Common.{◌≡◌, ℕ, List, [], ◌∷◌, ◌++◌, Option, Some, None, IfSome, refl, sym, ap, ap₂, subst, ◌∙◌, arith, append_assoc, append-nil}
use Rattle.picture_grammar.specs.Refusal.{Refusal}
use Rattle.picture_grammar.specs.Grammar.{Grammar, many, SpellsList, RefusesAfter, Next}
use Rattle.picture_grammar.specs.Grammar.Next.{more, last}
use Rattle.picture_grammar.specs.Exact.{IsExact, IsLocal}
use Rattle.grammar_reading.specs.BitsRead.{PlacedRefusal, ReadsFrom, ExplainsFrom}
use Rattle.grammar_reading.specs.Several.{SpellsFront, several}
use Rattle.grammar_reading.proofs.BitsRead.{reads-both, explains-both, StandsBefore}

-- ---- a list from its front

module _ {A B : Type 0} (next : List A → Grammar (Next A B)) where
  front-append : (before values : List A) (value : A) (bits middle rest : List ℕ) → SpellsFront next before values bits middle
      → (next (before ++ values)).Spells (more value) middle rest → SpellsFront next before (values ++ value ∷ []) bits rest
  front-append before [] value bits middle rest e s =
      (rest, subst (λ b. (next before).Spells (more value) b rest) (sym e) (subst (λ (vs : List A). (next vs).Spells (more value) middle rest) (append-nil before) s), refl)
  front-append before (v ∷ vs) value bits middle rest (m, s, t) u =
      (m, s, front-append (before ++ v ∷ []) vs value m middle rest t (subst (λ (ws : List A). (next ws).Spells (more value) middle rest) (sym (append_assoc before (v ∷ []) vs)) u))

  front-then : (before values others : List A) (end : B) (bits middle rest : List ℕ) → SpellsFront next before values bits middle
      → SpellsList next (before ++ values) others end middle rest → SpellsList next before (values ++ others) end bits rest
  front-then before [] others end bits middle rest e s =
      subst (λ b. SpellsList next before others end b rest) (sym e) (subst (λ (vs : List A). SpellsList next vs others end middle rest) (append-nil before) s)
  front-then before (v ∷ vs) others end bits middle rest (m, s, t) u =
      (m, s, front-then (before ++ v ∷ []) vs others end m middle rest t (subst (λ (ws : List A). SpellsList next ws others end middle rest) (sym (append_assoc before (v ∷ []) vs)) u))

  front-refuses : (before values others : List A) (bits middle left : List ℕ) (refusal : Refusal) → SpellsFront next before values bits middle
      → RefusesAfter next (before ++ values) others middle refusal left → RefusesAfter next before (values ++ others) bits refusal left
  front-refuses before [] others bits middle left refusal e r =
      subst (λ b. RefusesAfter next before others b refusal left) (sym e) (subst (λ (vs : List A). RefusesAfter next vs others middle refusal left) (append-nil before) r)
  front-refuses before (v ∷ vs) others bits middle left refusal (m, s, t) u =
      (m, s, front-refuses (before ++ v ∷ []) vs others m middle left refusal t (subst (λ (ws : List A). RefusesAfter next ws others middle refusal left) (sym (append_assoc before (v ∷ []) vs)) u))

  -- where a whole list is spelled, behind its first values the others and the end are
  front-rest : ((before : List A) → IsExact (next before)) → (before values all : List A) (end : B) (bits middle rest : List ℕ) → SpellsFront next before values bits middle
      → SpellsList next before all end bits rest → (others : List A) × (all ≡ values ++ others) × SpellsList next (before ++ values) others end middle rest
  front-rest exact before [] all end bits middle rest e s =
      (all, refl, subst (λ (vs : List A). SpellsList next vs all end middle rest) (sym (append-nil before)) (subst (λ b. SpellsList next before all end b rest) e s))
  front-rest exact before (v ∷ vs) [] end bits middle rest (m, s, t) u =
      absurd (let same = (exact before).one_value (more v) (last end) bits m rest s u in let e = same.0 in cc)
  front-rest exact before (v ∷ vs) (w ∷ ws) end bits middle rest (m, s, t) (m', s', t') =
      let same = (exact before).one_value (more v) (more w) bits m m' s s' in
      let value : v ≡ w = (let e = same.0 in cc) in
      let u = subst (λ (x : A). SpellsList next (before ++ x ∷ []) ws end m rest) (sym value) (subst (λ b. SpellsList next (before ++ w ∷ []) ws end b rest) (sym same.1) t') in
      let (others, e, s'') = front-rest exact (before ++ v ∷ []) vs ws end m middle rest t u in
      (others, ap₂ (λ (x : A) (xs : List A). x ∷ xs) (sym value) e, subst (λ (xs : List A). SpellsList next xs others end middle rest) (append_assoc before (v ∷ []) vs) s'')

  -- ---- the same from the first value on

  pub several-more : (values : List A) (value : A) (bits middle rest : List ℕ) → (several next).Spells values bits middle
      → (next values).Spells (more value) middle rest → (several next).Spells (values ++ value ∷ []) bits rest
  several-more values value bits middle rest s t = front-append [] values value bits middle rest s t

  pub several-end : (values : List A) (end : B) (bits middle rest : List ℕ) → (several next).Spells values bits middle
      → (next values).Spells (last end) middle rest → (many next).Spells (values, end) bits rest
  several-end values end bits middle rest s t =
      subst (λ (vs : List A). SpellsList next [] vs end bits rest) (append-nil values) (front-then [] values [] end bits middle rest s t)

  pub several-refused : (values : List A) (bits middle left : List ℕ) (refusal : Refusal) → (several next).Spells values bits middle
      → (next values).Refuses middle refusal left → (many next).Refuses bits refusal left
  several-refused values bits middle left refusal s r = (values ++ [], front-refuses [] values [] bits middle left refusal s r)

  pub several-rest : ((before : List A) → IsExact (next before)) → (values all : List A) (end : B) (bits middle rest : List ℕ) → (several next).Spells values bits middle
      → (many next).Spells (all, end) bits rest → (others : List A) × (all ≡ values ++ others) × SpellsList next values others end middle rest
  several-rest exact values all end bits middle rest s t = front-rest exact [] values all end bits middle rest s t

  -- ---- a reader that takes one value at a time

  pub reads-none : (bits : Option (List ℕ)) (place : ℕ) → ReadsFrom (several next) [] bits bits place place
  reads-none None place = record { front = []; spelled = ([], refl); left = refl; moved = omega arith }
  reads-none (Some bits) place = record { front = []; spelled = refl; left = refl; moved = omega arith }

  module _ {values : List A} {bits middle : Option (List ℕ)} {place place_middle : ℕ} where
    pub reads-more : {value : A} {after : Option (List ℕ)} {place_after : ℕ} → StandsBefore (several next) values (next values) (more value)
        → ReadsFrom (several next) values bits middle place place_middle → ReadsFrom (next values) (more value) middle after place_middle place_after
        → ReadsFrom (several next) (values ++ value ∷ []) bits after place place_after
    reads-more {value} before r s = reads-both (several next) (next values) (several next) values (more value) (values ++ value ∷ []) (several-more values value) before r s

    pub reads-end : {end : B} {after : Option (List ℕ)} {place_after : ℕ} → StandsBefore (several next) values (next values) (last end)
        → ReadsFrom (several next) values bits middle place place_middle → ReadsFrom (next values) (last end) middle after place_middle place_after
        → ReadsFrom (many next) (values, end) bits after place place_after
    reads-end {end} before r s = reads-both (several next) (next values) (many next) values (last end) (values, end) (several-end values end) before r s

    pub explains-list : (told : Option PlacedRefusal) → ReadsFrom (several next) values bits middle place place_middle
        → IfSome middle (λ rest. ExplainsFrom (next values) told rest place_middle) → IfSome bits (λ bits. ExplainsFrom (many next) told bits place)
    explains-list told r e = explains-both (several next) (next values) (many next) values (several-refused values) told r e

  -- the first values of a list whose items don't look ahead don't either
  front-local : ((before : List A) → IsLocal (next before)) → (before values : List A) (bits rest : List ℕ) → SpellsFront next before values bits rest
      → (front : List ℕ) × (bits ≡ front ++ rest) × ((following : List ℕ) → SpellsFront next before values (front ++ following) following)
  front-local local before [] bits rest e = ([], e, λ following. refl)
  front-local local before (v ∷ vs) bits rest (m, s, t) =
      let (f, p, q) = (local before).anywhere (more v) bits m s in
      let (g, p', q') = front-local local (before ++ v ∷ []) vs m rest t in (
        f ++ g,
        p ∙ ap (λ x. f ++ x) p' ∙ sym (append_assoc f g rest),
        λ following. (g ++ following, subst (λ b. (next before).Spells (more v) b (g ++ following)) (sym (append_assoc f g following)) (q (g ++ following)), q' following),
      )

  pub local-several : ((before : List A) → IsLocal (next before)) → IsLocal (several next)
  local-several local = record { anywhere = λ values bits rest s. front-local local [] values bits rest s }
