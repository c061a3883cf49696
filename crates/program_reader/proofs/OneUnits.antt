-- A video has one list of kept units and pictures, or one fault.
use Rattle.std.proofs.Common.{◌≡◌, ◌⊎◌, ℕ, Bool, true, List, [], ◌∷◌, ◌++◌, map, Option, None, Some, refl, sym, ap, ap₂, ◌∙◌, subst, inl, inr, arith, ℤ, pos, ◌*ℤ◌}
use Rattle.std.specs.List.{last_or}
use Rattle.pes_units.specs.declared.times.Times.{Times}
use Rattle.pes_units.specs.Times.{decoding_time}
use Rattle.picture_grammar.specs.Refusal.{Refusal}
use Rattle.syntax_types.specs.declared.picture.PicCoding.{PicCoding}
use Rattle.syntax_types.specs.declared.picture.SeqState.{SeqState}
use Rattle.elementary_streams.specs.declared.pes_packets.PlacedPacket.{PlacedPacket}
use Rattle.elementary_streams.proofs.OneAudio.{unwrapped_one}
use Rattle.program_reader.specs.declared.program_fault.ProgramFault.{ProgramFault}
use Rattle.program_reader.specs.declared.program_fault.ProgramFault.TheVariants.{Refused}
use Rattle.program_reader.specs.declared.timed_picture.Role.{Role}
use Rattle.program_reader.specs.declared.timed_picture.TimedPicture.{TimedPicture}
use Rattle.program_reader.specs.Faults.{source_kind_of}
use Rattle.program_reader.specs.PictureTimes.{times_of_unit}
use Rattle.program_reader.specs.Intervals.{CodedPicture, before_frame, nearest, reference_shown}
use Rattle.program_reader.specs.Units.{coded_as, role_of, IsCoded, IsBroken, IsUnpaired, IsTimed, HasNoTime, IsLater, IsNext, IsUnitRefused, broken, unpaired, long, no_time, not_later, AreInOrder, is_none_left, IsUnitsFault, AreKept, all, but_last}
use Rattle.program_reader.proofs.OnePicture.{coded_one, coded_or_broken, broken_one}

-- ---- a unit

pub timed_one : (before : Option TimedPicture) (value : Option ℕ) (s t ticks other : ℤ) → IsTimed before value s ticks → IsTimed before value t other → (s ≡ t) × (ticks ≡ other)
timed_one None None s t ticks other is is' = absurd is
timed_one None (Some v) s t ticks other is is' =
    let same : s ≡ t = is.0 ∙ sym is'.0 in (same, is.1 ∙ ap (λ (x : ℤ). pos 300 *ℤ x) same ∙ sym is'.1)
timed_one (Some b) (Some v) s t ticks other is is' =
    let same : s ≡ t = unwrapped_one b.stated v s t is.0 is'.0 in (same, is.1 ∙ ap (λ (x : ℤ). pos 300 *ℤ x) same ∙ sym is'.1)
timed_one (Some b) None s t ticks other is is' = (is.0 ∙ sym is'.0, is.1 ∙ sym is'.1)

timed_or_not : (before : Option TimedPicture) (value : Option ℕ) (s ticks : ℤ) → IsTimed before value s ticks → HasNoTime before value → ⊥
timed_or_not None None s ticks is none = is
timed_or_not None (Some v) s ticks is none = none
timed_or_not (Some b) (Some v) s ticks is none = none
timed_or_not (Some b) None s ticks is none = none

same_coded : (p q : TimedPicture) → p.seq ≡ q.seq → p.coding ≡ q.coding → p.role ≡ q.role → coded_as p ≡ coded_as q
same_coded p q seqs codings roles =
    ap₂ (λ (s : SeqState) (c : PicCoding). coded s c p.role) seqs codings ∙ ap (λ (r : Role). coded q.seq q.coding r) roles
  where
    coded : SeqState → PicCoding → Role → CodedPicture
    coded s c r = record { seq = s; coding = c; role = r }

same_picture : (p q : TimedPicture) → p.seq ≡ q.seq → p.coding ≡ q.coding → p.role ≡ q.role → p.reference_before ≡ q.reference_before → p.reference_behind ≡ q.reference_behind →
    p.times ≡ q.times → p.stated ≡ q.stated → p.ticks ≡ q.ticks → p ≡ q
same_picture p q seqs codings roles befores behinds times stateds tickses =
    ap₂ (λ (s : SeqState) (c : PicCoding). record p { seq = s; coding = c }) seqs codings
    ∙ ap₂ (λ (r : Role) (t : Times). record p { seq = q.seq; coding = q.coding; role = r; times = t }) roles times
    ∙ ap₂ (λ (b e : Option ℕ). record q { reference_before = b; reference_behind = e; stated = p.stated; ticks = p.ticks }) befores behinds
    ∙ ap₂ (λ (s t : ℤ). record q { stated = s; ticks = t }) stateds tickses

module _ (es : List ℕ) (packets : List PlacedPacket) where
  next_times : (earlier : List TimedPicture) (unit : ℕ × ℕ) (p : TimedPicture) → IsNext es packets earlier unit p →
      IsTimed (nearest earlier) (decoding_time (times_of_unit es packets unit)) p.stated p.ticks
  next_times earlier unit p is = subst (λ (t : Times). IsTimed (nearest earlier) (decoding_time t) p.stated p.ticks) is.times_are is.timed

  pub next_one : (earlier : List TimedPicture) (unit : ℕ × ℕ) (p q : TimedPicture) → IsNext es packets earlier unit p → IsNext es packets earlier unit q → p ≡ q
  next_one earlier unit p q is is' =
      let before = nearest earlier in
      let coded = coded_one es before unit p.seq q.seq p.coding q.coding is.coded is'.coded in
      let times = timed_one before (decoding_time (times_of_unit es packets unit)) p.stated q.stated p.ticks q.ticks (next_times earlier unit p is) (next_times earlier unit q is') in
      let roles : p.role ≡ q.role = is.role_is ∙ ap (role_of before) coded.1 ∙ sym is'.role_is in
      let befores : p.reference_before ≡ q.reference_before =
      is.reference.before ∙ ap (λ (r : Role). reference_shown (before_frame r (map coded_as earlier))) roles ∙ sym is'.reference.before in
      let behinds : p.reference_behind ≡ q.reference_behind =
      is.reference.behind ∙ ap (λ (c : CodedPicture). reference_shown (c ∷ map coded_as earlier)) (same_coded p q coded.0 coded.1 roles) ∙ sym is'.reference.behind in
      same_picture p q coded.0 coded.1 roles befores behinds (is.times_are ∙ sym is'.times_are) times.0 times.1

  pub refused_or_next : (earlier : List TimedPicture) (unit : ℕ × ℕ) (is_last : Bool) (fault : ProgramFault) (p : TimedPicture) → IsUnitRefused es packets (nearest earlier) unit is_last fault →
      IsNext es packets earlier unit p → ⊥
  refused_or_next earlier unit is_last fault p (broken refusal at mid is e) next = coded_or_broken es (nearest earlier) unit p.seq p.coding refusal at next.coded is
  refused_or_next earlier unit is_last fault p (unpaired seq coding coded is e) next =
      next.paired (subst (IsUnpaired (nearest earlier)) (coded_one es (nearest earlier) unit seq p.seq coding p.coding coded next.coded).1 is)
  refused_or_next earlier unit is_last fault p (long seq coding coded paired far e) next = omega (arith, far, next.short)
  refused_or_next earlier unit is_last fault p (no_time seq coding coded paired short none e) next =
      timed_or_not (nearest earlier) (decoding_time (times_of_unit es packets unit)) p.stated p.ticks (next_times earlier unit p next) none
  refused_or_next earlier unit is_last fault p (not_later seq coding stated ticks coded paired short timed late e) next =
      late (subst (IsLater (nearest earlier)) (timed_one (nearest earlier) (decoding_time (times_of_unit es packets unit)) p.stated stated p.ticks ticks (next_times earlier unit p next) timed).1 next.later)

  -- what is coded with this coding is no more unpaired with another one
  paired_or_not : (before : Option TimedPicture) (unit : ℕ × ℕ) (s t : SeqState) (c d : PicCoding) → IsCoded es before unit s c → IsCoded es before unit t d → ¬ IsUnpaired before c →
      IsUnpaired before d → ⊥
  paired_or_not before unit s t c d is is' paired unp = paired (subst (IsUnpaired before) (sym (coded_one es before unit s t c d is is').1) unp)

  pub refusal_one : (before : Option TimedPicture) (unit : ℕ × ℕ) (is_last : Bool) (a b : ProgramFault) → IsUnitRefused es packets before unit is_last a →
      IsUnitRefused es packets before unit is_last b → a ≡ b
  refusal_one before unit is_last a b (broken r at mid is e) (broken r' at' mid' is' e') =
      let same = broken_one es before unit r r' at at' is is' in e ∙ ap₂ (λ (s : Refusal) (n : ℕ). Refused (source_kind_of s) n) same.0 same.1 ∙ sym e'
  refusal_one before unit is_last a b (broken r at mid is e) (unpaired seq coding coded unp e') = absurd (coded_or_broken es before unit seq coding r at coded is)
  refusal_one before unit is_last a b (broken r at mid is e) (long seq coding coded paired far e') = absurd (coded_or_broken es before unit seq coding r at coded is)
  refusal_one before unit is_last a b (broken r at mid is e) (no_time seq coding coded paired short none e') = absurd (coded_or_broken es before unit seq coding r at coded is)
  refusal_one before unit is_last a b (broken r at mid is e) (not_later seq coding stated ticks coded paired short timed late e') =
      absurd (coded_or_broken es before unit seq coding r at coded is)
  refusal_one before unit is_last a b (unpaired seq coding coded unp e) (broken r at mid is e') = absurd (coded_or_broken es before unit seq coding r at coded is)
  refusal_one before unit is_last a b (unpaired seq coding coded unp e) (unpaired seq' coding' coded' unp' e') = e ∙ sym e'
  refusal_one before unit is_last a b (unpaired seq coding coded unp e) (long seq' coding' coded' paired far e') = absurd (paired_or_not before unit seq' seq coding' coding coded' coded paired unp)
  refusal_one before unit is_last a b (unpaired seq coding coded unp e) (no_time seq' coding' coded' paired short none e') =
      absurd (paired_or_not before unit seq' seq coding' coding coded' coded paired unp)
  refusal_one before unit is_last a b (unpaired seq coding coded unp e) (not_later seq' coding' stated ticks coded' paired short timed late e') =
      absurd (paired_or_not before unit seq' seq coding' coding coded' coded paired unp)
  refusal_one before unit is_last a b (long seq coding coded paired far e) (broken r at mid is e') = absurd (coded_or_broken es before unit seq coding r at coded is)
  refusal_one before unit is_last a b (long seq coding coded paired far e) (unpaired seq' coding' coded' unp e') = absurd (paired_or_not before unit seq seq' coding coding' coded coded' paired unp)
  refusal_one before unit is_last a b (long seq coding coded paired far e) (long seq' coding' coded' paired' far' e') = e ∙ sym e'
  refusal_one before unit is_last a b (long seq coding coded paired far e) (no_time seq' coding' coded' paired' short none e') = absurd (omega (arith, far, short))
  refusal_one before unit is_last a b (long seq coding coded paired far e) (not_later seq' coding' stated ticks coded' paired' short timed late e') = absurd (omega (arith, far, short))
  refusal_one before unit is_last a b (no_time seq coding coded paired short none e) (broken r at mid is e') = absurd (coded_or_broken es before unit seq coding r at coded is)
  refusal_one before unit is_last a b (no_time seq coding coded paired short none e) (unpaired seq' coding' coded' unp e') =
      absurd (paired_or_not before unit seq seq' coding coding' coded coded' paired unp)
  refusal_one before unit is_last a b (no_time seq coding coded paired short none e) (long seq' coding' coded' paired' far e') = absurd (omega (arith, far, short))
  refusal_one before unit is_last a b (no_time seq coding coded paired short none e) (no_time seq' coding' coded' paired' short' none' e') = e ∙ sym e'
  refusal_one before unit is_last a b (no_time seq coding coded paired short none e) (not_later seq' coding' stated ticks coded' paired' short' timed late e') =
      absurd (timed_or_not before (decoding_time (times_of_unit es packets unit)) stated ticks timed none)
  refusal_one before unit is_last a b (not_later seq coding stated ticks coded paired short timed late e) (broken r at mid is e') = absurd (coded_or_broken es before unit seq coding r at coded is)
  refusal_one before unit is_last a b (not_later seq coding stated ticks coded paired short timed late e) (unpaired seq' coding' coded' unp e') =
      absurd (paired_or_not before unit seq seq' coding coding' coded coded' paired unp)
  refusal_one before unit is_last a b (not_later seq coding stated ticks coded paired short timed late e) (long seq' coding' coded' paired' far e') = absurd (omega (arith, far, short))
  refusal_one before unit is_last a b (not_later seq coding stated ticks coded paired short timed late e) (no_time seq' coding' coded' paired' short' none e') =
      absurd (timed_or_not before (decoding_time (times_of_unit es packets unit)) stated ticks timed none)
  refusal_one before unit is_last a b (not_later seq coding stated ticks coded paired short timed late e) (not_later seq' coding' stated' ticks' coded' paired' short' timed' late' e') = e ∙ sym e'

  -- ---- units, one behind the other

  pub order_one : (earlier : List TimedPicture) (units : List (ℕ × ℕ)) (ps qs : List TimedPicture) → AreInOrder es packets earlier units ps → AreInOrder es packets earlier units qs → ps ≡ qs
  order_one earlier [] [] [] are are' = refl
  order_one earlier [] [] (q ∷ qs) are are' = absurd are'
  order_one earlier [] (p ∷ ps) qs are are' = absurd are
  order_one earlier (u ∷ us) [] qs are are' = absurd are
  order_one earlier (u ∷ us) (p ∷ ps) [] are are' = absurd are'
  order_one earlier (u ∷ us) (p ∷ ps) (q ∷ qs) are are' =
      let same : p ≡ q = next_one earlier u p q are.0 are'.0 in
      ap₂ (λ (x : TimedPicture) (xs : List TimedPicture). x ∷ xs) same
      (order_one (q ∷ earlier) us ps qs (subst (λ (x : TimedPicture). AreInOrder es packets (x ∷ earlier) us ps) same are.1) are'.1)

  -- the first unit that is refused, unit by unit
  abbrev FaultFrom : (earlier : List TimedPicture) → List (ℕ × ℕ) → ProgramFault → Type 0
  FaultFrom earlier [] fault = ⊥
  FaultFrom earlier (unit ∷ units) fault =
      IsUnitRefused es packets (nearest earlier) unit (is_none_left units) fault ⊎ ((picture : TimedPicture) × IsNext es packets earlier unit picture × FaultFrom (picture ∷ earlier) units fault)

  fault_from : (earlier : List TimedPicture) (front : List (ℕ × ℕ)) (unit : ℕ × ℕ) (more : List (ℕ × ℕ)) (ps : List TimedPicture) (fault : ProgramFault) → AreInOrder es packets earlier front ps →
      IsUnitRefused es packets (last_or (nearest earlier) ps) unit (is_none_left more) fault → FaultFrom earlier (front ++ unit ∷ more) fault
  fault_from earlier [] unit more [] fault are refused = inl refused
  fault_from earlier [] unit more (p ∷ ps) fault are refused = absurd are
  fault_from earlier (u ∷ us) unit more [] fault are refused = absurd are
  fault_from earlier (u ∷ us) unit more (p ∷ ps) fault are refused = inr (p, are.0, fault_from (p ∷ earlier) us unit more ps fault are.1 refused)

  from_one : (earlier : List TimedPicture) (units : List (ℕ × ℕ)) (a b : ProgramFault) → FaultFrom earlier units a → FaultFrom earlier units b → a ≡ b
  from_one earlier [] a b is is' = absurd is
  from_one earlier (u ∷ us) a b (inl is) (inl is') = refusal_one (nearest earlier) u (is_none_left us) a b is is'
  from_one earlier (u ∷ us) a b (inl is) (inr (p, next, rest)) = absurd (refused_or_next earlier u (is_none_left us) a p is next)
  from_one earlier (u ∷ us) a b (inr (p, next, rest)) (inl is) = absurd (refused_or_next earlier u (is_none_left us) b p is next)
  from_one earlier (u ∷ us) a b (inr (p, next, rest)) (inr (q, next', rest')) =
      from_one (q ∷ earlier) us a b (subst (λ (x : TimedPicture). FaultFrom (x ∷ earlier) us a) (next_one earlier u p q next next') rest) rest'

  pub units_fault_one : (units : List (ℕ × ℕ)) (a b : ProgramFault) → IsUnitsFault es packets units a → IsUnitsFault es packets units b → a ≡ b
  units_fault_one units a b is is' = from_one [] units a b (walked units a is) (walked units b is')
    where
      walked : (units : List (ℕ × ℕ)) (fault : ProgramFault) → IsUnitsFault es packets units fault → FaultFrom [] units fault
      walked units fault is =
          subst (λ (us : List (ℕ × ℕ)). FaultFrom [] us fault) (sym is.split) (fault_from [] is.before is.unit is.more is.pictures fault is.in_order is.refused)

  order_or_fault : (earlier : List TimedPicture) (units : List (ℕ × ℕ)) (ps : List TimedPicture) (fault : ProgramFault) → AreInOrder es packets earlier units ps → FaultFrom earlier units fault → ⊥
  order_or_fault earlier [] ps fault are is = is
  order_or_fault earlier (u ∷ us) [] fault are is = absurd are
  order_or_fault earlier (u ∷ us) (p ∷ ps) fault are (inl is) = refused_or_next earlier u (is_none_left us) fault p is are.0
  order_or_fault earlier (u ∷ us) (p ∷ ps) fault are (inr (q, next, rest)) =
      order_or_fault (q ∷ earlier) us ps fault (subst (λ (x : TimedPicture). AreInOrder es packets (x ∷ earlier) us ps) (next_one earlier u p q are.0 next) are.1) rest

  -- a last unit that breaks a rule isn't refused
  last_not_refused : (before : Option TimedPicture) (unit : ℕ × ℕ) (refusal : Refusal) (at : ℕ) (fault : ProgramFault) → IsBroken es before unit refusal at →
      IsUnitRefused es packets before unit true fault → ⊥
  last_not_refused before unit refusal at fault is (broken r n mid is' e) = absurd cc
  last_not_refused before unit refusal at fault is (unpaired seq coding coded unp e) = coded_or_broken es before unit seq coding refusal at coded is
  last_not_refused before unit refusal at fault is (long seq coding coded paired far e) = coded_or_broken es before unit seq coding refusal at coded is
  last_not_refused before unit refusal at fault is (no_time seq coding coded paired short none e) = coded_or_broken es before unit seq coding refusal at coded is
  last_not_refused before unit refusal at fault is (not_later seq coding stated ticks coded paired short timed late e) = coded_or_broken es before unit seq coding refusal at coded is

  broken_or_fault : (earlier : List TimedPicture) (units : List (ℕ × ℕ)) (last : ℕ × ℕ) (ps : List TimedPicture) (refusal : Refusal) (at : ℕ) (fault : ProgramFault) →
      AreInOrder es packets earlier units ps → IsBroken es (last_or (nearest earlier) ps) last refusal at → FaultFrom earlier (units ++ last ∷ []) fault → ⊥
  broken_or_fault earlier [] last [] refusal at fault are is (inl refused) = last_not_refused (nearest earlier) last refusal at fault is refused
  broken_or_fault earlier [] last [] refusal at fault are is (inr (q, next, rest)) = absurd rest
  broken_or_fault earlier [] last (p ∷ ps) refusal at fault are is from = absurd are
  broken_or_fault earlier (u ∷ us) last [] refusal at fault are is from = absurd are
  broken_or_fault earlier (u ∷ us) last (p ∷ ps) refusal at fault are is (inl refused) = refused_or_next earlier u (is_none_left (us ++ last ∷ [])) fault p refused are.0
  broken_or_fault earlier (u ∷ us) last (p ∷ ps) refusal at fault are is (inr (q, next, rest)) =
      broken_or_fault (p ∷ earlier) us last ps refusal at fault are.1 is
      (subst (λ (x : TimedPicture). FaultFrom (x ∷ earlier) (us ++ last ∷ []) fault) (sym (next_one earlier u p q are.0 next)) rest)

  pub kept_or_fault : (units kept : List (ℕ × ℕ)) (ps : List TimedPicture) (dropped : ℕ) (fault : ProgramFault) → AreKept es packets units kept ps dropped → IsUnitsFault es packets units fault → ⊥
  kept_or_fault units kept ps dropped fault (all same are none) is =
      order_or_fault [] kept ps fault are (subst (λ (us : List (ℕ × ℕ)). FaultFrom [] us fault) (sym is.split ∙ same)
      (fault_from [] is.before is.unit is.more is.pictures fault is.in_order is.refused))
  kept_or_fault units kept ps dropped fault (but_last last refusal at split are is_broken one) is =
      broken_or_fault [] kept last ps refusal at fault are is_broken (subst (λ (us : List (ℕ × ℕ)). FaultFrom [] us fault) (sym is.split ∙ split)
      (fault_from [] is.before is.unit is.more is.pictures fault is.in_order is.refused))

  -- all in order, or a last one that breaks a rule
  order_or_broken : (earlier : List TimedPicture) (units : List (ℕ × ℕ)) (last : ℕ × ℕ) (ps qs : List TimedPicture) (refusal : Refusal) (at : ℕ) →
      AreInOrder es packets earlier (units ++ last ∷ []) ps → AreInOrder es packets earlier units qs → IsBroken es (last_or (nearest earlier) qs) last refusal at → ⊥
  order_or_broken earlier [] last [] qs refusal at are are' is = absurd are
  order_or_broken earlier [] last (p ∷ ps) [] refusal at are are' is = coded_or_broken es (nearest earlier) last p.seq p.coding refusal at are.0.coded is
  order_or_broken earlier [] last (p ∷ ps) (q ∷ qs) refusal at are are' is = absurd are'
  order_or_broken earlier (u ∷ us) last [] qs refusal at are are' is = absurd are
  order_or_broken earlier (u ∷ us) last (p ∷ ps) [] refusal at are are' is = absurd are'
  order_or_broken earlier (u ∷ us) last (p ∷ ps) (q ∷ qs) refusal at are are' is =
      order_or_broken (q ∷ earlier) us last ps qs refusal at
      (subst (λ (x : TimedPicture). AreInOrder es packets (x ∷ earlier) (us ++ last ∷ []) ps) (next_one earlier u p q are.0 are'.0) are.1) are'.1 is

-- the list before a last item
front_one : {A : Type 0} (xs ys : List A) (x y : A) → xs ++ x ∷ [] ≡ ys ++ y ∷ [] → (xs ≡ ys) × (x ≡ y)
front_one [] [] x y is = (refl, (let same : x ≡ y = cc in same))
front_one [] (b ∷ []) x y is = absurd (let none : [] ≡ y ∷ [] = cc in cc)
front_one [] (b ∷ c ∷ bs) x y is = absurd (let none : [] ≡ c ∷ (bs ++ y ∷ []) = cc in cc)
front_one (a ∷ []) [] x y is = absurd (let none : x ∷ [] ≡ [] = cc in cc)
front_one (a ∷ c ∷ xs) [] x y is = absurd (let none : c ∷ (xs ++ x ∷ []) ≡ [] = cc in cc)
front_one (a ∷ xs) (b ∷ ys) x y is =
    let head : a ≡ b = cc in
    let tail : xs ++ x ∷ [] ≡ ys ++ y ∷ [] = cc in
    let rest = front_one xs ys x y tail in
    (ap₂ (λ z zs. z ∷ zs) head rest.0, rest.1)

-- what is kept
pub record IsSameKept (kept kept' : List (ℕ × ℕ)) (ps qs : List TimedPicture) (dropped dropped' : ℕ) : Type 0 where
  pub units : kept ≡ kept'
  pub pictures : ps ≡ qs
  pub count : dropped ≡ dropped'

pub kept_one : (es : List ℕ) (packets : List PlacedPacket) (units kept kept' : List (ℕ × ℕ)) (ps qs : List TimedPicture) (dropped dropped' : ℕ) → AreKept es packets units kept ps dropped →
    AreKept es packets units kept' qs dropped' → IsSameKept kept kept' ps qs dropped dropped'
kept_one es packets units kept kept' ps qs dropped dropped' (all same are none) (all same' are' none') =
    let us : kept ≡ kept' = sym same ∙ same' in record {
      units = us;
      pictures = order_one es packets [] kept' ps qs (subst (λ (xs : List (ℕ × ℕ)). AreInOrder es packets [] xs ps) us are) are';
      count = none ∙ sym none';
    }
kept_one es packets units kept kept' ps qs dropped dropped' (all same are none) (but_last last refusal at split are' is one) =
    absurd (order_or_broken es packets [] kept' last ps qs refusal at (subst (λ (xs : List (ℕ × ℕ)). AreInOrder es packets [] xs ps) (sym same ∙ split) are) are' is)
kept_one es packets units kept kept' ps qs dropped dropped' (but_last last refusal at split are is one) (all same are' none) =
    absurd (order_or_broken es packets [] kept last qs ps refusal at (subst (λ (xs : List (ℕ × ℕ)). AreInOrder es packets [] xs qs) (sym same ∙ split) are') are is)
kept_one es packets units kept kept' ps qs dropped dropped' (but_last last refusal at split are is one) (but_last last' refusal' at' split' are' is' one') =
    let us : kept ≡ kept' = (front_one kept kept' last last' (sym split ∙ split')).0 in record {
      units = us;
      pictures = order_one es packets [] kept' ps qs (subst (λ (xs : List (ℕ × ℕ)). AreInOrder es packets [] xs ps) us are) are';
      count = one ∙ sym one';
    }
