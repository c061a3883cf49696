-- The bytes of a program stream are read in one way.
use Rattle.std.proofs.Common.{◌≡◌, ℕ, ◌+◌, ◌==◌, Bool, true, false, cond, List, [], ◌∷◌, ◌++◌, length, replicate, take, drop, None, length-append, append_assoc, refl, sym, ap, ap₂, ◌∙◌, subst, arith}
use Rattle.std.proofs.lemmas.List.{take_at, drop_at}
use Rattle.std.proofs.lemmas.Option.{same_Some}
use Rattle.std.specs.List.{AllByRecursion}
use Rattle.pes_units.specs.PesHeader.{pes_packet_length}
use Rattle.program_stream.specs.declared.split_fault.SplitFault.{SplitFault}
use Rattle.program_stream.specs.declared.split_fault.SplitFault.TheVariants.{BadStart}
use Rattle.program_stream.specs.Elements.{Element, element_bytes, element_spelling, all_spelled, pack_stuffing_length, element_length, IsWholeElement, IsCutShort, element_refusal, IsSoundElement, IsEnd, zero_bytes, prefix_alone, cut_element, AreElements, IsRefusedAt, no_start, no_element, bad_element, IsFirstRefusal}
use Rattle.program_stream.proofs.Starts.{not_zeros, two_more, zeros_apart, one_some}
use Rattle.program_stream.proofs.Wholes.{stuffing_kept, stated_kept}

-- ---- a prefix stands at one place

prefix_once : (m n : ℕ) (xs ys : List ℕ) → replicate m 0 ++ 0 ∷ 0 ∷ 1 ∷ xs ≡ replicate n 0 ++ 0 ∷ 0 ∷ 1 ∷ ys → (m ≡ n) × (xs ≡ ys)
prefix_once m n xs ys same =
    let parts = zeros_apart (m + 2) (n + 2) 1 1 xs ys (one_some 1 refl) (one_some 1 refl) (sym (two_more m xs) ∙ same ∙ two_more n ys) in
    (omega (arith, parts.0), parts.2)

prefix_no_zeros : (m n : ℕ) (xs : List ℕ) → replicate m 0 ++ 0 ∷ 0 ∷ 1 ∷ xs ≡ replicate n 0 → ⊥
prefix_no_zeros m n xs same = not_zeros (m + 2) n 1 xs (one_some 1 refl) (sym (two_more m xs) ∙ same)

-- an element and what follows it, behind its zero bytes
behind_prefix : (element : Element) (more : List ℕ) → element_spelling element ++ more ≡ replicate element.zeros 0 ++ 0 ∷ 0 ∷ 1 ∷ (element.id ∷ (element.body ++ more))
behind_prefix element more = append_assoc (replicate element.zeros 0) (element_bytes element) more

-- ---- the length of a whole element is said by its own bytes

-- what bytes say, by their id
abbrev said_length : ℕ → List ℕ → ℕ
said_length id bytes = cond (id == 0xB9) 4 (cond (id == 0xBA) (14 + pack_stuffing_length bytes) (6 + pes_packet_length bytes))

said_by : (is_end is_pack : Bool) (bytes more : List ℕ) → length bytes ≡ cond is_end 4 (cond is_pack (14 + pack_stuffing_length bytes) (6 + pes_packet_length bytes)) →
    cond is_end 4 (cond is_pack (14 + pack_stuffing_length (bytes ++ more)) (6 + pes_packet_length (bytes ++ more))) ≡ length bytes
said_by true is_pack bytes more is = sym is
said_by false true bytes more is =
    ap (λ (k : ℕ). 14 + k) (sym (stuffing_kept (bytes ++ more) (length bytes) (omega arith)) ∙ ap pack_stuffing_length (take_at bytes more (length bytes) refl)) ∙ sym is
said_by false false bytes more is =
    ap (λ (k : ℕ). 6 + k) (sym (stated_kept (bytes ++ more) (length bytes) (omega arith)) ∙ ap pes_packet_length (take_at bytes more (length bytes) refl)) ∙ sym is

said_by_front : (element : Element) (more : List ℕ) → IsWholeElement element → said_length element.id (element_bytes element ++ more) ≡ length (element_bytes element)
said_by_front element more whole = said_by (element.id == 0xB9) (element.id == 0xBA) (element_bytes element) more whole.all_bytes

pub record Same (one other : Element) (more rest : List ℕ) : Type 0 where
  pub elements : one ≡ other
  pub rests : more ≡ rest

-- two whole elements that begin alike are one
pub whole_same : (one other : Element) (more rest : List ℕ) → IsWholeElement one → IsWholeElement other → element_spelling one ++ more ≡ element_spelling other ++ rest → Same one other more rest
whole_same one other more rest whole whole_other same =
    let parts = prefix_once one.zeros other.zeros (one.id ∷ (one.body ++ more)) (other.id ∷ (other.body ++ rest)) (sym (behind_prefix one more) ∙ same ∙ behind_prefix other rest) in
    let ids : one.id ≡ other.id = cc in
    let bodies : one.body ++ more ≡ other.body ++ rest = cc in
    let bytes : element_bytes one ++ more ≡ element_bytes other ++ rest = ap₂ (λ (id : ℕ) (xs : List ℕ). 0 ∷ 0 ∷ 1 ∷ id ∷ xs) ids bodies in
    let size : length (element_bytes one) ≡ length (element_bytes other) =
    sym (said_by_front one more whole) ∙ ap₂ said_length ids bytes ∙ said_by_front other rest whole_other in
    let body_size : length one.body ≡ length other.body = omega (arith, size) in
    let body : one.body ≡ other.body = sym (take_at one.body more (length one.body) refl) ∙ ap (take (length one.body)) bodies ∙ take_at other.body rest (length one.body) (sym body_size) in
    record {
      elements = made one other parts.0 ids body;
      rests = sym (drop_at one.body more (length one.body) refl) ∙ ap (drop (length one.body)) bodies ∙ drop_at other.body rest (length one.body) (sym body_size);
    }
  where
    made : (a b : Element) → a.zeros ≡ b.zeros → a.id ≡ b.id → a.body ≡ b.body → a ≡ b
    made a b zeros id body = rw (zeros, id, body) refl

-- what is cut is no whole element and something behind it
cut_not_whole : (cut whole : Element) (more : List ℕ) → IsCutShort cut → IsWholeElement whole → element_spelling cut ≡ element_spelling whole ++ more → ⊥
cut_not_whole cut whole more is_cut is_whole same =
    let parts = prefix_once cut.zeros whole.zeros (cut.id ∷ cut.body) (whole.id ∷ (whole.body ++ more)) (same ∙ behind_prefix whole more) in
    let ids : cut.id ≡ whole.id = cc in
    let bodies : cut.body ≡ whole.body ++ more = cc in
    let bytes : element_bytes cut ≡ element_bytes whole ++ more = ap₂ (λ (id : ℕ) (xs : List ℕ). 0 ∷ 0 ∷ 1 ∷ id ∷ xs) ids bodies in
    let said : element_length cut ≡ length (element_bytes whole) = ap₂ said_length ids bytes ∙ said_by_front whole more is_whole in
    omega (arith, is_cut.few_bytes, said, ap length bytes, length-append (element_bytes whole) more)

-- ---- where no sound element stands first

abbrev pub Stops : List ℕ → Type 0
Stops rest = (element : Element) (more : List ℕ) → IsSoundElement element → rest ≡ element_spelling element ++ more → ⊥

pub end_stops : (rest : List ℕ) (cut : ℕ) → IsEnd rest cut → Stops rest
end_stops rest cut (zero_bytes zeros is none) element more sound begins =
    prefix_no_zeros element.zeros zeros (element.id ∷ (element.body ++ more)) (sym (behind_prefix element more) ∙ sym begins ∙ is)
end_stops rest cut (prefix_alone zeros is one) element more sound begins =
    let parts = prefix_once zeros element.zeros [] (element.id ∷ (element.body ++ more)) (sym is ∙ begins ∙ behind_prefix element more) in
    absurd (let none : [] ≡ element.id ∷ (element.body ++ more) = parts.1 in cc)
end_stops rest cut (cut_element short is is_cut one) element more sound begins = cut_not_whole short element more is_cut sound.whole (sym is ∙ begins)

refused_stops : (rest : List ℕ) (at : ℕ) (fault : SplitFault) → IsRefusedAt at rest fault → Stops rest
refused_stops rest at fault (no_start none is) element more sound begins = none.no_prefix element.zeros (element.id ∷ (element.body ++ more)) (begins ∙ behind_prefix element more)
refused_stops rest at fault (no_element low is below found) element more sound begins =
    let parts = prefix_once low.zeros element.zeros (low.id ∷ low.body) (element.id ∷ (element.body ++ more)) (sym is ∙ begins ∙ behind_prefix element more) in
    let ids : low.id ≡ element.id = cc in
    omega (arith, below, ids, sound.whole.some_id)
refused_stops rest at fault (bad_element bad behind is whole refused) element more sound begins =
    let same = whole_same bad element behind more whole sound.whole (sym is ∙ begins) in
    let none : element_refusal (at + bad.zeros) bad ≡ None = subst (λ (e : Element). element_refusal (at + bad.zeros) e ≡ None) (sym same.elements) (sound.no_refusal (at + bad.zeros)) in
    absurd cc

-- ---- the elements are one list

record SameList (ones others : List Element) (rest behind : List ℕ) : Type 0 where
  elements : ones ≡ others
  rests : rest ≡ behind

first_of : (element : Element) (elements : List Element) (rest : List ℕ) → all_spelled (element ∷ elements) ++ rest ≡ element_spelling element ++ (all_spelled elements ++ rest)
first_of element elements rest = append_assoc (element_spelling element) (all_spelled elements) rest

list_same : (ones others : List Element) (rest behind : List ℕ) → AllByRecursion IsSoundElement ones → AllByRecursion IsSoundElement others → Stops rest → Stops behind →
    all_spelled ones ++ rest ≡ all_spelled others ++ behind → SameList ones others rest behind
list_same [] [] rest behind sound sounds stops stop same = record { elements = refl; rests = same }
list_same [] (other ∷ others) rest behind sound sounds stops stop same = absurd (stops other (all_spelled others ++ behind) sounds.0 (same ∙ first_of other others behind))
list_same (one ∷ ones) [] rest behind sound sounds stops stop same = absurd (stop one (all_spelled ones ++ rest) sound.0 (sym same ∙ first_of one ones rest))
list_same (one ∷ ones) (other ∷ others) rest behind sound sounds stops stop same =
    let first = whole_same one other (all_spelled ones ++ rest) (all_spelled others ++ behind) sound.0.whole sounds.0.whole (sym (first_of one ones rest) ∙ same ∙ first_of other others behind) in
    let more = list_same ones others rest behind sound.1 sounds.1 stops stop first.rests in
    record { elements = ap₂ (λ (e : Element) (es : List Element). e ∷ es) first.elements more.elements; rests = more.rests }

-- ---- the end and the refusal

no_cut_and_zeros : (zeros : ℕ) (element : Element) → element_spelling element ≡ replicate zeros 0 → ⊥
no_cut_and_zeros zeros element same = prefix_no_zeros element.zeros zeros (element.id ∷ element.body) same

one_end : (rest : List ℕ) (one other : ℕ) → IsEnd rest one → IsEnd rest other → one ≡ other
one_end rest one other (zero_bytes m is none) (zero_bytes n is_other none_other) = none ∙ sym none_other
one_end rest one other (zero_bytes m is none) (prefix_alone n is_other cut) = absurd (prefix_no_zeros n m [] (sym is_other ∙ is))
one_end rest one other (zero_bytes m is none) (cut_element element is_other short cut) = absurd (no_cut_and_zeros m element (sym is_other ∙ is))
one_end rest one other (prefix_alone m is cut) (zero_bytes n is_other none) = absurd (prefix_no_zeros m n [] (sym is ∙ is_other))
one_end rest one other (prefix_alone m is cut) (prefix_alone n is_other cut_other) = cut ∙ sym cut_other
one_end rest one other (prefix_alone m is cut) (cut_element element is_other short cut_other) = cut ∙ sym cut_other
one_end rest one other (cut_element element is short cut) (zero_bytes n is_other none) = absurd (no_cut_and_zeros n element (sym is ∙ is_other))
one_end rest one other (cut_element element is short cut) (prefix_alone n is_other cut_other) = cut ∙ sym cut_other
one_end rest one other (cut_element element is short cut) (cut_element element_other is_other short_other cut_other) = cut ∙ sym cut_other

one_fault : (at : ℕ) (rest : List ℕ) (one other : SplitFault) → IsRefusedAt at rest one → IsRefusedAt at rest other → one ≡ other
one_fault at rest one other (no_start none is) (no_start none_other is_other) = is ∙ sym is_other
one_fault at rest one other (no_start none is) (no_element low begins below is_other) = absurd (none.no_prefix low.zeros (low.id ∷ low.body) begins)
one_fault at rest one other (no_start none is) (bad_element bad behind begins whole refused) = absurd (none.no_prefix bad.zeros (bad.id ∷ (bad.body ++ behind)) (begins ∙ behind_prefix bad behind))
one_fault at rest one other (no_element low begins below is) (no_start none is_other) = absurd (none.no_prefix low.zeros (low.id ∷ low.body) begins)
one_fault at rest one other (no_element low begins below is) (no_element low_other begins_other below_other is_other) =
    let parts = prefix_once low.zeros low_other.zeros (low.id ∷ low.body) (low_other.id ∷ low_other.body) (sym begins ∙ begins_other) in
    is ∙ ap (λ (n : ℕ). BadStart (at + n)) parts.0 ∙ sym is_other
one_fault at rest one other (no_element low begins below is) (bad_element bad behind begins_other whole refused) =
    let parts = prefix_once low.zeros bad.zeros (low.id ∷ low.body) (bad.id ∷ (bad.body ++ behind)) (sym begins ∙ begins_other ∙ behind_prefix bad behind) in
    let ids : low.id ≡ bad.id = cc in
    absurd (omega (arith, below, ids, whole.some_id))
one_fault at rest one other (bad_element bad behind begins whole refused) (no_start none is) = absurd (none.no_prefix bad.zeros (bad.id ∷ (bad.body ++ behind)) (begins ∙ behind_prefix bad behind))
one_fault at rest one other (bad_element bad behind begins whole refused) (no_element low begins_other below is) =
    let parts = prefix_once low.zeros bad.zeros (low.id ∷ low.body) (bad.id ∷ (bad.body ++ behind)) (sym begins_other ∙ begins ∙ behind_prefix bad behind) in
    let ids : low.id ≡ bad.id = cc in
    absurd (omega (arith, below, ids, whole.some_id))
one_fault at rest one other (bad_element bad behind begins whole refused) (bad_element bad_other behind_other begins_other whole_other refused_other) =
    let same = whole_same bad bad_other behind behind_other whole whole_other (sym begins ∙ begins_other) in
    same_Some one other (sym refused ∙ ap (λ (e : Element). element_refusal (at + e.zeros) e) same.elements ∙ refused_other)

end_or_fault : (at cut : ℕ) (rest : List ℕ) (fault : SplitFault) → IsEnd rest cut → IsRefusedAt at rest fault → ⊥
end_or_fault at cut rest fault (zero_bytes m is none) (no_start never found) = never.not_zeros m is
end_or_fault at cut rest fault (zero_bytes m is none) (no_element low begins below found) = no_cut_and_zeros m low (sym begins ∙ is)
end_or_fault at cut rest fault (zero_bytes m is none) (bad_element bad behind begins whole refused) = prefix_no_zeros bad.zeros m (bad.id ∷ (bad.body ++ behind)) (sym (behind_prefix bad behind) ∙ sym begins ∙ is)
end_or_fault at cut rest fault (prefix_alone m is one) (no_start never found) = never.no_prefix m [] is
end_or_fault at cut rest fault (prefix_alone m is one) (no_element low begins below found) =
    let parts = prefix_once m low.zeros [] (low.id ∷ low.body) (sym is ∙ begins) in
    absurd (let none : [] ≡ low.id ∷ low.body = parts.1 in cc)
end_or_fault at cut rest fault (prefix_alone m is one) (bad_element bad behind begins whole refused) =
    let parts = prefix_once m bad.zeros [] (bad.id ∷ (bad.body ++ behind)) (sym is ∙ begins ∙ behind_prefix bad behind) in
    absurd (let none : [] ≡ bad.id ∷ (bad.body ++ behind) = parts.1 in cc)
end_or_fault at cut rest fault (cut_element short is is_cut one) (no_start never found) = never.no_prefix short.zeros (short.id ∷ short.body) is
end_or_fault at cut rest fault (cut_element short is is_cut one) (no_element low begins below found) =
    let parts = prefix_once short.zeros low.zeros (short.id ∷ short.body) (low.id ∷ low.body) (sym is ∙ begins) in
    let ids : short.id ≡ low.id = cc in
    omega (arith, below, ids, is_cut.some_id)
end_or_fault at cut rest fault (cut_element short is is_cut one) (bad_element bad behind begins whole refused) = cut_not_whole short bad behind is_cut whole (sym is ∙ begins)

-- ---- all bytes

pub record SameElements (ones others : List Element) (one other : ℕ) : Type 0 where
  pub elements : ones ≡ others
  pub cuts : one ≡ other

pub one_list : (bytes : List ℕ) (ones others : List Element) (one other : ℕ) → AreElements bytes ones one → AreElements bytes others other → SameElements ones others one other
one_list bytes ones others one other are are_others =
    let same = list_same ones others are.rest are_others.rest are.sound are_others.sound (end_stops are.rest one are.ending) (end_stops are_others.rest other are_others.ending)
    (sym are.bytes_are ∙ are_others.bytes_are) in
    record { elements = same.elements; cuts = one_end are.rest one other are.ending (subst (λ (xs : List ℕ). IsEnd xs other) (sym same.rests) are_others.ending) }

pub one_refusal : (bytes : List ℕ) (one other : SplitFault) → IsFirstRefusal bytes one → IsFirstRefusal bytes other → one ≡ other
one_refusal bytes one other is is_other =
    let same = list_same is.elements is_other.elements is.rest is_other.rest is.sound is_other.sound (refused_stops is.rest (length (all_spelled is.elements)) one is.refused)
    (refused_stops is_other.rest (length (all_spelled is_other.elements)) other is_other.refused) (sym is.bytes_are ∙ is_other.bytes_are) in
    one_fault (length (all_spelled is.elements)) is.rest one other is.refused
    (subst (λ (xs : List ℕ). IsRefusedAt (length (all_spelled is.elements)) xs other) (sym same.rests)
    (subst (λ (es : List Element). IsRefusedAt (length (all_spelled es)) is_other.rest other) (sym same.elements) is_other.refused))

pub refused_or_not : (bytes : List ℕ) (elements : List Element) (cut : ℕ) (fault : SplitFault) → AreElements bytes elements cut → IsFirstRefusal bytes fault → ⊥
refused_or_not bytes elements cut fault are is =
    let same = list_same elements is.elements are.rest is.rest are.sound is.sound (end_stops are.rest cut are.ending) (refused_stops is.rest (length (all_spelled is.elements)) fault is.refused)
    (sym are.bytes_are ∙ is.bytes_are) in
    end_or_fault (length (all_spelled is.elements)) cut is.rest fault (subst (λ (xs : List ℕ). IsEnd xs cut) same.rests are.ending) is.refused
