-- Grammars whose values take at least one bit, so that lists of them end.
use Rattle.std.proofs.Common.{◌≡◌, ℕ, ◌<◌, ◌≤◌, nat_lt, List, [], ◌∷◌, ◌++◌, length, Some, Bool, true, refl, ap, subst, inl, inr, arith}
use Rattle.std.specs.List.{list_all}
use Rattle.std.proofs.lemmas.Bool.{ltb-true}
use Rattle.std.proofs.lemmas.List.{length-append, length-take}
use Rattle.bit_lists.proofs.BitLemmas.{length-bits_of}
use Rattle.prefix_codes.specs.Entry.{Entry}
use Rattle.prefix_codes.specs.declared.table_name.TableName.{TableName}
use Rattle.prefix_codes.specs.declared.table_name.TableName.TheVariants.{Address, TypeI, TypeP, TypeB, Pattern, Motion, DcLuma, DcChroma, CoeffZero, CoeffFirst, CoeffOne}
use Rattle.prefix_codes.specs.TableName.{entries, code_in}
use Rattle.prefix_codes.proofs.Computing.{tables}
use Rattle.prefix_codes.proofs.TableLemmas.{code_in-passes}
use Rattle.syntax_types.specs.declared.block.BlockWay.{BlockWay}
use Rattle.syntax_types.specs.declared.block.RunLevel.{RunLevel}
use Rattle.syntax_types.specs.declared.macroblock.Macroblock.{Macroblock}
use Rattle.syntax_types.specs.declared.picture.PicCoding.{PicCoding}
use Rattle.syntax_types.specs.declared.picture.SeqState.{SeqState}
use Rattle.picture_grammar.specs.Refusal.{Refusal}
use Rattle.picture_grammar.specs.Refusal.Refusal.{BadType}
use Rattle.picture_grammar.specs.Grammar.{Grammar, ◌>>=◌, many, one_item_more, SpellsList, Next}
use Rattle.picture_grammar.specs.Grammar.Next.{more, last}
use Rattle.picture_grammar.specs.Exact.{IsExact, EndsWith}
use Rattle.picture_grammar.specs.Element.{Rule, element, vlclbf, uimsbf, flag_where, marker_bit}
use Rattle.picture_grammar.specs.Block.{Coefficient, CoefficientCode, coefficient, coefficient_table, next_place, after_code}
use Rattle.picture_grammar.specs.Macroblock.{address_code, has_forward, has_concealment, f_codes, motion_format, macroblock}
use Rattle.picture_grammar.specs.Slice.{extra_information, next_macroblock}
use Rattle.picture_grammar.proofs.GrammarLaws.{EndsWith-through, exact-done, exact-bind, exact-then, exact-optional, exact-when}
use Rattle.picture_grammar.proofs.ElementLaws.{exact-element}
use Rattle.picture_grammar.proofs.Codes.{fronts, symbol_of, free-type}
use Rattle.picture_grammar.proofs.PictureLaws.{exact-vlclbf, exact-uimsbf, exact-after_code}
use Rattle.picture_grammar.proofs.MacroblockLaws.{exact-motion_type, exact-dct_type, exact-quantiser_scale_code, exact-vectors, exact-blocks}
use Rattle.picture_laws.proofs.Decided.{TakesBits}

pub record Takes {A : Type 0} (grammar : Grammar A) : Type 0 where
  pub fewer : (v : A) (bits rest : List ℕ) → grammar.Spells v bits rest → length rest < length bits

no-longer : (bits rest : List ℕ) → EndsWith bits rest → length rest ≤ length bits
no-longer bits rest (front, e) = omega (arith, ap length e, length-append front rest)

pub takes-bind : {A B : Type 0} (first : Grammar A) (next : A → Grammar B) → Takes first → ((a : A) → IsExact (next a)) → Takes (first >>= next)
takes-bind first next takes exact = record {
  fewer = λ v bits rest (a, middle, s, t). omega (arith, takes.fewer a bits middle s, no-longer middle rest ((exact a).spelled_front v middle rest t));
}

pub takes-behind : {A B : Type 0} (first : Grammar A) (next : A → Grammar B) → IsExact first → ((a : A) → Takes (next a)) → Takes (first >>= next)
takes-behind first next exact takes = record {
  fewer = λ v bits rest (a, middle, s, t). omega (arith, no-longer bits middle (exact.spelled_front a bits middle s), (takes a).fewer v middle rest t);
}

-- an element none of whose codes is empty
pub takes-element : {A : Type 0} (Codes : A → List ℕ → Type 0) (none_kind : Refusal) (rules : List (Rule A)) → ((v : A) (c : List ℕ) → Codes v c → 0 < length c) → Takes (element Codes none_kind rules)
takes-element Codes none_kind rules some = record {
  fewer = λ v bits rest (code, coded, passing, split). omega (arith, some v code coded, ap length split, length-append code rest);
}

-- a list whose items do
pub takes-list : {A B : Type 0} (next : List A → Grammar (Next A B))
    → ((before : List A) (value : A) (bits middle : List ℕ) → (next before).Spells (more value) bits middle → length middle < length bits)
    → TakesBits next
takes-list next fewer = record { fewer = fewer }

pub items-take : {A B : Type 0} (next : List A → Grammar (Next A B)) → ((before : List A) → Takes (next before)) → TakesBits next
items-take next takes = record { fewer = λ before value bits middle s. (takes before).fewer (more value) bits middle s }

list-front : {A B : Type 0} (next : List A → Grammar (Next A B)) → ((before : List A) → IsExact (next before))
    → (before values : List A) (end : B) (bits rest : List ℕ) → SpellsList next before values end bits rest → EndsWith bits rest
list-front next exact before [] end bits rest s = (exact before).spelled_front (last end) bits rest s
list-front next exact before (v ∷ vs) end bits rest (middle, s, t) =
    EndsWith-through bits middle rest ((exact before).spelled_front (more v) bits middle s) (list-front next exact (before ++ v ∷ []) vs end middle rest t)

-- ---- elements

abbrev has_bits : Entry → Bool
has_bits e = nat_lt 0 (length e.1)

all_have_bits : (table : TableName) → list_all has_bits (entries table) ≡ true
unfolding tables
all_have_bits Address = refl
all_have_bits TypeI = refl
all_have_bits TypeP = refl
all_have_bits TypeB = refl
all_have_bits Pattern = refl
all_have_bits Motion = refl
all_have_bits DcLuma = refl
all_have_bits DcChroma = refl
all_have_bits CoeffZero = refl
all_have_bits CoeffFirst = refl
all_have_bits CoeffOne = refl

pub some-bits : (table : TableName) (symbol : ℕ) (code : List ℕ) → code_in table symbol ≡ Some code → 0 < length code
some-bits table symbol code listed = ltb-true 0 (length code) (code_in-passes has_bits table symbol code (all_have_bits table) listed)

pub takes-vlclbf : (table : TableName) (none_kind : Refusal) (rules : List (Rule ℕ)) → Takes (vlclbf table none_kind rules)
takes-vlclbf table none_kind rules = takes-element _ none_kind rules (some-bits table)

pub takes-uimsbf : (n : ℕ) (rules : List (Rule ℕ)) → 0 < n → Takes (uimsbf n rules)
takes-uimsbf n rules some = takes-element _ _ rules (λ v c coded. omega (arith, ap length coded.1, length-bits_of n v))

pub takes-flag_where : (rules : List (Rule Bool)) → Takes (flag_where rules)
takes-flag_where rules = takes-element _ _ rules (λ v c coded. omega (arith, ap length coded))

pub takes-many : {A B : Type 0} (next : List A → Grammar (Next A B)) → ((before : List A) → Takes (next before)) → ((before : List A) → IsExact (next before)) → Takes (many next)
takes-many {A} {B} next takes exact = record { fewer = λ v bits rest s. list-fewer [] v.0 v.1 bits rest s } where
  list-fewer : (before values : List A) (end : B) (bits rest : List ℕ) → SpellsList next before values end bits rest → length rest < length bits
  list-fewer before [] end bits rest s = (takes before).fewer (last end) bits rest s
  list-fewer before (v ∷ vs) end bits rest (middle, s, t) =
      omega (arith, (takes before).fewer (more v) bits middle s, no-longer middle rest (list-front next exact (before ++ v ∷ []) vs end middle rest t))

-- ---- parts of pictures

some-code : (table : TableName) (v : Coefficient) (c : List ℕ) → CoefficientCode table v c → 0 < length c
some-code table v c coded =
    let (front, listed, first) = fronts table v c coded in
    omega (arith, some-bits table (symbol_of v) front listed, ap length first, length-take (length front) c)

takes-coefficient_at : (way : BlockWay) (before : List RunLevel) → Takes (coefficient way before)
takes-coefficient_at way before = takes-bind _ after_code (takes-element _ _ _ (some-code (coefficient_table way (next_place way before)))) exact-after_code

pub takes-coefficient : (way : BlockWay) → TakesBits (coefficient way)
takes-coefficient way = items-take _ (takes-coefficient_at way)

takes-address_item : (most : ℕ) (escapes : List (Unit {0})) → Takes (address_code most escapes)
takes-address_item most escapes = takes-bind _ _ (takes-vlclbf _ _ _) (λ symbol. exact-done _)

pub takes-address_code : (most : ℕ) → TakesBits (address_code most)
takes-address_code most = items-take _ (takes-address_item most)

pub takes-extra_information : TakesBits extra_information
takes-extra_information =
    items-take _ (λ before. takes-bind _ _ (takes-flag_where []) (λ another. exact-bind _ _ (exact-optional another _ (exact-uimsbf 8 [])) (λ byte. exact-done _)))

pub takes-macroblock : (coding : PicCoding) (first : Bool) (columns_left : ℕ) → Takes (macroblock coding first columns_left)
unfolding macroblock
takes-macroblock coding first columns_left =
    takes-bind _ _
    (takes-bind _ _ (takes-many _ (takes-address_item _) (λ escapes. exact-bind _ _ (exact-vlclbf _ _ _) (λ symbol. exact-done _))) (λ codes. exact-done _))
    (λ increment. exact-bind _ _ (exact-element _ _ _ (free-type _))
    (λ kind. exact-bind _ _ (exact-motion_type coding kind)
    (λ motion_type. exact-bind _ _ (exact-dct_type coding kind)
    (λ field_dct. exact-bind _ _ (exact-optional kind.quant _ exact-quantiser_scale_code)
    (λ code. exact-bind _ _ (exact-vectors (has_forward coding kind) (f_codes coding 0) (motion_format coding motion_type))
    (λ forward. exact-bind _ _ (exact-vectors kind.backward (f_codes coding 1) (motion_format coding motion_type))
    (λ backward. exact-then _ _ (exact-optional (has_concealment coding kind) (marker_bit BadType) (exact-uimsbf 1 _))
    (exact-bind _ _ (exact-when kind.pattern _ _ (exact-vlclbf _ _ []))
    (λ pattern. exact-bind _ _ (exact-blocks coding kind pattern)
    (λ blocks. exact-done _))))))))))

one_more-fewer : {A B : Type 0} (grammar : Grammar A) → Takes grammar → (value : A) (bits middle : List ℕ)
    → (one_item_more {A = A} {B = B} grammar).Spells (more value) bits middle → length middle < length bits
one_more-fewer grammar takes value bits middle (a, m, s, (e, f)) = subst (λ (r : List ℕ). length r < length bits) f (takes.fewer a bits m s)

pub takes-next_macroblock : (seq : SeqState) (coding : PicCoding) → TakesBits (next_macroblock seq coding)
takes-next_macroblock seq coding = takes-list (next_macroblock seq coding) fewer where
  fewer : (before : List Macroblock) (value : Macroblock) (bits middle : List ℕ) → (next_macroblock seq coding before).Spells (more value) bits middle → length middle < length bits
  fewer [] value bits middle s = one_more-fewer _ (takes-macroblock _ _ _) value bits middle s
  fewer (m ∷ ms) value bits middle (inl (c, (e, f))) = absurd (let e' : more value ≡ last tt = e in cc)
  fewer (m ∷ ms) value bits middle (inr (c, s)) = one_more-fewer _ (takes-macroblock _ _ _) value bits middle s
