-- A unit whose head says nothing by its vbv_delay spells the same picture but for that.
use Rattle.std.proofs.Common.{◌≡◌, ℕ, ◌%◌, List, [], ◌∷◌, ◌++◌, length, Option, Bool, true, false, refl, sym, ap, subst, ◌∙◌, inl, inr, arith}
use Rattle.std.proofs.lemmas.List.{append_cancel_left}
use Rattle.bit_lists.specs.Fields.{bit_list}
use Rattle.bit_lists.proofs.ByteLemmas.{bit_list-append, length-bit_list}
use Rattle.syntax_types.specs.declared.macroblock.Macroblock.{Macroblock}
use Rattle.syntax_types.specs.declared.picture.PicCoding.{PicCoding}
use Rattle.syntax_types.specs.declared.picture.Picture.{Picture}
use Rattle.syntax_types.specs.declared.picture.SeqState.{SeqState}
use Rattle.syntax_types.specs.declared.slice.Slice.{Slice}
use Rattle.picture_grammar.specs.Grammar.{Grammar, Next, SpellsList, optional, with_spelling}
use Rattle.picture_grammar.specs.Grammar.Next.{more, last}
use Rattle.picture_grammar.specs.Head.{head}
use Rattle.picture_grammar.specs.Macroblock.{macroblock}
use Rattle.picture_grammar.specs.Picture.{IsCovered, SpellsPicture, next_slice, picture_unit, whole_slice}
use Rattle.picture_grammar.specs.Slice.{next_macroblock, slice}
use Rattle.picture_heads.specs.declared.TheConstants.{NO_DELAY}
use Rattle.picture_heads.specs.Heads.{IsHeadWithoutDelay}
use Rattle.picture_heads.proofs.ReadHeads.{without_delay}

-- what one grammar spells another one does
abbrev Passes : {A : Type 0} → Grammar A → Grammar A → Type 0
Passes {A} one other = (value : A) (bits rest : List ℕ) → one.Spells value bits rest → other.Spells value bits rest

list-passes : {A B : Type 0} (one other : List A → Grammar (Next A B)) → ((before : List A) → Passes (one before) (other before)) → (before values : List A) (end : B) (bits rest : List ℕ)
    → SpellsList one before values end bits rest → SpellsList other before values end bits rest
list-passes one other pass before [] end bits rest spells = pass before (last end) bits rest spells
list-passes one other pass before (value ∷ values) end bits rest (middle, here, later) =
    (middle, pass before (more value) bits middle here, list-passes one other pass (before ++ value ∷ []) values end middle rest later)

macroblock-passes : (coding : PicCoding) (first : Bool) (left : ℕ) → Passes (macroblock coding first left) (macroblock (without_delay coding) first left)
unfolding macroblock
macroblock-passes coding first left value bits rest spells = spells

next-passes : (seq : SeqState) (coding : PicCoding) (before : List Macroblock) → Passes (next_macroblock seq coding before) (next_macroblock seq (without_delay coding) before)
next-passes seq coding [] value bits rest (m, middle, here, end) = (m, middle, macroblock-passes coding true _ m bits middle here, end)
next-passes seq coding (b ∷ bs) value bits rest (inl close) = inl close
next-passes seq coding (b ∷ bs) value bits rest (inr (open_, (m, middle, here, end))) = inr (open_, (m, middle, macroblock-passes coding false _ m bits middle here, end))

slice-passes : (seq : SeqState) (coding : PicCoding) (row : ℕ) → Passes (slice seq coding row) (slice seq (without_delay coding) row)
unfolding slice
slice-passes seq coding row value bits rest (code, m1, c, (info, m2, i, (macroblocks, m3, many_, end))) =
    let passed = list-passes (next_macroblock seq coding) (next_macroblock seq (without_delay coding)) (next-passes seq coding) [] macroblocks.0 macroblocks.1 m2 m3 many_ in
    (code, m1, c, (info, m2, i, (macroblocks, m3, passed, end)))

whole-passes : (seq : SeqState) (coding : PicCoding) (byte : ℕ) → Passes (whole_slice seq coding byte) (whole_slice seq (without_delay coding) byte)
whole-passes seq coding byte value bits rest (s, m1, here, behind) = (s, m1, slice-passes seq coding _ s bits m1 here, behind)

optional-passes : {A : Type 0} (stands : Bool) (one other : Grammar A) → Passes one other → Passes (optional stands one) (optional stands other)
optional-passes true one other pass value bits rest (v, middle, here, end) = (v, middle, pass v bits middle here, end)
optional-passes false one other pass value bits rest none = none

slices-pass : (seq : SeqState) (coding : PicCoding) (before : List Slice) → Passes (next_slice seq coding before) (next_slice seq (without_delay coding) before)
slices-pass seq coding [] value bits rest (byte, m1, code, (s, m2, here, end)) = (byte, m1, code, (s, m2, whole-passes seq coding byte s m1 m2 here, end))
slices-pass seq coding (b ∷ bs) value bits rest (inl zeros) = inl zeros
slices-pass seq coding (b ∷ bs) value bits rest (inr (some, (byte, m1, code, (s, m2, here, end)))) =
    inr (some, (byte, m1, code, (s, m2, optional-passes _ (whole_slice seq coding byte) (whole_slice seq (without_delay coding) byte) (whole-passes seq coding byte) s m1 m2 here, end)))

-- the law that a head without its vbv_delay is read, as this proof calls it
abbrev pub HeadIsRead : Type 0
HeadIsRead =
    (before : Option SeqState) (seq : SeqState) (coding : PicCoding) (bytes to rest : List ℕ) → (with_spelling (head before)).Spells ((seq, coding), bytes) (bit_list bytes ++ rest) rest
    → length rest % 8 ≡ 0 → IsHeadWithoutDelay bytes to → (with_spelling (head before)).Spells ((seq, without_delay coding), to) (bit_list to ++ rest) rest

-- the picture with another head that says nothing by its vbv_delay
abbrev pub with_head : Picture → List ℕ → Picture
with_head picture to = record { seq = picture.seq; coding = without_delay picture.coding; head = to; slices = picture.slices; sequence_end = picture.sequence_end }

pub spelled-without : HeadIsRead → (before : Option SeqState) (picture : Picture) (to behind : List ℕ) → IsHeadWithoutDelay picture.head to
    → SpellsPicture before picture (picture.head ++ behind) → SpellsPicture before (with_head picture to) (to ++ behind)
unfolding picture_unit
spelled-without law before picture to behind is (headers, m1, (spells, are, split), (slices, m2, many_, (e, f))) =
    let same : picture.head ≡ headers.1 = ap (λ (p : Picture). p.head) e in
    let rest : m1 ≡ bit_list behind =
    append_cancel_left (bit_list headers.1) m1 (bit_list behind)
    (sym split ∙ bit_list-append picture.head behind ∙ ap (λ (h : List ℕ). bit_list h ++ bit_list behind) same) in
    let whole : length m1 % 8 ≡ 0 = omega (arith, ap length rest, length-bit_list behind) in
    let read = law before headers.0.0 headers.0.1 headers.1 to m1
    (subst (λ (bits : List ℕ). (head before).Spells (headers.0.0, headers.0.1) bits m1) split spells, are, refl) whole (subst (λ (h : List ℕ). IsHeadWithoutDelay h to) same is) in
    let bits : bit_list to ++ m1 ≡ bit_list (to ++ behind) = ap (λ (r : List ℕ). bit_list to ++ r) rest ∙ sym (bit_list-append to behind) in
    let later = list-passes (next_slice headers.0.0 headers.0.1) (next_slice headers.0.0 (without_delay headers.0.1)) (slices-pass headers.0.0 headers.0.1) [] slices.0 slices.1 m1 m2 many_ in (
      ((headers.0.0, without_delay headers.0.1), to),
      m1,
      subst (λ (x : List ℕ). (with_spelling (head before)).Spells ((headers.0.0, without_delay headers.0.1), to) x m1) bits read,
      (slices, m2, later, (ap (λ (p : Picture). with_head p to) e, f)),
    )

pub covered-without : (picture : Picture) (to : List ℕ) → IsCovered picture → IsCovered (with_head picture to)
covered-without picture to covered = covered
