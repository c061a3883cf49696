-- The blocks of a macroblock, one behind the other (ISO/IEC 13818-2, 6.2.5).
use Rattle.std.proofs.Common.{◌≡◌, ◌+◌, ◌<◌, ℕ, zero, suc, List, [], ◌∷◌, ◌++◌, length, take, Ok, Err, refl, sym, ap, subst, ◌∙◌, inl, inr, arith}
use Rattle.std.specs.List.{range_with_len}
use Rattle.std.proofs.lemmas.List.{take_all}
use Rattle.shelf_io.specs.declared.source.Source.{Ghosts}
use Rattle.bit_cursor.specs.declared.bit_reader.BitReader.{BitReader}
use Rattle.bit_cursor.specs.BitReader.{bits_left, place, faults_of, absences_of, KeepsSource}
use Rattle.bit_cursor.proofs.Source.{keeps_then}
use Rattle.syntax_types.specs.declared.block.Block.{Block}
use Rattle.syntax_types.specs.declared.macroblock.Kind.{Kind}
use Rattle.syntax_types.specs.declared.picture.PicCoding.{PicCoding}
use Rattle.picture_grammar.specs.Refusal.{Refusal}
use Rattle.picture_grammar.specs.Grammar.{Grammar, done, ◌>>=◌, each}
use Rattle.picture_grammar.specs.Exact.{IsLocal}
use Rattle.picture_grammar.specs.Block.{block}
use Rattle.picture_grammar.specs.Macroblock.{is_coded, block_way, no_block, blocks}
use Rattle.picture_grammar.proofs.LocalLaws.{local-bind, local-done, local-block}
use Rattle.picture_laws.proofs.LocalHeaders.{local-when}
use Rattle.grammar_reading.specs.BitsRead.{Reads, Explains}
use Rattle.grammar_reading.proofs.BitsRead.{stands-before, reads-both, explains-both, advances-on, reads-advances, reads-done}
use Rattle.macroblock_reader.specs.declared.fault.SliceFault.{SliceFault}
use Rattle.macroblock_reader.specs.SliceFault.{refusal_told}
use Rattle.macroblock_reader.specs.Private.Answers.{Answers}
use Rattle.macroblock_reader.specs.Private.Parts.{block_at, BlocksRead}
use Rattle.macroblock_reader.proofs.Courses.{answers-read, rose-on, err-same}
use Rattle.list_types.proofs.Lists.{range-last}

-- ---- one more of the items of a list

module _ {I A : Type 0} (grammar : I → Grammar A) where
  pub each-more : (is : List I) (i : I) (values : List A) (value : A) (bits middle rest : List ℕ) → (each is grammar).Spells values bits middle
      → (grammar i).Spells value middle rest → (each (is ++ i ∷ []) grammar).Spells (values ++ value ∷ []) bits rest
  each-more [] i values value bits middle rest (e, f) s =
      (value, rest, subst (λ b. (grammar i).Spells value b rest) (sym f) s, ([], rest, (refl, refl), (ap (λ vs. vs ++ value ∷ []) e, refl)))
  each-more (j ∷ is) i values value bits middle rest (v, m, s, (vs, m', t, (e, f))) u =
      let others = each-more is i vs value m middle rest (subst (λ b. (each is grammar).Spells vs m b) f t) u in
      (v, m, s, (vs ++ value ∷ [], rest, others, (ap (λ ws. ws ++ value ∷ []) e, refl)))

  pub each-refused : (is : List I) (i : I) (later : List I) (values : List A) (bits middle left : List ℕ) (refusal : Refusal)
      → (each is grammar).Spells values bits middle → (grammar i).Refuses middle refusal left
      → (each (is ++ i ∷ later) grammar).Refuses bits refusal left
  each-refused [] i later values bits middle left refusal (e, f) r = inl (subst (λ b. (grammar i).Refuses b refusal left) (sym f) r)
  each-refused (j ∷ is) i later values bits middle left refusal (v, m, s, (vs, m', t, (e, f))) r =
      inr (v, m, s, inl (each-refused is i later vs m middle left refusal (subst (λ b. (each is grammar).Spells vs m b) f t) r))

  pub local-each : ((i : I) → IsLocal (grammar i)) → (is : List I) → IsLocal (each is grammar)
  local-each local [] = local-done []
  local-each local (i ∷ is) =
      local-bind (grammar i) (λ value. each is grammar >>= λ values. done (value ∷ values)) (local i)
      (λ value. local-bind (each is grammar) (λ values. done (value ∷ values)) (local-each local is) (λ values. local-done (value ∷ values)))

range-split : (a i n : ℕ) → i < n → (later : List ℕ) × (range_with_len a n ≡ range_with_len a i ++ (a + i) ∷ later)
range-split a i zero lt = absurd (omega (arith, lt))
range-split a zero (suc n) lt = (range_with_len (a + 1) n, ap (λ x. x ∷ range_with_len (a + 1) n) (let e : a ≡ a + 0 = omega arith in e))
range-split a (suc i) (suc n) lt =
    let (later, e) = range-split (a + 1) i n (omega (arith, lt)) in
    (later, ap (λ (xs : List ℕ). a ∷ xs) (e ∙ ap (λ x. range_with_len (a + 1) i ++ x ∷ later) (let f : a + 1 + i ≡ a + suc i = omega arith in f)))

from-zero : (i : ℕ) → 0 + i ≡ i
from-zero i = omega arith

-- ---- the blocks

pub local-block_at : (coding : PicCoding) (kind : Kind) (pattern i : ℕ) → IsLocal (block_at coding kind pattern i)
local-block_at coding kind pattern i = local-when (is_coded kind pattern i) (block (block_way coding kind i)) no_block (local-block (block_way coding kind i))

pub local-blocks : (coding : PicCoding) (kind : Kind) (pattern : ℕ) → IsLocal (blocks coding kind pattern)
local-blocks coding kind pattern = local-each (block_at coding kind pattern) (local-block_at coding kind pattern) (range_with_len 0 6)

module _ {S : Type 0} {g : Ghosts S} (coding : PicCoding) (kind : Kind) (pattern : ℕ) where
  pub blocks-none : (into : List Block) (reader : BitReader S g) → length into ≡ 6 → KeepsSource reader reader → BlocksRead coding kind pattern 0 into reader reader
  blocks-none into reader six keeps = record { six = six; reads = reads-done [] (bits_left reader) (place reader); keeps = keeps }

  module _ (keeps_on : (x y z : S) → g.keeps x y → g.keeps y z → g.keeps x z) (i : ℕ) (into : List Block) {old middle new : BitReader S g}
      (so_far : BlocksRead coding kind pattern i into old middle) (within : i < 6) where
    pub blocks-more : (next : ℕ) (b : Block) (after : List Block) → next ≡ i + 1 → take next after ≡ take i into ++ b ∷ [] → length after ≡ 6
        → Answers ⊥ (block_at coding kind pattern i) (Ok b) middle new → BlocksRead coding kind pattern next after old new
    blocks-more next b after is front six a =
        let local = local-each (block_at coding kind pattern) (local-block_at coding kind pattern) (range_with_len 0 i) in
        let r = reads-both (each (range_with_len 0 i) (block_at coding kind pattern)) (block_at coding kind pattern i)
        (each (range_with_len 0 i ++ i ∷ []) (block_at coding kind pattern)) (take i into) b (take i into ++ b ∷ [])
        (each-more (block_at coding kind pattern) (range_with_len 0 i) i (take i into) b) (stands-before (block_at coding kind pattern i) (take i into) b local) so_far.reads a.ok in
        let suc-is : next ≡ suc i = omega arith in
        let range : range_with_len 0 next ≡ range_with_len 0 i ++ i ∷ [] = ap (range_with_len 0) suc-is ∙ range-last 0 i ∙ ap (λ x. range_with_len 0 i ++ x ∷ []) (from-zero i) in
        record {
          six = six;
          reads = subst (λ bs. Reads (each (range_with_len 0 next) (block_at coding kind pattern)) bs old new) (sym front)
              (subst (λ xs. Reads (each xs (block_at coding kind pattern)) (take i into ++ b ∷ []) old new) (sym range) r);
          keeps = keeps_then keeps_on so_far.keeps a.keeps;
        }

    pub blocks-err : (fault : SliceFault) → Answers ⊥ (block_at coding kind pattern i) (Err fault) middle new → Answers ⊥ (blocks coding kind pattern) (Err fault) old new
    blocks-err fault a =
        let (later, split) = range-split 0 i 6 within in
        let range : range_with_len 0 6 ≡ range_with_len 0 i ++ i ∷ later = split ∙ ap (λ x. range_with_len 0 i ++ x ∷ later) (from-zero i) in
        record {
          ok = tt;
          refused = subst (λ xs. Explains (each xs (block_at coding kind pattern)) old (refusal_told fault)) (sym range)
              (explains-both (each (range_with_len 0 i) (block_at coding kind pattern)) (block_at coding kind pattern i)
              (each (range_with_len 0 i ++ i ∷ later) (block_at coding kind pattern)) (take i into)
              (each-refused (block_at coding kind pattern) (range_with_len 0 i) i later (take i into)) (refusal_told fault) so_far.reads a.refused);
          advances = advances-on (reads-advances so_far.reads) a.advances;
          failed = λ is. rose-on (faults_of old) (faults_of middle) (faults_of new) so_far.keeps.faults a.keeps.faults (a.failed (err-same _ _ is));
          missing = λ is. rose-on (absences_of old) (absences_of middle) (absences_of new) so_far.keeps.absences a.keeps.absences (a.missing (err-same _ _ is));
          memory = λ is. a.memory (err-same _ _ is);
          keeps = keeps_then keeps_on so_far.keeps a.keeps;
        }

  pub blocks-all : (i : ℕ) (into : List Block) (old now : BitReader S g) → BlocksRead coding kind pattern i into old now → i ≡ 6 → Answers ⊥ (blocks coding kind pattern) (Ok into) old now
  blocks-all i into old now r is =
      let six = r.six in
      let range = subst (λ k. Reads (each (range_with_len 0 k) (block_at coding kind pattern)) (take k into) old now) is r.reads in
      answers-read (blocks coding kind pattern) into old now (subst (λ bs. Reads (blocks coding kind pattern) bs old now) (take_all 6 into (omega arith)) range) r.keeps
