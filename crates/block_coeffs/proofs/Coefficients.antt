-- One coefficient more, or the end of block, behind coefficients that were read.
use Rattle.std.proofs.Common.{
  ◌≡◌,
  ℕ,
  ℤ,
  ◌+◌,
  ◌<◌,
  ◌≤◌,
  ◌==◌,
  if◌then◌else◌,
  Bool,
  true,
  false,
  List,
  [],
  ◌∷◌,
  ◌++◌,
  Option,
  Some,
  None,
  IfSome,
  Result,
  Ok,
  Err,
  OnErr,
  length,
  refl,
  sym,
  ap,
  subst,
  ◌∙◌,
  add-zero,
  arith,
  length-append,
}
use Rattle.std.specs.Option.{option_map}
use Rattle.prefix_codes.specs.declared.table_name.TableName.{TableName}
use Rattle.prefix_codes.specs.declared.table_name.TableName.TheVariants.{CoeffZero, CoeffFirst, CoeffOne}
use Rattle.syntax_types.specs.declared.block.BlockWay.{BlockWay}
use Rattle.syntax_types.specs.declared.block.RunLevel.{RunLevel}
use Rattle.shelf_io.specs.Source.{without_front}
use Rattle.picture_grammar.specs.Grammar.{many}
use Rattle.picture_grammar.specs.Grammar.Next.{more, last}
use Rattle.picture_grammar.specs.Block.{coefficient, coefficient_table, first_place, next_place}
use Rattle.picture_grammar.proofs.WrittenBlock.{next_place-push}
use Rattle.grammar_reading.specs.declared.window.BitWindow.{BitWindow}
use Rattle.grammar_reading.specs.Window.{ShowsFront}
use Rattle.grammar_reading.specs.BitsRead.{AdvancesFrom, ReadsFrom, ExplainsFrom}
use Rattle.grammar_reading.specs.Several.{several}
use Rattle.grammar_reading.proofs.BitsRead.{advances-on, stands-before}
use Rattle.grammar_reading.proofs.Several.{reads-none, reads-more, reads-end, explains-list}
use Rattle.block_coeffs.specs.declared.fault.BlockFault.{BlockFault}
use Rattle.block_coeffs.specs.declared.why.Why.{Why}
use Rattle.block_coeffs.specs.declared.standing.Standing.TheVariants.{EndOfBlock, Pair, Refused}
use Rattle.block_coeffs.specs.BlockFault.{refusal_told}
use Rattle.block_coeffs.specs.Private.Why.{fault_at}
use Rattle.block_coeffs.specs.Private.Standing.{coefficient_at, IsFound, IsPair, ShowsKnown}
use Rattle.block_coeffs.specs.Private.Pairs.{IsBehind}
use Rattle.block_coeffs.specs.Private.ShortCodes.{run_of, level_of, length_of}
use Rattle.block_coeffs.proofs.Blocks.{local-at, local-coefficients, reads-coefficient, explains-coefficient}
use Rattle.block_coeffs.proofs.Steps.{reads-known, explains-found}

-- ---- none yet

pub none-read : (way : BlockWay) (items : List RunLevel) (bits : Option (List ℕ)) (at : ℕ) → items ≡ [] → ReadsFrom (several (coefficient way)) items bits bits at at
none-read way items bits at none = subst (λ pairs. ReadsFrom (several (coefficient way)) pairs bits bits at at) (sym none) (reads-none (coefficient way) bits at)

-- ... where the reader stays
pub none-read_yet : (way : BlockWay) (items : List RunLevel) (bits now : Option (List ℕ)) (at place_now : ℕ) → items ≡ [] → now ≡ bits
    → place_now ≡ at → ReadsFrom (several (coefficient way)) items bits now at place_now
none-read_yet way items bits now at place_now none same stays =
    subst (λ (t : Option (List ℕ)). ReadsFrom (several (coefficient way)) items bits t at place_now) (sym same)
    (subst (λ n. ReadsFrom (several (coefficient way)) items bits bits at n) (sym stays) (none-read way items bits at none))

pub none-behind : (way : BlockWay) (items : List RunLevel) (index : ℕ) → index ≡ first_place way → index ≤ 64 → items ≡ [] → IsBehind way index items
none-behind way items index is within none = record {
  is = is ∙ sym (add-zero (first_place way)) ∙ ap (next_place way) (sym none);
  few = subst (λ (pairs : List RunLevel). length pairs ≤ index) (sym none) (omega arith);
  within = within;
}

pub intra-place : (way : BlockWay) → way.intra ≡ true → 1 ≡ first_place way
intra-place way intra = sym (ap (λ (b : Bool). if b then 1 else 0) intra)

pub inter-place : (way : BlockWay) → way.intra ≡ false → 0 ≡ first_place way
inter-place way inter = sym (ap (λ (b : Bool). if b then 1 else 0) inter)

-- ---- tables

pub intra-table : (way : BlockWay) (one : Bool) → way.intra ≡ true → way.vlc_one ≡ one → (if one then CoeffOne else CoeffZero) ≡ coefficient_table way 1
intra-table way one intra is =
    sym (ap (λ (b : Bool). if b then (if way.vlc_one then CoeffOne else CoeffZero) else (if 1 == 0 then CoeffFirst else CoeffZero)) intra ∙ ap (λ (b : Bool). if b then CoeffOne else CoeffZero) is)

pub inter-table : (way : BlockWay) → way.intra ≡ false → CoeffZero ≡ coefficient_table way 1
inter-table way inter = sym (ap (λ (b : Bool). if b then (if way.vlc_one then CoeffOne else CoeffZero) else (if 1 == 0 then CoeffFirst else CoeffZero)) inter)

pub inter-first : (way : BlockWay) → way.intra ≡ false → CoeffFirst ≡ coefficient_table way 0
inter-first way inter = sym (ap (λ (b : Bool). if b then (if way.vlc_one then CoeffOne else CoeffZero) else (if 0 == 0 then CoeffFirst else CoeffZero)) inter)

-- ---- one more

-- the place behind one more
pub more-behind : (way : BlockWay) (before items : List RunLevel) (pair : RunLevel) (index run next : ℕ) → IsBehind way index before → index + pair.run < 64 → run ≡ pair.run → next ≡ index + (run + 1)
    → items ≡ before ++ pair ∷ [] → IsBehind way next items
more-behind way before items pair index run next b within same next_is items_are =
    let count : length items ≡ length before + 1 = ap length items_are ∙ length-append before (pair ∷ []) in
    let few : length before ≤ index = b.few in
    record {
      is = next_is ∙ ap (λ n. n + (run + 1)) b.is ∙ ap (λ r. next_place way before + (r + 1)) same ∙ sym (next_place-push way before pair) ∙ ap (next_place way) (sym items_are);
      few = omega arith;
      within = omega arith;
    }

module _ (way : BlockWay) (before : List RunLevel) (table : TableName) (index : ℕ) (table_is : table ≡ coefficient_table way index) (index_is : index ≡ next_place way before)
    (window : BitWindow) (told after : Option (List ℕ)) (place place_after : ℕ) where
  -- a coefficient was found and its bits were passed
  pub pair-read : IfSome told (ShowsKnown window) → (bits : Option (List ℕ)) (at word next run : ℕ) (held : ℤ) (len : ℕ) (items : List RunLevel)
      → IsFound table index window (Pair word next) → run ≡ run_of word → held ≡ level_of word → len ≡ length_of word → after ≡ without_front told len → place_after ≡ place + len
      → items ≡ before ++ record { run = run; level = held } ∷ [] → ReadsFrom (several (coefficient way)) before bits told at place
      → ReadsFrom (several (coefficient way)) items bits after at place_after
  pair-read shows bits at word next run held len items is run_is held_is len_is left moved items_are r =
      let pair : RunLevel = record { run = run; level = held } in
      let p : IsPair table index window run held len =
      subst (λ n. IsPair table index window n held len) (sym run_is)
      (subst (λ (l : ℤ). IsPair table index window (run_of word) l len) (sym held_is) (subst (λ n. IsPair table index window (run_of word) (level_of word) n) (sym len_is) is.1)) in
      let found = reads-known (coefficient_at table index) (local-at way before table index table_is index_is) (more pair) told after window len place place_after shows p.0 p.2 left moved in
      let read = reads-coefficient way before table index table_is index_is (Some pair) (Some pair) refl told after place place_after found in
      subst (λ pairs. ReadsFrom (several (coefficient way)) pairs bits after at place_after) (sym items_are)
      (reads-more (coefficient way) (stands-before (coefficient way before) before (more pair) (local-coefficients way)) r read)

  -- the end of block was found and passed
  pub end-read : IfSome told (ShowsKnown window) → (bits : Option (List ℕ)) (at len : ℕ) → IsFound table index window (EndOfBlock len) → after ≡ without_front told len → place_after ≡ place + len
      → ReadsFrom (several (coefficient way)) before bits told at place → ReadsFrom (many (coefficient way)) (before, tt) bits after at place_after
  end-read shows bits at len is left moved r =
      let found = reads-known (coefficient_at table index) (local-at way before table index table_is index_is) (last tt) told after window len place place_after shows is.0 is.1 left moved in
      let read = reads-coefficient way before table index table_is index_is None None refl told after place place_after found in
      reads-end (coefficient way) (stands-before (coefficient way before) before (last tt) (local-coefficients way)) r read

  -- neither was found
  pub refused-read : IfSome told (ShowsFront window) → (bits : Option (List ℕ)) (at : ℕ) (why : Why) (behind place_refused : ℕ) (fault : BlockFault)
      → IsFound table index window (Refused why behind) → fault ≡ fault_at why place_refused → place_refused ≡ place + behind
      → ReadsFrom (several (coefficient way)) before bits told at place → IfSome bits (λ b. ExplainsFrom (many (coefficient way)) (refusal_told fault) b at)
  refused-read shows bits at why behind place_refused fault is fault_is placed r =
      let here = explains-found (coefficient_at table index) why told window behind place place_refused shows is.0 is.1 placed in
      let named = subst (λ f. IfSome told (λ b. ExplainsFrom (coefficient_at table index) (refusal_told f) b place)) (sym fault_is) here in
      explains-list (coefficient way) (refusal_told fault) r (explains-coefficient way before table index table_is index_is (refusal_told fault) told place named)

-- ---- bits that were passed

-- a reader that stays where it is
pub stays-advanced : {bits told now : Option (List ℕ)} {at place place_now : ℕ} → AdvancesFrom bits told at place → now ≡ told → place_now ≡ place → AdvancesFrom bits now at place_now
stays-advanced a same stays = record { front = a.front; left = a.left ∙ ap (option_map (λ rest. a.front ++ rest)) (sym same); moved = stays ∙ a.moved }

-- what was passed before a call that refuses, and in it
pub advances-result : {T : Type 0} (bits middle after : Option (List ℕ)) (at place_middle place_after : ℕ) (r : Result T BlockFault) → AdvancesFrom bits middle at place_middle
    → OnErr r (AdvancesFrom middle after place_middle place_after) → OnErr r (AdvancesFrom bits after at place_after)
advances-result bits middle after at place_middle place_after (Ok x) a b = tt
advances-result bits middle after at place_middle place_after (Err f) a b = advances-on a b
