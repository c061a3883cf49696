-- A block read as a DC coefficient and a list of coefficients.
use Rattle.std.proofs.Common.{
  ◌≡◌,
  ℕ,
  ◌<◌,
  ◌==◌,
  if◌then◌else◌,
  Bool,
  true,
  false,
  List,
  Option,
  Some,
  None,
  IfSome,
  IsSomeAnd,
  IsNone,
  Result,
  Ok,
  Err,
  OnOk,
  OnErr,
  IfErr,
  MatchResult,
  sym,
  ap,
  subst,
  arith,
}
use Rattle.std.proofs.lemmas.Bool.{ne_eqb}
use Rattle.prefix_codes.specs.declared.table_name.TableName.{TableName}
use Rattle.prefix_codes.specs.declared.table_name.TableName.TheVariants.{CoeffZero, CoeffFirst, CoeffOne}
use Rattle.syntax_types.specs.declared.block.Block.{Block}
use Rattle.syntax_types.specs.declared.block.BlockWay.{BlockWay}
use Rattle.syntax_types.specs.declared.block.Dc.{Dc}
use Rattle.syntax_types.specs.declared.block.RunLevel.{RunLevel}
use Rattle.picture_grammar.specs.Grammar.{Grammar, done, ◌>>=◌, optional, many, more_of}
use Rattle.picture_grammar.specs.Exact.{IsLocal}
use Rattle.picture_grammar.specs.Block.{dc_table, dc_coefficient, coefficient, coefficient_table, next_place, block}
use Rattle.picture_grammar.proofs.LocalLaws.{local-dc, local-coefficient, local-bind, local-element, local-done}
use Rattle.picture_grammar.proofs.PictureLaws.{exact-block}
use Rattle.grammar_reading.specs.BitsRead.{PlacedRefusal, AdvancesFrom, ReadsFrom, ExplainsFrom}
use Rattle.grammar_reading.specs.Several.{several}
use Rattle.grammar_reading.proofs.BitsRead.{advances-on, reads-advances, reads-done, reads-some, reads-made, reads-then, stands-before, explains-first, explains-then, read-comes, refused-comes}
use Rattle.grammar_reading.proofs.Several.{local-several}
use Rattle.block_coeffs.specs.declared.fault.BlockFault.{BlockFault}
use Rattle.block_coeffs.specs.BlockFault.{refusal_told}
use Rattle.block_coeffs.specs.Private.DcStanding.{dc_by}
use Rattle.block_coeffs.specs.Private.Standing.{coefficient_at}

-- ---- the DC coefficient

explains-present : (way : BlockWay) (intra : Bool) → intra ≡ true → (said : Option PlacedRefusal) (told : Option (List ℕ)) (place : ℕ)
    → IfSome told (λ bits. ExplainsFrom (dc_coefficient way) said bits place) → IfSome told (λ bits. ExplainsFrom (optional intra (dc_coefficient way)) said bits place)
explains-present way true e said told place h = explains-first (dc_coefficient way) (λ value. done (Some value)) said told place h
explains-present way false e said told place h = absurd (let never : false ≡ true = e in cc)

pub explains-first_dc : (way : BlockWay) (table : TableName) → way.intra ≡ true → table ≡ dc_table way.luma → (said : Option PlacedRefusal) (told : Option (List ℕ)) (place : ℕ)
    → IfSome told (λ bits. ExplainsFrom (dc_by table) said bits place) → IfSome told (λ bits. ExplainsFrom (optional way.intra (dc_coefficient way)) said bits place)
explains-first_dc way table intra is said told place h =
    explains-present way way.intra intra said told place (subst (λ t. IfSome told (λ bits. ExplainsFrom (dc_by t) said bits place)) is h)

reads-present : (way : BlockWay) (intra : Bool) → intra ≡ true → (dc : Dc) (bits after : Option (List ℕ)) (place place_after : ℕ)
    → ReadsFrom (dc_coefficient way) dc bits after place place_after
    → ReadsFrom (optional intra (dc_coefficient way)) (Some dc) bits after place place_after
reads-present way true e dc bits after place place_after r = reads-some r
reads-present way false e dc bits after place place_after r = absurd (let never : false ≡ true = e in cc)

pub reads-first_dc : (way : BlockWay) (table : TableName) → way.intra ≡ true → table ≡ dc_table way.luma → (dc : Dc) (bits after : Option (List ℕ)) (place place_after : ℕ)
    → ReadsFrom (dc_by table) dc bits after place place_after → ReadsFrom (optional way.intra (dc_coefficient way)) (Some dc) bits after place place_after
reads-first_dc way table intra is dc bits after place place_after r =
    reads-present way way.intra intra dc bits after place place_after (subst (λ t. ReadsFrom (dc_by t) dc bits after place place_after) is r)

reads-absent : (way : BlockWay) (intra : Bool) → intra ≡ false → (bits : Option (List ℕ)) (place : ℕ) → ReadsFrom (optional intra (dc_coefficient way)) None bits bits place place
reads-absent way true e bits place = absurd (let never : true ≡ false = e in cc)
reads-absent way false e bits place = reads-done None bits place

pub reads-no_dc : (way : BlockWay) → way.intra ≡ false → (bits : Option (List ℕ)) (place : ℕ) → ReadsFrom (optional way.intra (dc_coefficient way)) None bits bits place place
reads-no_dc way e bits place = reads-absent way way.intra e bits place

pub local-dc_by : (table : TableName) → IsLocal (dc_by table)
local-dc_by table = local-bind _ _ (local-element _ _ _) (λ size. local-bind _ _ (local-element _ _ _) (λ bits. local-done _))

-- ---- a coefficient

-- behind the first place the table is always the same
pub later-table : (way : BlockWay) (index : ℕ) → 0 < index → coefficient_table way index ≡ coefficient_table way 1
later-table way index behind =
    let ne : (index == 0) ≡ false = ne_eqb index 0 (omega arith) in
    ap (λ first. if way.intra then (if way.vlc_one then CoeffOne else CoeffZero) else (if first then CoeffFirst else CoeffZero)) ne

-- a coefficient at its place doesn't look ahead
pub local-at : (way : BlockWay) (before : List RunLevel) (table : TableName) (index : ℕ) → table ≡ coefficient_table way index → index ≡ next_place way before → IsLocal (coefficient_at table index)
local-at way before table index table_is index_is =
    subst (λ t. IsLocal (coefficient_at t index)) (sym table_is)
    (subst (λ n. IsLocal (coefficient_at (coefficient_table way n) n)) (sym index_is) (local-coefficient way before))

pub local-coefficients : (way : BlockWay) → IsLocal (several (coefficient way))
local-coefficients way = local-several (coefficient way) (local-coefficient way)

-- the grammar of a coefficient behind others, by its table and its place
pub reads-coefficient : (way : BlockWay) (before : List RunLevel) (table : TableName) (index : ℕ) → table ≡ coefficient_table way index
    → index ≡ next_place way before → (found value : Option RunLevel) → found ≡ value
    → (bits after : Option (List ℕ)) (place place_after : ℕ) → ReadsFrom (coefficient_at table index) (more_of found) bits after place place_after
    → ReadsFrom (coefficient way before) (more_of value) bits after place place_after
reads-coefficient way before table index table_is index_is found value is bits after place place_after r =
    subst (λ v. ReadsFrom (coefficient way before) (more_of v) bits after place place_after) is
    (subst (λ n. ReadsFrom (coefficient_at (coefficient_table way n) n) (more_of found) bits after place place_after) index_is
    (subst (λ t. ReadsFrom (coefficient_at t index) (more_of found) bits after place place_after) table_is r))

pub explains-coefficient : (way : BlockWay) (before : List RunLevel) (table : TableName) (index : ℕ) → table ≡ coefficient_table way index
    → index ≡ next_place way before → (said : Option PlacedRefusal) (told : Option (List ℕ)) (place : ℕ)
    → IfSome told (λ bits. ExplainsFrom (coefficient_at table index) said bits place) → IfSome told (λ bits. ExplainsFrom (coefficient way before) said bits place)
explains-coefficient way before table index table_is index_is said told place h =
    subst (λ n. IfSome told (λ bits. ExplainsFrom (coefficient_at (coefficient_table way n) n) said bits place)) index_is
    (subst (λ t. IfSome told (λ bits. ExplainsFrom (coefficient_at t index) said bits place)) table_is h)

-- ---- the block

-- the coefficients behind the DC coefficient, and the block of both
abbrev rest_of : BlockWay → Option Dc → Grammar Block
rest_of way dc = many (coefficient way) >>= λ coefficients. done (record { dc = dc; pairs = record { items = coefficients.0 } })

pub reads-block : (way : BlockWay) (dc : Option Dc) (pairs : List RunLevel) (bits middle after : Option (List ℕ)) (place place_middle place_after : ℕ)
    → ReadsFrom (optional way.intra (dc_coefficient way)) dc bits middle place place_middle → ReadsFrom (many (coefficient way)) (pairs, tt) middle after place_middle place_after
    → ReadsFrom (block way) (record { dc = dc; pairs = record { items = pairs } }) bits after place place_after
unfolding block
reads-block way dc pairs bits middle after place place_middle place_after first others =
    reads-then (rest_of way) (stands-before (rest_of way dc) dc (record { dc = dc; pairs = record { items = pairs } }) (local-dc way)) first
    (reads-made {grammar = many (coefficient way)} (λ coefficients. record { dc = dc; pairs = record { items = coefficients.0 } }) others)

-- a refusal of the DC coefficient
pub explains-dc : (way : BlockWay) (said : Option PlacedRefusal) (told : Option (List ℕ)) (place : ℕ)
    → IfSome told (λ bits. ExplainsFrom (optional way.intra (dc_coefficient way)) said bits place)
    → IfSome told (λ bits. ExplainsFrom (block way) said bits place)
unfolding block
explains-dc way said told place h = explains-first (optional way.intra (dc_coefficient way)) (rest_of way) said told place h

-- a refusal behind it
pub explains-pairs : (way : BlockWay) (dc : Option Dc) (bits middle : Option (List ℕ)) (place place_middle : ℕ) → ReadsFrom (optional way.intra (dc_coefficient way)) dc bits middle place place_middle
    → (said : Option PlacedRefusal) → IfSome middle (λ rest. ExplainsFrom (many (coefficient way)) said rest place_middle) → IfSome bits (λ rest. ExplainsFrom (block way) said rest place)
unfolding block
explains-pairs way dc bits middle place place_middle first said h =
    explains-then (rest_of way) said first
    (explains-first (many (coefficient way)) (λ coefficients. done (record { dc = dc; pairs = record { items = coefficients.0 } })) said middle place_middle h)

-- ---- how a call ends that reads the coefficients behind the DC coefficient

module _ {T : Type 0} (way : BlockWay) (dc : Option Dc) (pairs : List RunLevel) (bits middle after : Option (List ℕ)) (place place_middle place_after : ℕ)
    (first : ReadsFrom (optional way.intra (dc_coefficient way)) dc bits middle place place_middle) where
  pub block-ok : (r : Result T BlockFault) → OnOk r (ReadsFrom (many (coefficient way)) (pairs, tt) middle after place_middle place_after)
      → OnOk r (ReadsFrom (block way) (record { dc = dc; pairs = record { items = pairs } }) bits after place place_after)
  block-ok (Ok x) others = reads-block way dc pairs bits middle after place place_middle place_after first others
  block-ok (Err f) others = tt

  pub block-refused : (r : Result T BlockFault) → IfErr r (λ f. IfSome middle (λ rest. ExplainsFrom (many (coefficient way)) (refusal_told f) rest place_middle))
      → IfErr r (λ f. IfSome bits (λ rest. ExplainsFrom (block way) (refusal_told f) rest place))
  block-refused (Ok x) refused = tt
  block-refused (Err f) refused = explains-pairs way dc bits middle place place_middle first (refusal_told f) refused

  pub block-advances : (r : Result T BlockFault) → OnOk r (ReadsFrom (many (coefficient way)) (pairs, tt) middle after place_middle place_after)
      → OnErr r (AdvancesFrom middle after place_middle place_after) → AdvancesFrom bits after place place_after
  block-advances (Ok x) others advances = advances-on (reads-advances first) (reads-advances others)
  block-advances (Err f) others advances = advances-on (reads-advances first) advances

-- where the bits are told, the answer is theirs
pub block-exact : {T : Type 0} (way : BlockWay) (v b : Block) (bits after : Option (List ℕ)) (place place_after : ℕ) (rest : List ℕ) (r : Result T BlockFault)
    → OnOk r (ReadsFrom (block way) v bits after place place_after) → IfErr r (λ f. IfSome bits (λ told. ExplainsFrom (block way) (refusal_told f) told place))
    → IsSomeAnd bits (λ told. (block way).Spells b told rest) → MatchResult r (λ _. (v ≡ b) × (after ≡ Some rest)) (λ f. IsNone (refusal_told f))
block-exact way v b bits after place place_after rest (Ok x) reads refused comes = read-comes (exact-block way) rest reads comes
block-exact way v b bits after place place_after rest (Err f) reads refused comes = refused-comes (exact-block way) b bits place (refusal_told f) rest refused comes
