-- How long the codes of the tables are, and the parts that they are put into.
use Rattle.std.proofs.Common.{◌≡◌, ℕ, zero, suc, ◌+◌, ◌*◌, ◌<◌, ◌≤◌, Option, Some, None, List, [], ◌∷◌, Bool, true, false, refl, sym, arith, length, unwrap_or}
use Rattle.std.specs.Prelude.{◌&&◌, nat_le, nat_lt, if◌then◌else◌}
use Rattle.std.specs.List.{flat_map, list_all, range_with_len}
use Rattle.std.proofs.lemmas.Bool.{leb-true}
use Rattle.std.proofs.lemmas.List.{length-append}
use Rattle.prefix_codes.specs.declared.table_name.TableName.{TableName}
use Rattle.prefix_codes.specs.declared.table_name.TableName.TheVariants.{Address, TypeI, TypeP, TypeB, Pattern, Motion, DcLuma, DcChroma, CoeffZero, CoeffFirst, CoeffOne}
use Rattle.prefix_codes.specs.declared.symbol.TheConstants.{LEVELS_PER_RUN, RUNS}
use Rattle.prefix_codes.specs.Entry.{Entry, coefficient_symbol}
use Rattle.prefix_codes.specs.TableName.{entries, code_in, coefficient_code, code_for}
use Rattle.prefix_codes.proofs.Computing.{tables}
use Rattle.prefix_codes.proofs.TableLemmas.{code_in-passes}
use Rattle.picture_grammar.specs.Block.{dc_table}
use Rattle.picture_grammar.specs.Written.{if_any}

-- ---- codes

abbrev is_short : Entry → Bool
is_short e = nat_le (length e.1) 17

are_short : (table : TableName) → list_all is_short (entries table) ≡ true
unfolding tables
are_short Address = refl
are_short TypeI = refl
are_short TypeP = refl
are_short TypeB = refl
are_short Pattern = refl
are_short Motion = refl
are_short DcLuma = refl
are_short DcChroma = refl
are_short CoeffZero = refl
are_short CoeffFirst = refl
are_short CoeffOne = refl

found-short : (table : TableName) (symbol : ℕ) (found : Option (List ℕ)) → found ≡ code_in table symbol → length (unwrap_or found []) ≤ 17
found-short table symbol None is = omega arith
found-short table symbol (Some code) is = leb-true (length code) 17 (code_in-passes is_short table symbol code (are_short table) (sym is))

-- no code is longer than 17 bits
pub code-short : (table : TableName) (symbol : ℕ) → length (code_for table symbol) ≤ 17
code-short table symbol = found-short table symbol (code_in table symbol) refl

tested-short : (table : TableName) (symbol : ℕ) (code : List ℕ) (is : Bool) → Some code ≡ (if is then code_in table symbol else None) → length code ≤ 17
tested-short table symbol code true e = leb-true (length code) 17 (code_in-passes is_short table symbol code (are_short table) (sym e))
tested-short table symbol code false e = absurd (let clash : Some code ≡ None = e in cc)

-- nor is that of a coefficient
pub coefficient_code-short : (table : TableName) (run size : ℕ) (code : List ℕ) → Some code ≡ coefficient_code table run size → length code ≤ 17
unfolding coefficient_code
coefficient_code-short table run size code e =
    tested-short table (coefficient_symbol run size) code (nat_lt run RUNS && nat_lt 0 size && nat_lt size LEVELS_PER_RUN) e

abbrev is_small : Entry → Bool
is_small e = nat_le e.0 11

are_small : (luma : Bool) → list_all is_small (entries (dc_table luma)) ≡ true
unfolding tables
are_small true = refl
are_small false = refl

-- dct_dc_size is at most 11
pub dc_size-small : (luma : Bool) (size : ℕ) (code : List ℕ) → code_in (dc_table luma) size ≡ Some code → size ≤ 11
dc_size-small luma size code listed = leb-true size 11 (code_in-passes is_small (dc_table luma) size code (are_small luma) listed)

-- ---- parts

-- a part that may be missing
pub if_any-short : {A : Type 0} (written : A → List ℕ) (most : ℕ) → ((a : A) → length (written a) ≤ most) → (part : Option A) → length (if_any written part) ≤ most
if_any-short written most each None = omega arith
if_any-short written most each (Some a) = each a

-- a part that stands where it is called for
pub where-short : (stands : Bool) (part : List ℕ) (most : ℕ) → length part ≤ most → length (if stands then part else []) ≤ most
where-short true part most short = short
where-short false part most short = omega arith

pub unless-short : (missing : Bool) (part : List ℕ) (most : ℕ) → length part ≤ most → length (if missing then [] else part) ≤ most
unless-short true part most short = omega arith
unless-short false part most short = short

-- one part for each item of a list
pub flat-short : {A : Type 0} (written : A → List ℕ) (most : ℕ) → ((a : A) → length (written a) ≤ most) → (items : List A) → length (flat_map written items) ≤ most * length items
flat-short written most each [] = omega arith
flat-short written most each (x ∷ xs) = omega (arith, length-append (written x) (flat_map written xs), each x, flat-short written most each xs)

-- one part for each of so many numbers
pub numbers-short : (written : ℕ → List ℕ) (most from n : ℕ) → ((i : ℕ) → i < from + n → length (written i) ≤ most) → length (flat_map written (range_with_len from n)) ≤ most * n
numbers-short written most from zero each = omega arith
numbers-short written most from (suc n) each =
    let later : length (flat_map written (range_with_len (from + 1) n)) ≤ most * n = numbers-short written most (from + 1) n (λ i below. each i (omega (arith, below))) in
    let here : length (written from) ≤ most = each from (omega arith) in
    let split : length (flat_map written (range_with_len from (suc n))) ≡ length (written from) + length (flat_map written (range_with_len (from + 1) n)) =
    length-append (written from) (flat_map written (range_with_len (from + 1) n)) in
    omega (arith, split, here, later)
