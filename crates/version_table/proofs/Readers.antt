-- What a reader knows after the lines that it read, and what it answers at the end.
use Rattle.std.proofs.Common.{◌≡◌, ℕ, ◌+◌, ◌<◌, ◌≤◌, true, false, List, [], ◌∷◌, ◌++◌, length, Option, Some, None, Result, Ok, Err, refl, sym, ap, subst, ◌∙◌, arith, inl, inr, MatchOption}
use Rattle.std.specs.Prelude.{IfNone, IfOk, IfErr}
use Rattle.std.proofs.lemmas.List.{append-nil, length-append, length_push}
use Rattle.std.proofs.lemmas.List.Concat.{flat_map-cons}
use Rattle.version_table.specs.declared.limits.TheConstants.{TABLE_TEXT_MOST}
use Rattle.version_table.specs.declared.fault.Limit.{Limit}
use Rattle.version_table.specs.declared.fault.Limit.TheVariants as limits
use Rattle.version_table.specs.declared.fault.TableFault.{TableFault}
use Rattle.version_table.specs.declared.fault.TableFault.TheVariants.{TableSyntax, TableLimit, OutOfMemory}
use Rattle.version_table.specs.declared.line.Line.{Line}
use Rattle.version_table.specs.declared.line.Stage.{Stage}
use Rattle.version_table.specs.declared.line.Stage.TheVariants as stages
use Rattle.version_table.specs.declared.read.Reader.{Reader}
use Rattle.version_table.specs.declared.table.Table.{Table}
use Rattle.version_table.specs.Lines.{text_of_line}
use Rattle.version_table.specs.Order.{IsOpening, IsForm}
use Rattle.version_table.specs.Limits.{first_limit, KeepLimits, BreakFirst}
use Rattle.version_table.specs.Text.{table_spelling, text_of_lines, IsTableSyntaxRefusal, TextReading, Holds, RefusedAt, RefusedFor, IsTableRead, IsFaultOf, Says}
use Rattle.version_table.specs.Private.Reading.{line_at}
use Rattle.version_table.specs.Private.Draft.{stage_after, Allows, is_whole, lines_of_draft, IsDraft}
use Rattle.version_table.specs.Private.Reader.{IsLimitFault, TestsLine, TakesLine, IsTableOf, IsRefusedFor, Finishes}
use Rattle.version_table.proofs.LineTexts.{line_sound}
use Rattle.version_table.proofs.Openings.{stage_of, stage_of_push, opening_push, kept_push, no_lines_open, no_lines_kept}
use Rattle.version_table.proofs.Breaks.{break_push, break_here}
use Rattle.version_table.proofs.LinesTable.{kept_table}
use Rattle.version_table.proofs.Readings.{line_some, stuck_at_end, stuck_from_none, may_from_read, one_reading}
use Rattle.version_table.proofs.Ends.{whole_form, owed_in_head, text_push, syntax_at}

-- no line before broke a limit, and the draft has them all
pub record Whole (stage : Stage) (reader : Reader) (before : List Line) : Type 0 where
  pub kept : KeepLimits before
  pub drafted : IsDraft stage reader.draft
  pub lines : lines_of_draft stage reader.draft ≡ before

abbrev pub Tested : Option Limit → Stage → Reader → List Line → Type 0
Tested None stage reader before = Whole stage reader before
Tested (Some limit) stage reader before = BreakFirst before limit

-- a reader after these lines of a text, of which the rest is left
pub record ReadTo (text : List ℕ) (reader : Reader) (rest : List ℕ) : Type 0 where
  pub before : List Line
  pub parts : text ≡ text_of_lines before ++ rest
  pub opening : IsOpening before
  pub lines : reader.lines ≡ length before
  pub stage : reader.stage ≡ stage_of before
  pub tested : Tested reader.limit reader.stage reader before

pub read_none : (text : List ℕ) (reader : Reader) → reader.lines ≡ 0 → reader.stage ≡ stages.Title → reader.limit ≡ None → IsDraft stages.Title reader.draft → ReadTo text reader text
unfolding lines_of_draft
read_none text reader lines stage limit draft = record {
  before = [];
  parts = refl;
  opening = no_lines_open;
  lines = lines;
  stage = stage;
  tested = rw (limit, stage) (record { kept = no_lines_kept; drafted = draft; lines = refl });
}

-- each line has a byte
pub few_lines : (lines : List Line) → length lines ≤ length (text_of_lines lines)
few_lines [] = omega arith
few_lines (line ∷ lines) = omega (arith, ap length (flat_map-cons text_of_line line lines), length-append (text_of_line line) (text_of_lines lines), line_some line, few_lines lines)

pub few_read : (text : List ℕ) (reader : Reader) (rest : List ℕ) → ReadTo text reader rest → reader.lines + length rest ≤ length text
few_read text reader rest at = omega (arith, at.lines, few_lines at.before, ap length at.parts, length-append (text_of_lines at.before) rest)

tested_next : (o : Option Limit) (before : List Line) (line : Line) (old new : Reader) → Tested o old.stage old before → TestsLine o old line new
    → new.stage ≡ stage_after line → Tested new.limit new.stage new (before ++ line ∷ [])
tested_next (Some limit) before line old new broken tests stage = rw tests (break_push before line limit broken)
tested_next None before line old new whole tests stage = by new.limit refl
  where
    found : new.limit ≡ first_limit before line
    found = tests.0 ∙ ap (λ (ls : List Line). first_limit ls line) whole.lines

    by : (o : Option Limit) → new.limit ≡ o → Tested o new.stage new (before ++ line ∷ [])
    by (Some limit) is = break_here before line limit whole.kept (sym found ∙ is)
    by None is =
        let adds = tests.1 is in
        rw stage (record { kept = kept_push before line whole.kept (sym found ∙ is); drafted = adds.draft; lines = adds.lines ∙ ap (λ (ls : List Line). ls ++ line ∷ []) whole.lines })

pub read_next : (text : List ℕ) (old new : Reader) (rest behind : List ℕ) (line : Line) → ReadTo text old rest
    → line_at old.stage rest ≡ Some (line, behind) → TakesLine old line new → ReadTo text new behind
read_next text old new rest behind line at read takes =
    let (may, is) = may_from_read at.before rest behind line (ap (λ (s : Stage). line_at s rest) (sym at.stage) ∙ read) in
    record {
      before = at.before ++ line ∷ [];
      parts = at.parts ∙ text_push at.before line rest behind is;
      opening = opening_push at.before line at.opening may;
      lines = omega (arith, takes.lines, at.lines, length_push at.before line);
      stage = takes.stage ∙ sym (stage_of_push at.before line);
      tested = tested_next old.limit at.before line old new at.tested takes.tested takes.stage;
    }

drafted_when : (o : Option Limit) (reader : Reader) (before : List Line) → Tested o reader.stage reader before → IfNone o (IsDraft reader.stage reader.draft)
drafted_when None reader before whole = whole.drafted
drafted_when (Some limit) reader before broken = tt

pub read_drafted : (text : List ℕ) (reader : Reader) (rest : List ℕ) → ReadTo text reader rest → IfNone reader.limit (IsDraft reader.stage reader.draft)
read_drafted text reader rest at = drafted_when reader.limit reader at.before at.tested

-- ---- the answers

-- no line comes
pub read_no_line : (text : List ℕ) (reader : Reader) (rest : List ℕ) → length text ≤ TABLE_TEXT_MOST → ReadTo text reader rest → 1 ≤ length rest
    → line_at reader.stage rest ≡ None → IsTableRead text (RefusedAt (reader.lines + 1))
read_no_line text reader rest short at some none =
    let stuck = stuck_from_none at.before rest (ap (λ (s : Stage). line_at s rest) (sym at.stage) ∙ none) in
    let refusal = syntax_at text at.before rest at.parts at.opening stuck (λ form nil. omega (arith, ap length nil)) in
    (short, subst (λ (n : ℕ). IsTableSyntaxRefusal text (n + 1)) (sym at.lines) refusal)

-- the answer is a reading of the text
pub record Answered (text : List ℕ) (answer : Result Table TableFault) : Type 0 where
  pub table : IfOk answer (λ t. IsTableRead text (Holds t))
  pub refusal : IfErr answer (IsFaultOf text)

table_answer : (text : List ℕ) (before : List Line) (answer : Result Table TableFault) → length text ≤ TABLE_TEXT_MOST → text ≡ text_of_lines before
    → IsForm before → KeepLimits before → IsTableOf before answer → Answered text answer
table_answer text before (Ok table) short parts form kept is =
    let spelled : text ≡ table_spelling table = parts ∙ ap text_of_lines (sym is) in
    let valid = kept_table table (subst (λ (t : List ℕ). length t ≤ TABLE_TEXT_MOST) spelled short) (subst IsForm (sym is) form) (subst KeepLimits (sym is) kept) in
    record { table = (short, valid, spelled); refusal = tt }
table_answer text before (Err fault) short parts form kept is = record { table = tt; refusal = subst (IsFaultOf text) (sym is) tt }

limit_answer : (text : List ℕ) (before : List Line) (limit : Limit) (answer : Result Table TableFault) → length text ≤ TABLE_TEXT_MOST
    → text ≡ text_of_lines before → IsForm before → BreakFirst before limit → IsRefusedFor limit answer → Answered text answer
limit_answer text before limit (Ok table) short parts form broken refused = absurd refused
limit_answer text before limit (Err (TableSyntax n)) short parts form broken refused = absurd refused
limit_answer text before limit (Err OutOfMemory) short parts form broken refused = absurd refused
limit_answer text before limit (Err (TableLimit name)) short parts form broken refused =
    record { table = tt; refusal = (limit, inr (short, record { lines = before; spelled = parts; form = form; first = broken }), refused) }

whole_answer : (o : Option Limit) (text : List ℕ) (reader : Reader) (before : List Line) (answer : Result Table TableFault)
    → length text ≤ TABLE_TEXT_MOST → text ≡ text_of_lines before → IsForm before → Tested o reader.stage reader before
    → MatchOption o (IsTableOf (lines_of_draft reader.stage reader.draft) answer) (λ limit. IsRefusedFor limit answer) → Answered text answer
whole_answer None text reader before answer short parts form whole is = table_answer text before answer short parts form whole.kept (subst (λ (ls : List Line). IsTableOf ls answer) whole.lines is)
whole_answer (Some limit) text reader before answer short parts form broken is = limit_answer text before limit answer short parts form broken is

pub read_end : (text : List ℕ) (reader : Reader) (rest : List ℕ) (answer : Result Table TableFault) → length text ≤ TABLE_TEXT_MOST
    → ReadTo text reader rest → rest ≡ [] → Finishes reader answer → Answered text answer
read_end text reader rest answer short at none finishes = by (is_whole reader.stage) refl
  where
    parts : text ≡ text_of_lines at.before
    parts = at.parts ∙ ap (λ (t : List ℕ). text_of_lines at.before ++ t) none ∙ append-nil (text_of_lines at.before)

    by : (b : _) → is_whole reader.stage ≡ b → Answered text answer
    by true whole =
        let ends = rw whole at finishes in
        whole_answer reader.limit text reader at.before answer short parts (whole_form at.before at.opening (ap is_whole (sym at.stage) ∙ whole)) at.tested ends
    by false part =
        let ends = rw part at finishes in
        let owed = owed_in_head at.before at.opening (ap is_whole (sym at.stage) ∙ part) in
        let refusal = syntax_at text at.before [] (at.parts ∙ ap (λ (t : List ℕ). text_of_lines at.before ++ t) none) at.opening (stuck_at_end at.before) (λ form nil. owed form) in
        let read : IsTableRead text (RefusedAt (reader.lines + 1)) = (short, subst (λ (n : ℕ). IsTableSyntaxRefusal text (n + 1)) (sym at.lines) refusal) in
        subst (Answered text) (sym ends) (record { table = tt; refusal = read })

-- no reading but that of the answer
pub only_answer : (text : List ℕ) (answer : Result Table TableFault) → Answered text answer → (reading : TextReading) → IsTableRead text reading → Says answer reading
only_answer text (Ok table) answered reading is = subst (Says (Ok table)) (one_reading text (Holds table) reading answered.table is) refl
only_answer text (Err (TableSyntax n)) answered reading is = subst (Says (Err (TableSyntax n))) (one_reading text (RefusedAt n) reading answered.refusal is) refl
only_answer text (Err (TableLimit name)) answered reading is =
    let (limit, read, named) = answered.refusal in
    subst (Says (Err (TableLimit name))) (one_reading text (RefusedFor limit) reading read is) named
only_answer text (Err OutOfMemory) answered reading is = tt

-- the line that was read may come, and has bytes
pub read_stands : (stage : Stage) (rest behind : List ℕ) (line : Line) → line_at stage rest ≡ Some (line, behind) → Allows stage line
read_stands stage rest behind line read = (line_sound stage rest behind line read).allows

pub read_shorter : (stage : Stage) (rest behind : List ℕ) (line : Line) → line_at stage rest ≡ Some (line, behind) → length behind < length rest
read_shorter stage rest behind line read =
    omega (arith, ap length (line_sound stage rest behind line read).parts, length-append (text_of_line line) behind, line_some line)

-- a text that is too long
pub too_long : (text : List ℕ) (fault : TableFault) → TABLE_TEXT_MOST < length text → IsLimitFault fault limits.Bytes → Answered text (Err fault)
too_long text (TableSyntax n) long named = absurd named
too_long text OutOfMemory long named = absurd named
too_long text (TableLimit name) long named = record { table = tt; refusal = (limits.Bytes, inl (long, refl), named) }
