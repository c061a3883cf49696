-- Where a text ends: in its head, or behind it.
use Rattle.std.proofs.Common.{◌≡◌, ℕ, zero, suc, ◌+◌, ◌<◌, ◌≤◌, ◌⊎◌, true, false, List, [], ◌∷◌, ◌++◌, length, Option, Some, None, refl, sym, ap, subst, ◌∙◌, append_assoc, arith, inl, inr}
use Rattle.std.proofs.lemmas.Bool.{cases_lt}
use Rattle.std.proofs.lemmas.List.{append-nil, length-append}
use Rattle.std.proofs.lemmas.List.Concat.{flat_map-append}
use Rattle.version_table.specs.declared.limits.TheConstants.{TABLE_TEXT_MOST}
use Rattle.version_table.specs.declared.fault.Limit.TheVariants as limits
use Rattle.version_table.specs.declared.line.Line.{Line}
use Rattle.version_table.specs.declared.line.Line.TheVariants.{Title, Slot, Nodes, Evaluations, Program, Unit as UnitLine, Audio, Packet}
use Rattle.version_table.specs.declared.line.Stage.{Stage}
use Rattle.version_table.specs.declared.line.Stage.TheVariants as stages
use Rattle.version_table.specs.Lines.{text_of_line}
use Rattle.version_table.specs.Order.{LineMayStand, IsOpening, IsForm}
use Rattle.version_table.specs.Limits.{KeepLimits}
use Rattle.version_table.specs.Text.{table_spelling, text_of_lines, IsTableSyntaxRefusal, TextReading, Holds, RefusedAt, RefusedFor, IsTableRead}
use Rattle.version_table.specs.Private.Reading.{line_at}
use Rattle.version_table.specs.Private.Draft.{stage_after, Allows, is_whole}
use Rattle.version_table.proofs.Openings.{stage_of, stage_of_push, opening_walk, opening_push, no_lines_open, no_lines_kept, Stuck}
use Rattle.version_table.proofs.Breaks.{kept_or_broken}
use Rattle.version_table.proofs.LinesTable.{kept_table}
use Rattle.version_table.proofs.TableOf.{Follow, walk_follow, table_of, form_table}
use Rattle.version_table.proofs.Readings.{line_some, stuck_at_end, stuck_from_none, may_from_read}

-- ---- a text may end behind its head alone

-- behind a head no line leads back
whole_next : (stage : Stage) (line : Line) → is_whole stage ≡ true → Allows stage line → is_whole (stage_after line) ≡ true
whole_next stages.Title line whole allows = absurd cc
whole_next stages.Slot line whole allows = absurd cc
whole_next stages.Nodes line whole allows = absurd cc
whole_next stages.Evaluations line whole allows = absurd cc
whole_next stages.Programs (Program vbv) whole allows = refl
whole_next stages.Units (Program vbv) whole allows = refl
whole_next stages.Packets (Program vbv) whole allows = refl
whole_next stages.Units (UnitLine due versions) whole allows = refl
whole_next stages.Units Audio whole allows = refl
whole_next stages.Packets Audio whole allows = refl
whole_next stages.Packets (Packet due gone bytes) whole allows = refl
whole_next stage line whole allows = absurd allows

whole_behind : (before lines : List Line) → is_whole (stage_of before) ≡ true → Follow (stage_of before) lines → is_whole (stage_of (before ++ lines)) ≡ true
whole_behind before [] whole follow = ap (λ (ls : List Line). is_whole (stage_of ls)) (append-nil before) ∙ whole
whole_behind before (line ∷ lines) whole follow =
    let at = stage_of_push before line in
    ap (λ (ls : List Line). is_whole (stage_of ls)) (sym (append_assoc before (line ∷ []) lines))
    ∙ whole_behind (before ++ line ∷ []) lines (ap is_whole at ∙ whole_next (stage_of before) line whole follow.0) (subst (λ (s : Stage). Follow s lines) (sym at) follow.1)

-- a head and a line more
record IsHead (lines : List Line) : Type 0 where
  few : length lines < 4
  open_now : is_whole (stage_of lines) ≡ false

record IsBehindHead (lines : List Line) : Type 0 where
  four : 4 ≤ length lines
  whole : is_whole (stage_of lines) ≡ true

fourth : (slot nodes : ℕ) (lines : List Line) → Follow stages.Evaluations lines → IsHead (Title ∷ Slot slot ∷ Nodes nodes ∷ lines) ⊎ IsBehindHead (Title ∷ Slot slot ∷ Nodes nodes ∷ lines)
fourth slot nodes [] follow = inl (record { few = omega arith; open_now = refl })
fourth slot nodes (Evaluations evaluations ∷ lines) follow =
    inr (record { four = omega arith; whole = whole_behind (Title ∷ Slot slot ∷ Nodes nodes ∷ Evaluations evaluations ∷ []) lines refl follow.1 })
fourth slot nodes (line ∷ lines) follow = absurd follow.0

third : (slot : ℕ) (lines : List Line) → Follow stages.Nodes lines → IsHead (Title ∷ Slot slot ∷ lines) ⊎ IsBehindHead (Title ∷ Slot slot ∷ lines)
third slot [] follow = inl (record { few = omega arith; open_now = refl })
third slot (Nodes nodes ∷ lines) follow = fourth slot nodes lines follow.1
third slot (line ∷ lines) follow = absurd follow.0

second : (lines : List Line) → Follow stages.Slot lines → IsHead (Title ∷ lines) ⊎ IsBehindHead (Title ∷ lines)
second [] follow = inl (record { few = omega arith; open_now = refl })
second (Slot slot ∷ lines) follow = third slot lines follow.1
second (line ∷ lines) follow = absurd follow.0

first : (lines : List Line) → Follow stages.Title lines → IsHead lines ⊎ IsBehindHead lines
first [] follow = inl (record { few = omega arith; open_now = refl })
first (Title ∷ lines) follow = second lines follow.1
first (line ∷ lines) follow = absurd follow.0

head_or_form : (lines : List Line) → IsOpening lines → IsHead lines ⊎ IsBehindHead lines
head_or_form lines opening = first lines (walk_follow [] lines (opening_walk lines opening))

-- a text ends behind its head
pub whole_form : (lines : List Line) → IsOpening lines → is_whole (stage_of lines) ≡ true → IsForm lines
whole_form lines opening whole =
    elim (head_or_form lines opening) [ inl head ↦ let open_now = head.open_now in absurd cc | inr behind ↦ (opening, behind.four) ]

-- in its head a line is owed
pub owed_in_head : (lines : List Line) → IsOpening lines → is_whole (stage_of lines) ≡ false → IsForm lines → ⊥
owed_in_head lines opening part form =
    elim (head_or_form lines opening) [ inl head ↦ omega (arith, head.few, form.1) | inr behind ↦ let whole = behind.whole in absurd cc ]

-- ---- each text is read

-- a line more in the text that was read
pub text_push : (before : List Line) (line : Line) (rest behind : List ℕ) → rest ≡ text_of_line line ++ behind → text_of_lines before ++ rest ≡ text_of_lines (before ++ line ∷ []) ++ behind
text_push before line rest behind e =
    ap (λ (t : List ℕ). text_of_lines before ++ t) e ∙ sym (append_assoc (text_of_lines before) (text_of_line line) behind)
    ∙ ap (λ (t : List ℕ). t ++ behind) (ap (λ (t : List ℕ). text_of_lines before ++ t) (sym (append-nil (text_of_line line))) ∙ sym (flat_map-append text_of_line before (line ∷ [])))

-- as many lines as may stand, and what is left
record ReadOut (text : List ℕ) : Type 0 where
  lines : List Line
  rest : List ℕ
  parts : text ≡ text_of_lines lines ++ rest
  opening : IsOpening lines
  stuck : Stuck lines rest

read_out : (fuel : ℕ) (text : List ℕ) (before : List Line) (rest : List ℕ) → length rest ≤ fuel → text ≡ text_of_lines before ++ rest → IsOpening before → ReadOut text
read_out zero text before [] few parts opening = record { lines = before; rest = []; parts = parts; opening = opening; stuck = stuck_at_end before }
read_out zero text before (c ∷ rest) few parts opening = absurd (omega arith)
read_out (suc fuel) text before rest few parts opening =
    by (line_at (stage_of before) rest) refl (λ line behind may is. read_out fuel text (before ++ line ∷ []) behind
    (omega (arith, ap length is, length-append (text_of_line line) behind, line_some line)) (parts ∙ text_push before line rest behind is)
    (opening_push before line opening may))
  where
    by : (o : Option (Line × List ℕ)) → line_at (stage_of before) rest ≡ o → ((line : Line) (behind : List ℕ) → LineMayStand before line → rest ≡ text_of_line line ++ behind → ReadOut text) → ReadOut text
    by None none go = record { lines = before; rest = rest; parts = parts; opening = opening; stuck = stuck_from_none before rest none }
    by (Some x) read go = let (may, is) = may_from_read before rest x.1 x.0 read in go x.0 x.1 may is

pub syntax_at : (text : List ℕ) (lines : List Line) (rest : List ℕ) → text ≡ text_of_lines lines ++ rest → IsOpening lines → Stuck lines rest
    → (IsForm lines → rest ≡ [] → ⊥) → IsTableSyntaxRefusal text (length lines + 1)
syntax_at text lines rest parts opening stuck owed = record {
  before = lines;
  rest = rest;
  parts = parts;
  opening = opening;
  number = refl;
  no_line = λ line more may e. stuck line more may e;
  owed = owed;
}

-- lines that have the form of a text are those of a table, or break a limit
form_reading : (text : List ℕ) (lines : List Line) → length text ≤ TABLE_TEXT_MOST → text ≡ text_of_lines lines → IsForm lines → (reading : TextReading) × IsTableRead text reading
form_reading text lines short parts form =
    elim (kept_or_broken [] lines no_lines_kept) [
      | inl kept ↦
          let same = form_table lines form in
          let spelled : text ≡ table_spelling (table_of lines) = parts ∙ ap text_of_lines (sym same) in
          let valid = kept_table (table_of lines) (subst (λ (t : List ℕ). length t ≤ TABLE_TEXT_MOST) spelled short) (subst IsForm (sym same) form) (subst KeepLimits (sym same) kept) in
          (Holds (table_of lines), (short, valid, spelled))
      | inr broken ↦ (RefusedFor broken.0, inr (short, record { lines = lines; spelled = parts; form = form; first = broken.1 }))
    ]

out_reading : (text : List ℕ) → length text ≤ TABLE_TEXT_MOST → (lines : List Line) (rest : List ℕ) → text ≡ text_of_lines lines ++ rest
    → IsOpening lines → Stuck lines rest → (reading : TextReading) × IsTableRead text reading
out_reading text short lines (c ∷ rest) parts opening stuck = (RefusedAt (length lines + 1), (short, syntax_at text lines (c ∷ rest) parts opening stuck (λ form none. absurd cc)))
out_reading text short lines [] parts opening stuck =
    elim (cases_lt (length lines) 4) [
      | inl few ↦ (RefusedAt (length lines + 1), (short, syntax_at text lines [] parts opening stuck (λ form none. omega (arith, form.1))))
      | inr four ↦ form_reading text lines short (parts ∙ append-nil (text_of_lines lines)) (opening, four)
    ]

pub some_reading : (text : List ℕ) → (reading : TextReading) × IsTableRead text reading
some_reading text =
    elim (cases_lt TABLE_TEXT_MOST (length text)) [
      | inl long ↦ (RefusedFor limits.Bytes, inl (long, refl))
      | inr short ↦ let out = read_out (length text) text [] text (omega arith) refl no_lines_open in out_reading text short out.lines out.rest out.parts out.opening out.stuck
    ]
