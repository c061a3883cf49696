-- Each line is read from its text where it may stand, and what is read is such a line.
use Rattle.std.proofs.Common.{◌≡◌, ℕ, ◌==◌, ◌⊎◌, false, List, ◌++◌, length, codes, Option, Some, None, decimal, refl, sym, ap, subst, ◌∙◌, append_assoc, arith, inl, inr, lit≤, ne_eqb}
use Rattle.arrayvec.specs.ArrayVec.{ArrayVec}
use Rattle.std.specs.List.{flat_map}
use Rattle.std.specs.Option.{option_map, option_or, option_map_or}
use Rattle.std.proofs.lemmas.Bool.{eqb-false}
use Rattle.std.proofs.NetLemmas.Numbers.{NoDigit}
use Rattle.std.proofs.NetLemmas.Options.{cond_none, and_then_some, map_some, same_parts}
use Rattle.version_table.specs.declared.limits.TheConstants.{VERSIONS_MOST}
use Rattle.version_table.specs.declared.line.Line.{Line}
use Rattle.version_table.specs.declared.line.Line.TheVariants.{Title, Slot, Nodes, Evaluations, Program, Unit as UnitLine, Audio, Packet}
use Rattle.version_table.specs.declared.line.Stage.{Stage}
use Rattle.version_table.specs.declared.line.Stage.TheVariants as stages
use Rattle.version_table.specs.declared.line.StatedVersion.{StatedVersion}
use Rattle.version_table.specs.Lines.{line_end, text_of_version, text_of_line}
use Rattle.version_table.specs.Order.{IsStated, HasSyntax}
use Rattle.version_table.specs.Private.Reading.{after, number_at, number_line, versions_at, unit_at, packet_at, program_at, stream_at, line_at}
use Rattle.version_table.specs.Private.Draft.{Allows}
use Rattle.version_table.proofs.Words.{after-append, after_sound}
use Rattle.version_table.proofs.LineReading.{number_again, number_sound, number_line_again, number_line_sound, Ends, versions_again, versions_sound, versions_end, four_parts, map_or_cases}

-- a line at the front of a text, where it may stand, and what follows it
pub record IsLineAt (stage : Stage) (text : List ℕ) (line : Line) (rest : List ℕ) : Type 0 where
  pub allows : Allows stage line
  pub syntax : HasSyntax line
  pub parts : text ≡ text_of_line line ++ rest

-- ---- programs

-- where the line of one program may come, that of any may
pub any_program : (stage : Stage) (vbv : ℕ) → Allows stage (Program 0) → Allows stage (Program vbv)
any_program stages.Title vbv h = h
any_program stages.Programs vbv h = h
any_program stages.Units vbv h = h
any_program stages.Packets vbv h = h
any_program stage vbv h = absurd h

program_again : (vbv : ℕ) (rest : List ℕ) → IsStated vbv → program_at (text_of_line (Program vbv) ++ rest) ≡ Some (Program vbv, rest)
unfolding program_at text_of_line
program_again vbv rest small = rw (number_line_again (codes "program ") vbv rest small) refl

program_sound : (stage : Stage) (text rest : List ℕ) (line : Line) → Allows stage (Program 0) → program_at text ≡ Some (line, rest) → IsLineAt stage text line rest
unfolding program_at HasSyntax text_of_line
program_sound stage text rest line allows e =
    and_then_some _ (number_line (codes "program ") text) _ e λ n read e1.
    let (line_is, rest_is) = same_parts (Program n.0) line n.1 rest e1 in
    let is = number_line_sound (codes "program ") text n.1 n.0 read in
    let whole : IsLineAt stage text (Program n.0) n.1 = record { allows = any_program stage n.0 allows; syntax = is.stated; parts = is.parts } in
    subst (λ (t : List ℕ). IsLineAt stage text line t) rest_is (subst (λ (l : Line). IsLineAt stage text l n.1) line_is whole)

-- ---- audio streams

audio_again : (rest : List ℕ) → stream_at (text_of_line Audio ++ rest) ≡ Some (Audio, rest)
unfolding stream_at text_of_line
audio_again rest = ap (λ (o : Option (List ℕ)). option_map_or (λ r. Some (Audio, r)) o (program_at (text_of_line Audio ++ rest))) (after-append (codes "audio\n") rest)

-- the line of a program is no line of an audio stream
program_in_stream : (vbv : ℕ) (rest : List ℕ) → IsStated vbv → stream_at (text_of_line (Program vbv) ++ rest) ≡ Some (Program vbv, rest)
unfolding stream_at text_of_line after
program_in_stream vbv rest small = program_again vbv rest small

stream_sound : (stage : Stage) (text rest : List ℕ) (line : Line) → Allows stage Audio → Allows stage (Program 0) → stream_at text ≡ Some (line, rest) → IsLineAt stage text line rest
unfolding stream_at HasSyntax text_of_line
stream_sound stage text rest line allows program e =
    elim (map_or_cases (λ r. Some (Audio, r)) (after (codes "audio\n") text) (program_at text) (line, rest) e) [
      | inl none ↦ program_sound stage text rest line program none.1
      | inr some ↦
          let (line_is, rest_is) = same_parts Audio line some.0 rest some.2 in
          let whole : IsLineAt stage text Audio some.0 = record { allows = allows; syntax = tt; parts = after_sound (codes "audio\n") text some.0 some.1 } in
          subst (λ (t : List ℕ). IsLineAt stage text line t) rest_is (subst (λ (l : Line). IsLineAt stage text l some.0) line_is whole)
    ]

-- ---- units

behind_versions : (rest : List ℕ) → Ends (line_end ++ rest)
unfolding after
behind_versions rest = record { digit = lit≤ tt; space = refl }

unit_again : (due : ℕ) (versions : ArrayVec StatedVersion) (rest : List ℕ) → HasSyntax (UnitLine due versions)
    → unit_at (text_of_line (UnitLine due versions) ++ rest) ≡ Some (UnitLine due versions, rest)
unfolding unit_at HasSyntax text_of_line
unit_again due versions rest syntax =
    let others = flat_map text_of_version versions.items ++ (line_end ++ rest) in
    let some : (length versions.items == 0) ≡ false = ne_eqb (length versions.items) 0 (λ none. omega (arith, syntax.1)) in
    ap unit_at (four_parts (codes "unit ") (decimal due) (flat_map text_of_version versions.items) line_end rest)
    ∙ rw (
      after-append (codes "unit ") (decimal due ++ others),
      number_again due others syntax.0 (after_due versions.items rest),
      versions_again VERSIONS_MOST versions.items (line_end ++ rest) syntax.2 syntax.3 (behind_versions rest),
      some,
      after-append line_end rest,
    ) refl
  where
    after_due : (items : List StatedVersion) (rest : List ℕ) → NoDigit 10 (flat_map text_of_version items ++ (line_end ++ rest))
    after_due items rest = versions_end items (line_end ++ rest) (behind_versions rest)

unit_sound : (text rest : List ℕ) (line : Line) → unit_at text ≡ Some (line, rest) → IsLineAt stages.Units text line rest
unfolding unit_at HasSyntax text_of_line
unit_sound text rest line e =
    and_then_some _ (after (codes "unit ") text) _ e λ front word_read e1.
    and_then_some _ (number_at front) _ e1 λ due due_read e2.
    and_then_some _ (versions_at VERSIONS_MOST due.1) _ e2 λ versions versions_read e3.
    let (some, e4) = cond_none _ _ _ e3 in
    and_then_some _ (after line_end versions.1) _ e4 λ behind end_read e5.
    let made : Line = UnitLine due.0 (record { items = versions.0 }) in
    let (line_is, rest_is) = same_parts made line behind rest e5 in
    let number = number_sound front due.1 due.0 due_read in
    let texts = versions_sound VERSIONS_MOST due.1 versions.1 versions.0 versions_read in
    let not_none = eqb-false (length versions.0) 0 some in
    let parts : text ≡ text_of_line made ++ behind =
    after_sound (codes "unit ") text front word_read
    ∙ ap (λ (t : List ℕ). codes "unit " ++ t) (number.parts ∙ ap (λ (t : List ℕ). decimal due.0 ++ t)
    (texts.parts ∙ ap (λ (t : List ℕ). flat_map text_of_version versions.0 ++ t) (after_sound line_end versions.1 behind end_read)))
    ∙ sym (four_parts (codes "unit ") (decimal due.0) (flat_map text_of_version versions.0) line_end behind) in
    let whole : IsLineAt stages.Units text made behind = record { allows = tt; syntax = (number.stated, omega arith, texts.few, texts.each); parts = parts } in
    subst (λ (t : List ℕ). IsLineAt stages.Units text line t) rest_is (subst (λ (l : Line). IsLineAt stages.Units text l behind) line_is whole)

-- ---- packets

seven_parts : (a b c d e f g rest : List ℕ) → (a ++ b ++ c ++ d ++ e ++ f ++ g) ++ rest ≡ a ++ (b ++ (c ++ (d ++ (e ++ (f ++ (g ++ rest))))))
seven_parts a b c d e f g rest = simp append_assoc

packet_again : (due gone bytes : ℕ) (rest : List ℕ) → HasSyntax (Packet due gone bytes) → packet_at (text_of_line (Packet due gone bytes) ++ rest) ≡ Some (Packet due gone bytes, rest)
unfolding packet_at HasSyntax text_of_line
packet_again due gone bytes rest syntax =
    let third = decimal bytes ++ (line_end ++ rest) in
    let second = decimal gone ++ (codes " " ++ third) in
    ap packet_at (seven_parts (codes "packet ") (decimal due) (codes " ") (decimal gone) (codes " ") (decimal bytes) line_end rest)
    ∙ rw (
      after-append (codes "packet ") (decimal due ++ (codes " " ++ second)),
      number_again due (codes " " ++ second) syntax.0 (lit≤ tt),
      after-append (codes " ") second,
      number_again gone (codes " " ++ third) syntax.1 (lit≤ tt),
      after-append (codes " ") third,
      number_again bytes (line_end ++ rest) syntax.2 (lit≤ tt),
      after-append line_end rest,
    ) refl

packet_sound : (text rest : List ℕ) (line : Line) → packet_at text ≡ Some (line, rest) → IsLineAt stages.Packets text line rest
unfolding packet_at HasSyntax text_of_line
packet_sound text rest line e =
    and_then_some _ (after (codes "packet ") text) _ e λ front word_read e1.
    and_then_some _ (number_at front) _ e1 λ due due_read e2.
    and_then_some _ (after (codes " ") due.1) _ e2 λ second space_read e3.
    and_then_some _ (number_at second) _ e3 λ gone gone_read e4.
    and_then_some _ (after (codes " ") gone.1) _ e4 λ third other_read e5.
    and_then_some _ (number_at third) _ e5 λ bytes bytes_read e6.
    and_then_some _ (after line_end bytes.1) _ e6 λ behind end_read e7.
    let made : Line = Packet due.0 gone.0 bytes.0 in
    let (line_is, rest_is) = same_parts made line behind rest e7 in
    let due_number = number_sound front due.1 due.0 due_read in
    let gone_number = number_sound second gone.1 gone.0 gone_read in
    let bytes_number = number_sound third bytes.1 bytes.0 bytes_read in
    let at_bytes = bytes_number.parts ∙ ap (λ (t : List ℕ). decimal bytes.0 ++ t) (after_sound line_end bytes.1 behind end_read) in
    let at_gone = gone_number.parts ∙ ap (λ (t : List ℕ). decimal gone.0 ++ t) (after_sound (codes " ") gone.1 third other_read ∙ ap (λ (t : List ℕ). codes " " ++ t) at_bytes) in
    let at_due = due_number.parts ∙ ap (λ (t : List ℕ). decimal due.0 ++ t) (after_sound (codes " ") due.1 second space_read ∙ ap (λ (t : List ℕ). codes " " ++ t) at_gone) in
    let parts : text ≡ text_of_line made ++ behind =
    after_sound (codes "packet ") text front word_read ∙ ap (λ (t : List ℕ). codes "packet " ++ t) at_due
    ∙ sym (seven_parts (codes "packet ") (decimal due.0) (codes " ") (decimal gone.0) (codes " ") (decimal bytes.0) line_end behind) in
    let whole : IsLineAt stages.Packets text made behind = record { allows = tt; syntax = (due_number.stated, gone_number.stated, bytes_number.stated); parts = parts } in
    subst (λ (t : List ℕ). IsLineAt stages.Packets text line t) rest_is (subst (λ (l : Line). IsLineAt stages.Packets text l behind) line_is whole)

-- ---- any line

-- other words than the first are no unit, and no packet
audio_no_unit : (rest : List ℕ) → unit_at (text_of_line Audio ++ rest) ≡ None
unfolding unit_at text_of_line after
audio_no_unit rest = refl

program_no_unit : (vbv : ℕ) (rest : List ℕ) → unit_at (text_of_line (Program vbv) ++ rest) ≡ None
unfolding unit_at text_of_line after
program_no_unit vbv rest = refl

audio_no_packet : (rest : List ℕ) → packet_at (text_of_line Audio ++ rest) ≡ None
unfolding packet_at text_of_line after
audio_no_packet rest = refl

program_no_packet : (vbv : ℕ) (rest : List ℕ) → packet_at (text_of_line (Program vbv) ++ rest) ≡ None
unfolding packet_at text_of_line after
program_no_packet vbv rest = refl

pub line_again : (stage : Stage) (line : Line) (rest : List ℕ) → Allows stage line → HasSyntax line → line_at stage (text_of_line line ++ rest) ≡ Some (line, rest)
unfolding line_at HasSyntax text_of_line
line_again stages.Title Title rest allows syntax = ap (option_map (λ r. (Title, r))) (after-append (codes "remux table 1\n") rest)
line_again stages.Slot (Slot ticks) rest allows syntax = ap (option_map (λ n. (Slot n.0, n.1))) (number_line_again (codes "slot ") ticks rest syntax)
line_again stages.Nodes (Nodes n) rest allows syntax = ap (option_map (λ n. (Nodes n.0, n.1))) (number_line_again (codes "nodes ") n rest syntax)
line_again stages.Evaluations (Evaluations n) rest allows syntax = ap (option_map (λ n. (Evaluations n.0, n.1))) (number_line_again (codes "evaluations ") n rest syntax)
line_again stages.Programs (Program vbv) rest allows syntax = program_again vbv rest syntax
line_again stages.Units (UnitLine due versions) rest allows syntax = ap
    (λ (o : Option (Line × List ℕ)). option_or o (stream_at (text_of_line (UnitLine due versions) ++ rest))) (unit_again due versions rest syntax)
line_again stages.Units Audio rest allows syntax = ap (λ (o : Option (Line × List ℕ)). option_or o (stream_at (text_of_line Audio ++ rest))) (audio_no_unit rest) ∙ audio_again rest
line_again stages.Units (Program vbv) rest allows syntax = ap
    (λ (o : Option (Line × List ℕ)). option_or o (stream_at (text_of_line (Program vbv) ++ rest))) (program_no_unit vbv rest)
    ∙ program_in_stream vbv rest syntax
line_again stages.Packets (Packet due gone bytes) rest allows syntax = ap
    (λ (o : Option (Line × List ℕ)). option_or o (stream_at (text_of_line (Packet due gone bytes) ++ rest))) (packet_again due gone bytes rest syntax)
line_again stages.Packets Audio rest allows syntax = ap (λ (o : Option (Line × List ℕ)). option_or o (stream_at (text_of_line Audio ++ rest))) (audio_no_packet rest) ∙ audio_again rest
line_again stages.Packets (Program vbv) rest allows syntax = ap
    (λ (o : Option (Line × List ℕ)). option_or o (stream_at (text_of_line (Program vbv) ++ rest))) (program_no_packet vbv rest)
    ∙ program_in_stream vbv rest syntax
line_again stage line rest allows syntax = absurd allows

or_cases : {A : Type 0} (o p : Option A) (y : A) → option_or o p ≡ Some y → (o ≡ Some y) ⊎ (p ≡ Some y)
or_cases None p y e = inr e
or_cases (Some x) p y e = inl e

title_sound : (text rest : List ℕ) (line : Line) → option_map {U = Line × List ℕ} (λ r. (Title, r)) (after (codes "remux table 1\n") text) ≡ Some (line, rest) → IsLineAt stages.Title text line rest
unfolding HasSyntax text_of_line
title_sound text rest line e =
    map_some _ (after (codes "remux table 1\n") text) _ e λ behind read same.
    let whole : IsLineAt stages.Title text Title behind = record { allows = tt; syntax = tt; parts = after_sound (codes "remux table 1\n") text behind read } in
    subst (λ (x : Line × List ℕ). IsLineAt stages.Title text x.0 x.1) same whole

-- the lines of a word and a number
record IsWordLine (stage : Stage) (word : List ℕ) (make : ℕ → Line) : Type 0 where
  allows : (n : ℕ) → Allows stage (make n)
  syntax : (n : ℕ) → IsStated n → HasSyntax (make n)
  text : (n : ℕ) → text_of_line (make n) ≡ word ++ decimal n ++ line_end

word_sound : (stage : Stage) (word : List ℕ) (make : ℕ → Line) → IsWordLine stage word make → (text rest : List ℕ) (line : Line)
    → option_map {U = Line × List ℕ} (λ n. (make n.0, n.1)) (number_line word text) ≡ Some (line, rest) → IsLineAt stage text line rest
word_sound stage word make is text rest line e =
    map_some _ (number_line word text) _ e λ n read same.
    let number = number_line_sound word text n.1 n.0 read in
    let whole : IsLineAt stage text (make n.0) n.1 = record {
      allows = is.allows n.0;
      syntax = is.syntax n.0 number.stated;
      parts = number.parts
          ∙ ap (λ (t : List ℕ). t ++ n.1) (sym (is.text n.0));
    } in
    subst (λ (x : Line × List ℕ). IsLineAt stage text x.0 x.1) same whole

slot_line : IsWordLine stages.Slot (codes "slot ") Slot
unfolding HasSyntax text_of_line
slot_line = record { allows = λ n. tt; syntax = λ n small. small; text = λ n. refl }

nodes_line : IsWordLine stages.Nodes (codes "nodes ") Nodes
unfolding HasSyntax text_of_line
nodes_line = record { allows = λ n. tt; syntax = λ n small. small; text = λ n. refl }

evaluations_line : IsWordLine stages.Evaluations (codes "evaluations ") Evaluations
unfolding HasSyntax text_of_line
evaluations_line = record { allows = λ n. tt; syntax = λ n small. small; text = λ n. refl }

pub line_sound : (stage : Stage) (text rest : List ℕ) (line : Line) → line_at stage text ≡ Some (line, rest) → IsLineAt stage text line rest
unfolding line_at
line_sound stages.Title text rest line e = title_sound text rest line e
line_sound stages.Slot text rest line e = word_sound stages.Slot (codes "slot ") Slot slot_line text rest line e
line_sound stages.Nodes text rest line e = word_sound stages.Nodes (codes "nodes ") Nodes nodes_line text rest line e
line_sound stages.Evaluations text rest line e = word_sound stages.Evaluations (codes "evaluations ") Evaluations evaluations_line text rest line e
line_sound stages.Programs text rest line e = program_sound stages.Programs text rest line tt e
line_sound stages.Units text rest line e =
    elim (or_cases (unit_at text) (stream_at text) (line, rest) e) [ inl unit ↦ unit_sound text rest line unit | inr other ↦ stream_sound stages.Units text rest line tt tt other ]
line_sound stages.Packets text rest line e =
    elim (or_cases (packet_at text) (stream_at text) (line, rest) e) [ inl packet ↦ packet_sound text rest line packet | inr other ↦ stream_sound stages.Packets text rest line tt tt other ]
