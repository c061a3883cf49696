-- What a section says, from what reading it answers.
use Rattle.std.proofs.Common.{◌≡◌, ℕ, ◌+◌, ◌==◌, ◌⊎◌, inl, inr, Bool, true, false, List, Option, Some, None, Result, Ok, Err, refl, sym, ap, ◌∙◌, arith}
use Rattle.std.specs.Prelude.{◌↔◌}
use Rattle.std.proofs.lemmas.Bool.Decides.{nat_tests}
use Rattle.psi_tables.specs.declared.program_map.ProgramMap.{ProgramMap}
use Rattle.psi_tables.specs.declared.section.SectionFault.{SectionFault}
use Rattle.psi_tables.specs.declared.section.SectionFault.TheVariants.{BadSection}
use Rattle.psi_tables.specs.Section.{table_id, current_next_indicator, IsCurrent}
use Rattle.psi_tables.specs.Pat.{IsPat, pat_map_pid}
use Rattle.psi_tables.specs.Pmt.{IsPmt, HasRoom}
use Rattle.psi_tables.specs.PmtOf.{pmt_of}
use Rattle.psi_tables.proofs.PmtFunction.{pmt_is, pmt_made}
use Rattle.ts_demux.specs.declared.table_walk.Known.{Known}
use Rattle.ts_demux.specs.declared.table_walk.Known.TheVariants.{Nothing, OtherPrograms, MapOn}
use Rattle.ts_demux.specs.Tables.{Names, IsBadPat, IsBadPmt, IsMapOf}
use Rattle.ts_demux.specs.Private.TableWalk.{NamesNone, IsKnownBehind}

-- a section is current, or not
current_or_not : (table : ℕ) (bytes : List ℕ) → IsCurrent table bytes ⊎ (IsCurrent table bytes → ⊥)
current_or_not table bytes = by_tests (table_id bytes == table) refl (current_next_indicator bytes == 1) refl
  where
    by_tests : (is : Bool) → (table_id bytes == table) ≡ is → (now : Bool) → (current_next_indicator bytes == 1) ≡ now → IsCurrent table bytes ⊎ (IsCurrent table bytes → ⊥)
    by_tests true is true now = inl (record { table_is = grind (arith, nat_tests); current = grind (arith, nat_tests) })
    by_tests false is now now_is = inr (λ current. let same : table_id bytes ≡ table = current.table_is in let yes : ⊥ = grind (arith, nat_tests) in yes)
    by_tests true is false now = inr (λ current. let same : current_next_indicator bytes ≡ 1 = current.current in let yes : ⊥ = grind (arith, nat_tests) in yes)

-- ---- a section of PID 0

-- what reading it as a PAT section answers
pub record SaysPat (program : ℕ) (section : List ℕ) (answer : Result (Option ℕ) SectionFault) : Type 0 where
  pub other : (IsCurrent 0 section → ⊥) → answer ≡ Ok None
  pub pid : (programs : List (ℕ × ℕ)) → IsPat programs section → answer ≡ Ok (pat_map_pid program programs)

pub bad_pat : (program : ℕ) (section : List ℕ) (fault : SectionFault) → SaysPat program section (Err fault) → (fault ≡ BadSection) × IsCurrent 0 section → IsBadPat (Ok section) fault
bad_pat program section fault says bad = (bad.0, bad.1, λ programs is. let e : Err fault ≡ Ok (pat_map_pid program programs) = says.pid programs is in absurd cc)

pub sound_pat : (section : List ℕ) → (IsCurrent 0 section → (programs : List (ℕ × ℕ)) × IsPat programs section) → (fault : SectionFault) → IsBadPat (Ok section) fault → ⊥
sound_pat section some fault bad = let found = some bad.1 in bad.2 found.0 found.1

-- it names what is answered alone
pub named_alone : (program : ℕ) (section : List ℕ) (named : Option ℕ) → SaysPat program section (Ok named) → (pid : ℕ) → Names program (Ok section) pid → named ≡ Some pid
named_alone program section named says pid names =
    let e : Ok named ≡ Ok (pat_map_pid program names.0) = says.pid names.0 names.1 in
    let same : named ≡ pat_map_pid program names.0 = cc in
    same ∙ names.2

pub names_none : (program : ℕ) (section : List ℕ) → SaysPat program section (Ok None) → NamesNone program section
names_none program section says pid names = let e : None ≡ Some pid = named_alone program section None says pid names in absurd cc

pub names_it : (program : ℕ) (section : List ℕ) (pid : ℕ) → SaysPat program section (Ok (Some pid)) → (IsCurrent 0 section → (programs : List (ℕ × ℕ)) × IsPat programs section) →
    Names program (Ok section) pid
names_it program section pid says some =
    elim (current_or_not 0 section) [
      | inl current ↦ let found = some current in
          let e : Ok (Some pid) ≡ Ok (pat_map_pid program found.0) = says.pid found.0 found.1 in
          let same : Some pid ≡ pat_map_pid program found.0 = cc in
          (found.0, found.1, sym same)
      | inr not_current ↦ let e : Ok (Some pid) ≡ Ok None = says.other not_current in absurd cc
    ]

pub names_alone : (program : ℕ) (section : List ℕ) (pid : ℕ) → SaysPat program section (Ok (Some pid)) → (other : ℕ) → Names program (Ok section) other → other ≡ pid
names_alone program section pid says other names = let e : Some pid ≡ Some other = named_alone program section (Some pid) says other names in cc

-- what is known behind it
pub known_named : (program : ℕ) (section : List ℕ) (n : ℕ) (known : Known) (pid from : ℕ) → ((old start : ℕ) → known ≡ MapOn old start → ⊥) → from ≡ n + 1 →
    SaysPat program section (Ok (Some pid)) → (IsCurrent 0 section → (programs : List (ℕ × ℕ)) × IsPat programs section) → IsKnownBehind program section n known (MapOn pid from)
known_named program section n Nothing pid from new from_is says some = (names_it program section pid says some, from_is, names_alone program section pid says)
known_named program section n OtherPrograms pid from new from_is says some = (names_it program section pid says some, from_is, names_alone program section pid says)
known_named program section n (MapOn old start) pid from new from_is says some = absurd (new old start refl)

pub known_other : (program : ℕ) (section : List ℕ) (n : ℕ) (known : Known) → ((old start : ℕ) → known ≡ MapOn old start → ⊥) → SaysPat program section (Ok None) → IsCurrent 0 section →
    IsKnownBehind program section n known OtherPrograms
known_other program section n Nothing new says current = (names_none program section says, current)
known_other program section n OtherPrograms new says current = names_none program section says
known_other program section n (MapOn old start) new says current = absurd (new old start refl)

pub known_same : (program : ℕ) (section : List ℕ) (n : ℕ) (known : Known) → ((old start : ℕ) → known ≡ MapOn old start → ⊥) → SaysPat program section (Ok None) →
    (IsCurrent 0 section → ⊥) → IsKnownBehind program section n known known
known_same program section n Nothing new says current = (names_none program section says, current)
known_same program section n OtherPrograms new says current = names_none program section says
known_same program section n (MapOn old start) new says current = absurd (new old start refl)

-- ---- a section of the PMT's PID

-- what reading it as a PMT section answers
pub record SaysMap (section : List ℕ) (answer : Result (Option ProgramMap) SectionFault) : Type 0 where
  pub none : (answer ≡ Ok None) ↔ (IsCurrent 2 section → ⊥)
  pub only : (program : ProgramMap) → IsPmt program section → HasRoom program → answer ≡ Ok (Some program)

pub bad_map : (section : List ℕ) (fault : SectionFault) → SaysMap section (Err fault) → fault ≡ BadSection → IsBadPmt (Ok section) fault
bad_map section fault says bad = (
  bad,
  elim (current_or_not 2 section) [
    | inl current ↦ current
    | inr not_current ↦ let e : Err fault ≡ Ok None = says.none.1 not_current in absurd cc
  ],
  by_map (pmt_of section) refl,
)
  where
    by_map : (said : Option ProgramMap) → pmt_of section ≡ said → pmt_of section ≡ None
    by_map None is = is
    by_map (Some program) is = let p = pmt_is section program is in let e : Err fault ≡ Ok (Some program) = says.only program p.0 p.1 in absurd cc

pub no_map : (program : ℕ) (section : List ℕ) → SaysMap section (Ok None) → ((fault : SectionFault) → IsBadPmt (Ok section) fault → ⊥) × ((map : ProgramMap) → IsMapOf program (Ok section) map → ⊥)
no_map program section says = let not_current = says.none.0 refl in (λ fault bad. not_current bad.1, λ map is. not_current (pmt_is section map is.0).0.current)

pub sound_map : (section : List ℕ) (map : ProgramMap) → IsPmt map section × HasRoom map → (fault : SectionFault) → IsBadPmt (Ok section) fault → ⊥
sound_map section map is fault bad = let e : None ≡ Some map = sym bad.2 ∙ pmt_made section map is.0 is.1 in absurd cc

pub other_map : (program : ℕ) (section : List ℕ) (map : ProgramMap) → SaysMap section (Ok (Some map)) → (map.number ≡ program → ⊥) → (other : ProgramMap) → IsMapOf program (Ok section) other → ⊥
other_map program section map says number other is =
    let p = pmt_is section other is.0 in
    let e : Ok (Some map) ≡ Ok (Some other) = says.only other p.0 p.1 in
    let same : map ≡ other = cc in
    number (ap (λ (m : ProgramMap). m.number) same ∙ is.1)
