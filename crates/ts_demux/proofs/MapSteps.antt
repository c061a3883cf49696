-- The map of a program, out of the packets of a source.
use Rattle.std.proofs.Common.{◌≡◌, ℕ, ◌+◌, ◌*◌, ◌<◌, ◌≤◌, ◌==◌, Bool, true, false, cond, inl, inr, List, [], ◌++◌, Option, Some, None, Ok, Result, length, refl, sym, ◌∙◌, subst, arith, rules, append_assoc, length-append}
use Rattle.std.proofs.lemmas.Bool.Decides.{nat_tests}
use Rattle.ts_packets.specs.TransportStream.{piece_at, piece_count}
use Rattle.psi_tables.specs.declared.program_map.ProgramMap.{ProgramMap}
use Rattle.ts_demux.specs.declared.demux_fault.DemuxFault.{DemuxFault}
use Rattle.ts_demux.specs.declared.demux_fault.DemuxFault.TheVariants.{ShortFile}
use Rattle.ts_demux.specs.declared.table_walk.TableWalk.{TableWalk}
use Rattle.ts_demux.specs.Tables.{IsTablesFault, StopsFirst, refuse, take as take_map}
use Rattle.ts_demux.specs.Pass.{IsFrontRefused}
use Rattle.ts_demux.specs.TableWalk.{IsBetween, StandsBefore, Ends, missing_of}
use Rattle.ts_demux.specs.Private.TableWalk.{missing_behind}
use Rattle.ts_demux.proofs.WalkSteps.{ends_missing}
use Rattle.ts_demux.proofs.PassSteps.{next_within, next_piece}

-- what stops the reading of the tables is a fault of theirs
pub tables_stop : (file : List ℕ) (program : ℕ) (fault : DemuxFault) → StopsFirst file program (refuse fault) → IsTablesFault file program fault
tables_stop file program fault is = search rules

module _ (seen packet : List ℕ) (n : ℕ) (walk : TableWalk) (bytes : List ℕ) (count : length seen ≡ 188 * n) (size : length packet ≡ 188) (bytes_are : bytes ≡ packet)
    (between : (more : List ℕ) → IsBetween (seen ++ more) n walk) where
  -- the walk stands before the packet in some file
  pub stands : StandsBefore n bytes walk
  stands = record {
    file = seen ++ (packet ++ []);
    within = next_within seen packet [] n count size;
    bytes_are = bytes_are ∙ next_piece seen packet [] n count size;
    between = between (packet ++ []);
  }

  module _ (result : Result (Option ProgramMap) DemuxFault) (On : List ℕ → Type 0)
      (ends : (file : List ℕ) → n < piece_count file → bytes ≡ piece_at file n → IsBetween file n walk → Ends file walk.program result (On file)) where
    -- what comes of it in every file that goes on behind it
    pub ends_every : (more : List ℕ) → Ends ((seen ++ packet) ++ more) walk.program result (On ((seen ++ packet) ++ more))
    ends_every more =
        subst (λ (file : List ℕ). Ends file walk.program result (On file)) (sym (append_assoc seen packet more))
        (ends (seen ++ (packet ++ more)) (next_within seen packet more n count size) (bytes_are ∙ next_piece seen packet more n count size) (between (packet ++ more)))

-- by its cases
pub ends_on : (file : List ℕ) (program : ℕ) (found : Option ProgramMap) (On : Type 0) → Ends file program (Ok found) On → found ≡ None → On
ends_on file program found On ends is = subst (λ (o : Option ProgramMap). Ends file program (Ok o) On) is ends

pub ends_map : (file : List ℕ) (program : ℕ) (found : Option ProgramMap) (map : ProgramMap) (On : Type 0) → Ends file program (Ok found) On → found ≡ Some map →
    StopsFirst file program (take_map map)
ends_map file program found map On ends is = subst (λ (o : Option ProgramMap). Ends file program (Ok o) On) is ends

-- a file that goes on behind some packets is long
pub long_behind : (seen more : List ℕ) (n : ℕ) → length seen ≡ 188 * (n + 1) → 188 ≤ length (seen ++ more)
long_behind seen more n count = omega (arith, count, length-append seen more)

-- the file's end
pub front_missing : (seen rest : List ℕ) (n program : ℕ) (walk : TableWalk) (fault : DemuxFault) → length seen ≡ 188 * n → length rest < 188 →
    IsBetween (seen ++ rest) n walk → walk.program ≡ program → fault ≡ missing_behind n walk.known → IsFrontRefused program fault (seen ++ rest)
front_missing seen rest n program walk fault count short between program_is fault_is = by_test (n == 0) refl fault_is
  where
    by_test : (none : Bool) → (n == 0) ≡ none → fault ≡ cond none (ShortFile 0) (missing_of walk.known) → IsFrontRefused program fault (seen ++ rest)
    by_test true none is =
        let zero : n ≡ 0 = grind (arith, nat_tests) in
        inl (omega (arith, zero, count, short, length-append seen rest), is)
    by_test false none is =
        let some : 0 < n = grind (arith, nat_tests) in
        inr (
          omega (arith, some, count, length-append seen rest),
          subst (λ (f : DemuxFault). IsTablesFault (seen ++ rest) program f) (sym is)
              (subst (λ (p : ℕ). IsTablesFault (seen ++ rest) p (missing_of walk.known)) program_is
              (ends_missing (seen ++ rest) n walk walk.known refl (omega (arith, count, short, length-append seen rest)) between)),
        )
