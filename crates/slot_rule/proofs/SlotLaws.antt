-- One slot over the states of all streams: its row by the rule, and the states after it.
use Rattle.std.proofs.Common.{◌≡◌, ℕ, ◌*◌, ◌<◌, List, [], ◌∷◌, ◌++◌, length, map, get_or, slice_get, ne_eqb, Some, None, refl, sym, ap, subst, ◌∙◌, inl, inr, arith}
use Rattle.std.proofs.lemmas.Bool.{cases_eq}
use Rattle.std.proofs.lemmas.Option.{same_Some, slice_get-get_or, slice_get_within}
use Rattle.version_table.specs.declared.table.Table.{Table}
use Rattle.version_table.specs.Table.{IsValidTable}
use Rattle.version_table.specs.Choice.{Fits}
use Rattle.slot_rule.specs.declared.sent.Sent.{Sent}
use Rattle.slot_rule.specs.declared.sent.Sent.TheVariants.{Null, Pat, Pmt, Pcr, Video as VideoPiece, Audio as AudioPiece}
use Rattle.slot_rule.specs.declared.queue_state.QueueState.{QueueState}
use Rattle.slot_rule.specs.Buffers.{Row, Reserved, Carries, Empty}
use Rattle.slot_rule.specs.Private.Slots.{FillsSlot, HasRun, Reserves, SendsOne, subtick_after}
use Rattle.slot_rule.specs.Private.States.{AreOfStreams, ChangesEach, ReleasesAll, TakesPcr, queue_of}
use Rattle.slot_rule.specs.Queues.{QueuedPacket, queues_of}
use Rattle.slot_rule.specs.Timetable.{reserved}
use Rattle.slot_rule.proofs.BringLaws.{Brings, Brings-nothing, Brings-pcr, Brings-packet, HasRun-release, Tracks-passed, TakesPcr-items, same_places, same_queues, state_before}
use Rattle.slot_rule.proofs.RuleRows.{IsNext, FollowRule-push}
use Rattle.slot_rule.proofs.RuleWork.{packets_in-empty, packets_in-no_pcr, packets_in-other, payload_in-other}
use Rattle.slot_rule.proofs.TrackLaws.{AllHoldNoneGone, Goes-from_first, NothingGoes-from_none}

-- the states tell what these rows left of each stream, with the work that one more row brings
pub record HasBrought (table : Table) (choice : List ℕ) (rows : List Row) (row : Row) (states : List QueueState) : Type 0 where
  pub queues : map (queue_of table choice) states ≡ queues_of table choice
  pub places : AreOfStreams table states
  pub brings : (stream : ℕ) (state : QueueState) → slice_get states stream ≡ Some state → Brings table choice rows row stream state

-- a row with nothing for any stream
HasBrought-nothing : (table : Table) (choice : List ℕ) (rows : List Row) (sent : Sent) (states : List QueueState) → HasRun table choice rows states → ((p : ℕ) → sent ≡ Pcr p → ⊥)
    → HasBrought table choice rows (Reserved sent) states
HasBrought-nothing table choice rows sent states run apart = record {
  queues = run.queues;
  places = run.places;
  brings = λ stream state there. Brings-nothing table choice rows (Reserved sent) stream state (run.tracks stream state there) refl (packets_in-no_pcr stream state.kind sent apart) refl;
}

HasBrought-same : (table : Table) (choice : List ℕ) (rows : List Row) (sent : Sent) (olds news : List QueueState) → HasRun table choice rows olds
    → ((p : ℕ) → sent ≡ Pcr p → ⊥) → news ≡ olds
    → HasBrought table choice rows (Reserved sent) news
HasBrought-same table choice rows sent olds news run apart same =
    subst (λ (states : List QueueState). HasBrought table choice rows (Reserved sent) states) (sym same) (HasBrought-nothing table choice rows sent olds run apart)

-- a reserved slot
HasBrought-reserved : (table : Table) (choice : List ℕ) (rows : List Row) (sent : Sent) (olds news : List QueueState) → HasRun table choice rows olds
    → Reserves sent (subtick_after table.slot rows) olds news
    → HasBrought table choice rows (Reserved sent) news
HasBrought-reserved table choice rows (Pcr program) olds news run reserves = record {
  queues = same_queues table choice olds news reserves.as_many
      (λ stream old new there there'. TakesPcr-items program (subtick_after table.slot rows) stream old new
      (reserves.each stream old new there there')) ∙ run.queues;
  places = same_places olds news reserves.as_many
      (λ stream old new there there'. TakesPcr-items program (subtick_after table.slot rows) stream old new (reserves.each stream old new there there')) ∙ run.places;
  brings = λ stream new there.
      let before = state_before (TakesPcr program (subtick_after table.slot rows)) olds news stream new reserves there in
      Brings-pcr table choice rows program stream before.0 new before.2 (run.tracks stream before.0 before.1);
}
HasBrought-reserved table choice rows Null olds news run reserves = HasBrought-same table choice rows Null olds news run (λ p e. cc e) reserves
HasBrought-reserved table choice rows Pat olds news run reserves = HasBrought-same table choice rows Pat olds news run (λ p e. cc e) reserves
HasBrought-reserved table choice rows (Pmt program) olds news run reserves = HasBrought-same table choice rows (Pmt program) olds news run (λ p e. cc e) reserves
HasBrought-reserved table choice rows (VideoPiece s item piece) olds news run reserves = HasBrought-same table choice rows (VideoPiece s item piece) olds news run (λ p e. cc e) reserves
HasBrought-reserved table choice rows (AudioPiece s packet) olds news run reserves = HasBrought-same table choice rows (AudioPiece s packet) olds news run (λ p e. cc e) reserves

-- a slot in which one stream's packet goes
HasBrought-packet : (table : Table) (choice : List ℕ) (rows : List Row) (s : ℕ) (packet : QueuedPacket) (olds news : List QueueState) → HasRun table choice rows olds
    → SendsOne table choice s packet (subtick_after table.slot rows) olds news → HasBrought table choice rows (Carries s packet) news
HasBrought-packet table choice rows s packet olds news run sends = record {
  queues = same_queues table choice olds news sends.as_many
      (λ stream old new there there'. elim (cases_eq stream s) as (λ _. new.items ≡ old.items) [
        | inl own ↦
            (let there_own : slice_get olds s ≡ Some old = ap (λ k. slice_get olds k) (sym own) ∙ there in
            let there_own' : slice_get news s ≡ Some new = ap (λ k. slice_get news k) (sym own) ∙ there' in
            ap (λ (state : QueueState). state.items) (sends.own old new there_own there_own').changed)
        | inr other ↦ ap (λ (state : QueueState). state.items) (same_Some new old (sym there' ∙ sends.others stream other ∙ there))
      ])
      ∙ run.queues;
  places = same_places olds news sends.as_many
      (λ stream old new there there'. elim (cases_eq stream s) as (λ _. new.items ≡ old.items) [
        | inl own ↦
            (let there_own : slice_get olds s ≡ Some old = ap (λ k. slice_get olds k) (sym own) ∙ there in
            let there_own' : slice_get news s ≡ Some new = ap (λ k. slice_get news k) (sym own) ∙ there' in
            ap (λ (state : QueueState). state.items) (sends.own old new there_own there_own').changed)
        | inr other ↦ ap (λ (state : QueueState). state.items) (same_Some new old (sym there' ∙ sends.others stream other ∙ there))
      ])
      ∙ run.places;
  brings = λ stream new there. elim (cases_eq stream s) as (λ _. Brings table choice rows (Carries s packet) stream new) [
    | inl own ↦
        (let within : stream < length olds = omega (arith, slice_get_within news stream new there, sends.as_many) in
        let old = get_or olds stream new in
        let was : slice_get olds stream ≡ Some old = slice_get-get_or olds stream new within in
        let there_own : slice_get olds s ≡ Some old = ap (λ k. slice_get olds k) (sym own) ∙ was in
        let there_own' : slice_get news s ≡ Some new = ap (λ k. slice_get news k) (sym own) ∙ there in
        subst (λ k. Brings table choice rows (Carries s packet) k new) (sym own)
        (Brings-packet table choice rows s packet old new (sends.own old new there_own there_own') (run.tracks s old there_own)))
    | inr other ↦
        (let apart : s ≡ stream → ⊥ = λ e. other (sym e) in
        Brings-nothing table choice rows (Carries s packet) stream new (run.tracks stream new (sym (sends.others stream other) ∙ there))
        (ne_eqb s stream apart) (packets_in-other stream s new.kind packet apart) (payload_in-other stream s packet apart))
  ];
}

-- a free slot: its row is by the rule, and the states have what it brings
free_slot : (table : Table) (choice : List ℕ) → IsValidTable table → Fits table choice → (rows : List Row) (row : Row) (olds news : List QueueState) → HasRun table choice rows olds
    → AllHoldNoneGone table choice (length rows * table.slot) olds → reserved table.slot (length table.programs) (length rows) ≡ None
    → FillsSlot table choice (length rows * table.slot) row olds news → IsNext table choice rows row × HasBrought table choice rows row news
free_slot table choice valid fits rows (Carries stream packet) olds news run rest free (first, sends) =
    ((free, Goes-from_first table choice valid fits rows olds run rest stream packet first), HasBrought-packet table choice rows stream packet olds news run sends)
free_slot table choice valid fits rows Empty olds news run rest free (none, same) = (
  (free, NothingGoes-from_none table choice valid fits rows olds run rest none),
  subst (λ (states : List QueueState). HasBrought table choice rows Empty states) (sym same)
      (record {
        queues = run.queues;
        places = run.places;
        brings = λ stream state there. Brings-nothing table choice rows Empty stream state
            (run.tracks stream state there) refl (packets_in-empty stream state.kind) refl;
      }),
)
free_slot table choice valid fits rows (Reserved sent) olds news run rest free fills = absurd fills

-- the slot passes after the row
HasRun-passed : (table : Table) (choice : List ℕ) (rows : List Row) (row : Row) (olds news : List QueueState) → HasRun table choice rows olds → IsNext table choice rows row
    → HasBrought table choice rows row news → HasRun table choice (rows ++ row ∷ []) news
HasRun-passed table choice rows row olds news run next brought = record {
  follows = FollowRule-push table choice rows row run.follows next;
  queues = brought.queues;
  places = brought.places;
  tracks = λ stream new there. Tracks-passed table choice rows row stream new (brought.brings stream new there);
}

-- a slot that is reserved
pub reserved_slot-run : (table : Table) (choice : List ℕ) (rows : List Row) (sent : Sent) (row : Row) (olds news : List QueueState) → HasRun table choice rows olds
    → reserved table.slot (length table.programs) (length rows) ≡ Some sent → row ≡ Reserved sent → Reserves sent (subtick_after table.slot rows) olds news
    → IsNext table choice rows row × HasRun table choice (rows ++ row ∷ []) news
reserved_slot-run table choice rows sent row olds news run is row_is reserves =
    subst (λ (r : Row). IsNext table choice rows r × HasRun table choice (rows ++ r ∷ []) news) (sym row_is)
    (is, HasRun-passed table choice rows (Reserved sent) olds news run is (HasBrought-reserved table choice rows sent olds news run reserves))

-- a slot that is free
pub free_slot-run : (table : Table) (choice : List ℕ) → IsValidTable table → Fits table choice → (rows : List Row) (row : Row) (olds released news : List QueueState)
    → HasRun table choice rows olds → reserved table.slot (length table.programs) (length rows) ≡ None
    → ChangesEach (ReleasesAll table choice (length rows * table.slot)) olds released
    → FillsSlot table choice (length rows * table.slot) row released news
    → IsNext table choice rows row × HasRun table choice (rows ++ row ∷ []) news
free_slot-run table choice valid fits rows row olds released news run free releases fills =
    let after = HasRun-release table choice rows olds released releases run in
    let filled = free_slot table choice valid fits rows row released news after.0 after.1 free fills in
    (filled.0, HasRun-passed table choice rows row released news after.0 filled.0 filled.1)
