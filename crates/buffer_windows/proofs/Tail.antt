-- Behind a slot a program's MB passes on no more bytes than it has time for until the last of them is due.
use Rattle.std.proofs.Common.{◌≡◌, ℕ, ◌+◌, ◌-◌, ◌*◌, ◌<◌, ◌≤◌, ◌⊎◌, All, cond, leb, List, [], ◌∷◌, ◌++◌, length, map, max, sum, eqb, sum_by, count_by, slice_get, Some, refl, sym, ap, subst, ◌∙◌, inl, inr, append-nil, append_assoc, add-mul, mul_assoc, mul-le-mul_right, arith}
use Rattle.std.proofs.lemmas.Bool.{cases_Bool, cases_lt, cases_eq, lt-leb}
use Rattle.std.proofs.lemmas.Nat.{le-div}
use Rattle.std.proofs.lemmas.List.{length_push, length-append, length-map, map-append}
use Rattle.std.proofs.lemmas.List.Sums.{sum_by-cons, sum_by-append, sum_by_push, sum-map}
use Rattle.std.proofs.lemmas.Option.{same_Some, slice_get_within, get_or_from_slice_get}
use Rattle.stream_constants.specs.declared.clock.TheConstants.{SUBTICKS_PER_TICK}
use Rattle.stream_constants.specs.declared.decoder.TheConstants.{MB_SUBTICKS}
use Rattle.version_table.specs.declared.table.Table.{Table}
use Rattle.slot_rule.specs.declared.constants.TheConstants.{MARGIN_SUBTICKS}
use Rattle.slot_rule.specs.declared.queue_kind.QueueKind.TheVariants.{Video}
use Rattle.slot_rule.specs.declared.queued_packet.QueuedPacket.{QueuedPacket}
use Rattle.slot_rule.specs.declared.row.Row.{Row}
use Rattle.slot_rule.specs.declared.row.Row.TheVariants.{Reserved, Carries, Empty}
use Rattle.slot_rule.specs.Buffers.{is_of, mb_work, payload_in, slot_subticks, waiting}
use Rattle.slot_rule.specs.Queues.{Queue, queues_of}
use Rattle.slot_rule.specs.Schedule.{FollowRule, IsHead, NoMiss, end_with_margin, mb_or_tb_work}
use Rattle.slot_rule.proofs.RuleFronts.{by_push}
use Rattle.slot_rule.proofs.RuleRows.{IsNext, NoneMisses, FollowRule-front, FollowRule-last, NoMiss-last}
use Rattle.slot_rule.proofs.RuleSent.{packet_of, packet_of-carried, packet_of-other, packets_sent, packets_sent-push}
use Rattle.dual_bounds.specs.declared.constants.TheConstants.{MARGIN_TICKS}
use Rattle.buffer_windows.specs.Windows.{stop}
use Rattle.dual_bounds.proofs.Carried.{NoMiss-front}

-- the payload of a packet that is due by a time
abbrev pub payload_by : (due : ℕ) → QueuedPacket → ℕ
payload_by due packet = cond (leb packet.due due) packet.payload 0

-- the payload bytes of a stream in some rows that are due by a time
abbrev pub bytes_by : (stream due : ℕ) → List Row → ℕ
bytes_by stream due rows = sum_by (payload_by due) (packets_sent stream rows)

-- ---- the work that waits is at least that of the last rows less what they drain
at_least : (a b c : ℕ) → a ≤ max (a - b) c + b
at_least a b c = omega arith

under_max : (a b c work : ℕ) → a ≤ work + b → a ≤ max c work + b
under_max a b c work le = omega arith

waiting-back : (drain : ℕ) (works later : List ℕ) → sum later ≤ waiting drain (works ++ later) + drain * length later
waiting-back drain [] [] = omega arith
waiting-back drain [] (work ∷ later) = at_least (sum (work ∷ later)) (drain * length (work ∷ later)) (waiting drain later)
waiting-back drain (work ∷ works) later =
    under_max (sum later) (drain * length later) (sum (work ∷ (works ++ later)) - drain * length (work ∷ (works ++ later))) (waiting drain (works ++ later)) (waiting-back drain works later)

payload_by-le : (due : ℕ) (packet : QueuedPacket) → payload_by due packet ≤ packet.payload
payload_by-le due packet = elim (cases_Bool (leb packet.due due)) as (λ _. payload_by due packet ≤ packet.payload) [
  | inl e ↦ rw e (omega arith)
  | inr e ↦ rw e (omega arith)
]

row_bytes : (stream due : ℕ) (row : Row) → sum_by (payload_by due) (packet_of stream row) ≤ payload_in stream row
row_bytes stream due (Reserved sent) = omega arith
row_bytes stream due Empty = omega arith
row_bytes stream due (Carries s packet) =
    elim (cases_Bool (eqb s stream)) as (λ _. sum_by (payload_by due) (packet_of stream (Carries s packet)) ≤ payload_in stream (Carries s packet)) [
      | inl e ↦ rw e (omega (arith, payload_by-le due packet))
      | inr e ↦ rw e (omega arith)
    ]

-- the work that a row brings to MB
abbrev row_work : (stream : ℕ) → Row → ℕ
row_work stream row = MB_SUBTICKS * payload_in stream row

rows_work : (stream due : ℕ) (rows : List Row) → MB_SUBTICKS * bytes_by stream due rows ≤ sum_by (row_work stream) rows
rows_work stream due [] = omega arith
rows_work stream due (row ∷ rows) =
    omega (
      arith,
      sum_by-append (payload_by due) (packet_of stream row) (packets_sent stream rows),
      sum_by-cons (row_work stream) row rows,
      row_bytes stream due row,
      rows_work stream due rows,
    )

work_after : (slot stream due : ℕ) (before rows : List Row)
    → MB_SUBTICKS * bytes_by stream due rows ≤ mb_work slot stream (before ++ rows) + slot_subticks slot * length rows
work_after slot stream due before rows =
    let works = map (row_work stream) rows in
    let whole : mb_work slot stream (before ++ rows) ≡ waiting (slot_subticks slot) (map (row_work stream) before ++ map (row_work stream) rows) =
    ap (waiting (slot_subticks slot)) (map-append (row_work stream) before rows) in
    let drained : slot_subticks slot * length (map (row_work stream) rows) ≡ slot_subticks slot * length rows = ap (λ n. slot_subticks slot * n) (length-map rows (row_work stream)) in
    omega (
      arith,
      rows_work stream due rows,
      sum-map (row_work stream) rows,
      waiting-back (slot_subticks slot) (map (row_work stream) before) (map (row_work stream) rows),
      whole,
      drained,
    )

-- ---- a packet that isn't late
done_in_time : (bytes work slot before here due last tail : ℕ) → bytes ≤ work + slot_subticks slot * here
    → (SUBTICKS_PER_TICK * ((before + here) * slot) + MARGIN_SUBTICKS) + work ≤ SUBTICKS_PER_TICK * due → due ≤ last → tail ≤ before
    → bytes ≤ SUBTICKS_PER_TICK * (last - MARGIN_TICKS - tail * slot)
done_in_time bytes work slot before here due last tail most early upto behind =
    let parts : (before + here) * slot ≡ before * slot + here * slot = add-mul before here slot in
    let turned : slot * here ≡ here * slot = omega arith in
    let drained : slot_subticks slot * here ≡ SUBTICKS_PER_TICK * (here * slot) =
    mul_assoc SUBTICKS_PER_TICK slot here ∙ ap (λ n. SUBTICKS_PER_TICK * n) turned in
    let fewer : tail * slot ≤ before * slot = mul-le-mul_right slot behind in
    omega arith

stops_later : (work slot before here due last tail : ℕ) → 0 < slot → 0 < here
    → (SUBTICKS_PER_TICK * ((before + here) * slot) + MARGIN_SUBTICKS) + work ≤ SUBTICKS_PER_TICK * due → due ≤ last → tail ≤ before → tail < stop slot last
stops_later work slot before here due last tail some one early upto behind =
    let fewer : (tail + 1) * slot ≤ (before + here) * slot = mul-le-mul_right slot (omega arith) in
    let fits : (tail + 1) * slot ≤ last - MARGIN_TICKS = omega arith in
    let below : tail + 1 ≤ stop slot last = le-div (tail + 1) (last - MARGIN_TICKS) slot some fits in
    omega arith

-- what MB can give from the tail on, where the last of so many bytes is due then
abbrev pub Gives : (slot last tail bytes : ℕ) → Type 0
Gives slot last tail bytes = (bytes ≡ 0) ⊎ ((tail < stop slot last) × (MB_SUBTICKS * bytes ≤ SUBTICKS_PER_TICK * (last - MARGIN_TICKS - tail * slot)))

same_bytes : (stream due : ℕ) (rows : List Row) (row : Row) → packet_of stream row ≡ [] → bytes_by stream due (rows ++ row ∷ []) ≡ bytes_by stream due rows
same_bytes stream due rows row none =
    ap (sum_by (payload_by due)) (packets_sent-push stream rows row ∙ ap (λ more. packets_sent stream rows ++ more) none ∙ append-nil (packets_sent stream rows))

-- a packet that goes in the row behind these, and isn't late, is passed on in time with all bytes from the tail on
in_time : (slot stream due last tail time : ℕ) (before rows : List Row) (row : Row) → 0 < slot → tail ≤ length before → time ≤ last
    → end_with_margin slot ((before ++ rows) ++ row ∷ []) + mb_work slot stream ((before ++ rows) ++ row ∷ []) ≤ SUBTICKS_PER_TICK * time
    → Gives slot last tail (bytes_by stream due (rows ++ row ∷ []))
in_time slot stream due last tail time before rows row some behind upto early =
    let whole = (before ++ rows) ++ row ∷ [] in
    let here = length (rows ++ row ∷ []) in
    let regroup : (before ++ rows) ++ row ∷ [] ≡ before ++ (rows ++ row ∷ []) = append_assoc before rows (row ∷ []) in
    let size : length ((before ++ rows) ++ row ∷ []) ≡ length before + length (rows ++ row ∷ []) = ap length regroup ∙ length-append before (rows ++ row ∷ []) in
    let slots : length ((before ++ rows) ++ row ∷ []) * slot ≡ (length before + length (rows ++ row ∷ [])) * slot = ap (λ n. n * slot) size in
    let work : mb_work slot stream ((before ++ rows) ++ row ∷ []) ≡ mb_work slot stream (before ++ (rows ++ row ∷ [])) = ap (mb_work slot stream) regroup in
    let early' : (SUBTICKS_PER_TICK * ((length before + length (rows ++ row ∷ [])) * slot) + MARGIN_SUBTICKS) + mb_work slot stream (before ++ (rows ++ row ∷ [])) ≤ SUBTICKS_PER_TICK * time =
    omega (arith, early, slots, work) in
    let one : 0 < length (rows ++ row ∷ []) = omega (arith, length_push rows row) in
    inr (
      stops_later (mb_work slot stream (before ++ (rows ++ row ∷ []))) slot (length before) here time last tail some one early' upto behind,
      done_in_time (MB_SUBTICKS * bytes_by stream due (rows ++ row ∷ [])) (mb_work slot stream (before ++ (rows ++ row ∷ []))) slot (length before) here time last tail
          (work_after slot stream due before (rows ++ row ∷ [])) early' upto behind,
    )

-- ---- one more row
one_more : (table : Table) (choice : List ℕ) (stream program vbv due last tail : ℕ) (packets : List QueuedPacket) (before rows : List Row) (row : Row) → 0 < table.slot
    → slice_get (queues_of table choice) stream ≡ Some (record { kind = Video program vbv; packets = packets })
    → All (λ packet. packet.due ≤ due → packet.due ≤ last) packets → tail ≤ length before
    → IsNext table choice (before ++ rows) row → NoneMisses table.slot (queues_of table choice) (before ++ rows) row
    → Gives table.slot last tail (bytes_by stream due rows) → Gives table.slot last tail (bytes_by stream due (rows ++ row ∷ []))
one_more table choice stream program vbv due last tail packets before rows (Reserved sent) some got upto behind next none gives =
    subst (λ n. Gives table.slot last tail n) (sym (same_bytes stream due rows (Reserved sent) refl)) gives
one_more table choice stream program vbv due last tail packets before rows Empty some got upto behind next none gives =
    subst (λ n. Gives table.slot last tail n) (sym (same_bytes stream due rows Empty refl)) gives
one_more table choice stream program vbv due last tail packets before rows (Carries s packet) some got upto behind next none gives =
    elim (cases_eq s stream) as (λ _. Gives table.slot last tail (bytes_by stream due (rows ++ Carries s packet ∷ []))) [
      | inr apart ↦ subst (λ n. Gives table.slot last tail n) (sym (same_bytes stream due rows (Carries s packet) (packet_of-other stream s packet apart))) gives
      | inl e ↦
          (let whole = (before ++ rows) ++ Carries s packet ∷ [] in
          let late = end_with_margin table.slot whole + mb_or_tb_work table.slot s next.1.kind whole in
          elim (cases_lt due packet.due) as (λ _. Gives table.slot last tail (bytes_by stream due (rows ++ Carries s packet ∷ []))) [
            | inl after ↦
                (let nothing : payload_by due packet ≡ 0 = rw (lt-leb packet.due due after) refl in
                let added : bytes_by stream due (rows ++ Carries s packet ∷ []) ≡ bytes_by stream due rows + payload_by due packet =
                ap (sum_by (payload_by due)) (packets_sent-push stream rows (Carries s packet) ∙ ap (λ more. packets_sent stream rows ++ more) (packet_of-carried stream s packet e))
                ∙ sum_by_push (payload_by due) (packets_sent stream rows) packet in
                let as_before : bytes_by stream due rows ≡ bytes_by stream due (rows ++ Carries s packet ∷ []) = omega arith in
                subst (λ n. Gives table.slot last tail n) as_before gives)
            | inr by ↦
                (elim (cases_lt (SUBTICKS_PER_TICK * packet.due) late) as (λ _. Gives table.slot last tail (bytes_by stream due (rows ++ Carries s packet ∷ []))) [
                  | inl misses ↦ absurd (none s packet (inl (record { before = before ++ rows; went = refl; kind = next.1.kind; head = next.1.head; late = misses })))
                  | inr early ↦
                      (let n = count_by (is_of stream) (before ++ rows) in
                      let head : IsHead (queues_of table choice) (before ++ rows) stream next.1.kind packet =
                      subst (λ (m : ℕ). IsHead (queues_of table choice) (before ++ rows) m next.1.kind packet) e next.1.head in
                      let same : ◌≡◌ {A = Queue} (record { kind = next.1.kind; packets = head.0 }) (record { kind = Video program vbv; packets = packets }) = same_Some _ _ (sym head.1 ∙ got) in
                      let there : slice_get packets (count_by (is_of stream) (before ++ rows)) ≡ Some packet =
                      subst (λ (list : List QueuedPacket). slice_get list (count_by (is_of stream) (before ++ rows)) ≡ Some packet) (ap (λ (q : Queue). q.packets) same) head.2 in
                      let work : mb_or_tb_work table.slot s next.1.kind whole ≡ mb_work table.slot stream whole =
                      ap (λ (q : Queue). mb_or_tb_work table.slot s q.kind whole) same ∙ ap (λ m. mb_work table.slot m whole) e in
                      let in_window : packet.due ≤ last = subst (λ (p : QueuedPacket). p.due ≤ due → p.due ≤ last) (get_or_from_slice_get packets n packet packet there)
                      (upto n packet (slice_get_within packets n packet there)) by in
                      in_time table.slot stream due last tail packet.due before rows (Carries s packet) some behind in_window (omega (arith, early, work)))
                ])
          ])
    ]

-- the bytes of a program's video from the tail on that are due by a time: none, or as many as MB can give until the last of them is due
pub tail_gives : (table : Table) (choice : List ℕ) (stream program vbv due last tail : ℕ) (packets : List QueuedPacket) (before : List Row) → 0 < table.slot
    → slice_get (queues_of table choice) stream ≡ Some (record { kind = Video program vbv; packets = packets })
    → All (λ packet. packet.due ≤ due → packet.due ≤ last) packets → tail ≤ length before
    → (rows : List Row) → FollowRule table choice (before ++ rows) → NoMiss table.slot (queues_of table choice) (before ++ rows)
    → Gives table.slot last tail (bytes_by stream due rows)
tail_gives table choice stream program vbv due last tail packets before some got upto behind =
    by_push (λ rows. FollowRule table choice (before ++ rows) → NoMiss table.slot (queues_of table choice) (before ++ rows) → Gives table.slot last tail (bytes_by stream due rows))
    (λ follows none. inl refl)
    (λ rows row earlier follows none.
    let regroup : before ++ (rows ++ row ∷ []) ≡ (before ++ rows) ++ row ∷ [] = sym (append_assoc before rows (row ∷ [])) in
    let follows' : FollowRule table choice ((before ++ rows) ++ row ∷ []) = subst (λ (all : List Row). FollowRule table choice all) regroup follows in
    let none' : NoMiss table.slot (queues_of table choice) ((before ++ rows) ++ row ∷ []) = subst (λ (all : List Row). NoMiss table.slot (queues_of table choice) all) regroup none in
    one_more table choice stream program vbv due last tail packets before rows row some got upto behind (FollowRule-last table choice (before ++ rows) row follows')
    (NoMiss-last table.slot (queues_of table choice) (before ++ rows) row none')
    (earlier (FollowRule-front table choice (before ++ rows) (row ∷ []) follows') (NoMiss-front table.slot (queues_of table choice) (before ++ rows) (row ∷ []) none')))
