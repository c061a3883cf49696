use Rattle.std.proofs.Common.{◌≡◌, ◌+◌, ◌<◌, ◌≤◌, ◌⊎◌, ℕ, inl, inr, cond, take, length, get_or, sum_by, count_by, lt-ltb, sym, ap, ◌∙◌, arith}
use Rattle.std.proofs.lemmas.List.Sums.{sum_by_more}
use Rattle.std.proofs.lemmas.Bool.{le-ltb}
use Rattle.stream_constants.specs.declared.decoder.TheConstants.{AUDIO_BYTES}
use Rattle.version_table.specs.declared.table.AudioPacket.{AudioPacket}
use Rattle.buffer_windows.proofs.AudioBefore.{is_late}
use Rattle.buffer_windows.proofs.Counted.{longest-is, longest-start}
use Rattle.buffer_windows.proofs.audio.longest_before.Goals as goal
use Rattle.buffer_windows.proofs.audio.longest_before.Goals.{then-latest-packet-via-then-latest-packet, then-latest-packet-via-else-latest-packet+then-bytes-gt-AUDIO_BYTES}

abbrev none : AudioPacket
none = record { due = 0; gone = 0; bytes = 0 }

pub returns-then-window-eq0-clause-value : goal.returns-then-window-eq0-clause-value
returns-then-window-eq0-clause-value c = sym (longest-start c.args.slot c.args.window.now c.args.counted.now (omega arith))

pub returns-then-latest-packet-clause-value : goal.returns-then-latest-packet-clause-value
returns-then-latest-packet-clause-value c =
    let slot = c.args.slot in
    let window = c.args.window.now in
    let packets = c.args.counted.now in
    let k = c.loop-k.k in
    let late : AudioPacket → ℕ = λ (p : AudioPacket). cond (is_late c.args.slot c.args.window.now p) 1 0 in
    let more_late = sum_by_more late packets k none c.loop-k-test.true in
    let more_bytes = sum_by_more (λ (p : AudioPacket). p.bytes) packets k none c.loop-k-test.true in
    let ends : (1 ≤ count_by (is_late c.args.slot c.args.window.now) (take (c.loop-k.k + 1) c.args.counted.now))
    ⊎ (AUDIO_BYTES < sum_by (λ (p : AudioPacket). p.bytes) (take (c.loop-k.k + 1) c.args.counted.now)) =
    elim c.then-latest-packet.branch [
      | then-latest-packet-via-then-latest-packet w ↦
          (let own : cond {A = ℕ} (is_late c.args.slot c.args.window.now (get_or c.args.counted.now c.loop-k.k none)) 1 0 ≡ 1 =
          ap {B = ℕ} (λ b. cond b 1 0) (lt-ltb _ _ (omega (arith, w.if-latest-packet.true, c.latest-latest.ensures.value))) in
          inl (omega (arith, own, more_late)))
      | then-latest-packet-via-else-latest-packet+then-bytes-gt-AUDIO_BYTES w ↦
          inr (omega (arith, more_bytes, w.if-bytes-gt-AUDIO_BYTES.true, c.loop-k.invariant.0, c.from-bytes.ensures))
    ] in
    sym (longest-is slot window packets k (omega arith) (omega arith) c.loop-k.invariant.1 (omega (arith, c.loop-k.invariant.0, c.loop-k.invariant.2)) (λ within. ends))

pub returns-clause-value : goal.returns-clause-value
returns-clause-value c =
    let same : c.loop-k.k ≡ length c.args.counted.now = omega arith in
    sym same
    ∙ sym (longest-is c.args.slot c.args.window.now c.args.counted.now c.loop-k.k (omega arith) (omega arith) c.loop-k.invariant.1
    (omega (arith, c.loop-k.invariant.0, c.loop-k.invariant.2)) (λ within. absurd (omega arith)))

pub loop-k-preserved : goal.loop-k-preserved
loop-k-preserved c =
    let late : AudioPacket → ℕ = λ (p : AudioPacket). cond (is_late c.args.slot c.args.window.now p) 1 0 in
    let more_late = sum_by_more late c.args.counted.now c.loop-k.k none c.loop-k-test.true in
    let more_bytes = sum_by_more (λ (p : AudioPacket). p.bytes) c.args.counted.now c.loop-k.k none c.loop-k-test.true in
    let own : cond {A = ℕ} (is_late c.args.slot c.args.window.now (get_or c.args.counted.now c.loop-k.k none)) 1 0 ≡ 0 =
    ap {B = ℕ} (λ b. cond b 1 0) (le-ltb _ _ (omega (arith, c.if-latest-packet.false, c.latest-latest.ensures.value))) in (
      omega (arith, more_bytes, c.loop-k.invariant.0, c.from-bytes.ensures),
      omega (arith, own, more_late, c.loop-k.invariant.1),
      omega arith,
    )
