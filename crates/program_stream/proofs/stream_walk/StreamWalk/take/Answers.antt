use Rattle.std.proofs.Common.{◌≡◌, ℕ, true, false, List, [], ◌∷◌, ◌++◌, get_or, refl, sym, ap, ◌∙◌, subst}
use Rattle.std.proofs.lemmas.Result.{on_ok_weaker}
use Rattle.pes_units.specs.PesHeader.{is_stream_id}
use Rattle.program_stream.specs.Streams.{is_carried_audio, carried_audio_ids, may_be_stream}
use Rattle.program_stream.specs.Private.Walks.{with_id, Holds}
use Rattle.program_stream.proofs.WalkSteps.{on_both, new_audio, carried_audio, listed, ignored}
use Rattle.program_stream.proofs.stream_walk.StreamWalk.take.Goals as goal

pub returns-then-is_carried_audio : goal.returns-then-is_carried_audio
returns-then-is_carried_audio c elements element walked bytes_are place =
    let same : c.from-id.result ≡ element.id = c.from-id.ensures ∙ ap (λ (xs : List ℕ). get_or xs 3 0) bytes_are in
    let audio : is_carried_audio c.args.drop.now c.from-id.result ≡ true = sym c.is_carried_audio.ensures ∙ c.if-is_carried_audio.true in
    on_ok_weaker c.add.result
    (λ held. carried_audio c.args.drop.now elements element c.args.self.now _ (subst (λ (n : ℕ). is_carried_audio c.args.drop.now n ≡ true) same audio) walked
    (subst (λ (n : ℕ). Holds (elements ++ element ∷ []) (with_id (carried_audio_ids c.args.drop.now elements) n) c.add.new.self) same held) refl refl)
    (c.add.ensures elements (carried_audio_ids c.args.drop.now elements) element walked.audios (new_audio c.args.drop.now elements c.from-id.result audio) same bytes_are place)

pub returns-then-may_be_stream : goal.returns-then-may_be_stream
returns-then-may_be_stream c elements element walked bytes_are place =
    let same : c.from-id.result ≡ element.id = c.from-id.ensures ∙ ap (λ (xs : List ℕ). get_or xs 3 0) bytes_are in
    let no_video : is_stream_id true c.from-id.result ≡ false = sym c.is_video.ensures ∙ c.if-is_video.false in
    let no_audio : is_carried_audio c.args.drop.now c.from-id.result ≡ false = sym c.is_carried_audio.ensures ∙ c.if-is_carried_audio.false in
    let may : may_be_stream c.from-id.result ≡ true = sym c.may_be_stream.ensures ∙ c.if-may_be_stream.true in
    on_both c.list_other.result c.list_other.ensures.others c.list_other.ensures.same
    (λ others_are kept. listed c.args.drop.now elements element c.args.self.now c.list_other.new.self (subst (λ (n : ℕ). is_stream_id true n ≡ false) same no_video)
    (subst (λ (n : ℕ). is_carried_audio c.args.drop.now n ≡ false) same no_audio) (subst (λ (n : ℕ). may_be_stream n ≡ true) same may) walked kept.0 kept.1
    (others_are ∙ ap (with_id c.args.self.now.others) same))

pub returns : goal.returns
returns c elements element walked bytes_are place =
    let same : c.from-id.result ≡ element.id = c.from-id.ensures ∙ ap (λ (xs : List ℕ). get_or xs 3 0) bytes_are in
    let no_video : is_stream_id true c.from-id.result ≡ false = sym c.is_video.ensures ∙ c.if-is_video.false in
    let no_audio : is_carried_audio c.args.drop.now c.from-id.result ≡ false = sym c.is_carried_audio.ensures ∙ c.if-is_carried_audio.false in
    let never : may_be_stream c.from-id.result ≡ false = sym c.may_be_stream.ensures ∙ c.if-may_be_stream.false in
    ignored c.args.drop.now elements element c.args.self.now (subst (λ (n : ℕ). is_stream_id true n ≡ false) same no_video)
    (subst (λ (n : ℕ). is_carried_audio c.args.drop.now n ≡ false) same no_audio) (subst (λ (n : ℕ). may_be_stream n ≡ false) same never) walked
