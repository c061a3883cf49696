use Rattle.std.proofs.Common.{◌≡◌, ℕ, true, false, [], ◌∷◌, ◌++◌, refl, sym, ap, ◌∙◌, subst}
use Rattle.std.proofs.lemmas.Result.{on_ok_weaker}
use Rattle.std.specs.Option.{option_to_list}
use Rattle.pes_units.specs.PesHeader.{is_stream_id}
use Rattle.program_stream.specs.Streams.{first_video_id}
use Rattle.program_stream.specs.Private.Walks.{with_id, is_first_video, Holds}
use Rattle.program_stream.proofs.WalkSteps.{on_both, new_video, first_video, second_video}
use Rattle.program_stream.proofs.stream_walk.StreamWalk.take_video.Goals as goal

pub returns-then-is_first_video : goal.returns-then-is_first_video
returns-then-is_first_video c drop elements element walked same bytes_are place =
    let first : is_first_video (first_video_id elements) c.args.id ≡ true = sym (c.is_first_video.ensures drop elements walked) ∙ c.if-is_first_video.true in
    on_ok_weaker c.add.result
    (λ held. first_video drop elements element c.args.self.now _ (subst (λ (n : ℕ). is_stream_id true n ≡ true) same c.requires)
    (subst (λ (n : ℕ). is_first_video (first_video_id elements) n ≡ true) same first) walked
    (subst (λ (n : ℕ). Holds (elements ++ element ∷ []) (with_id (option_to_list (first_video_id elements)) n) c.add.new.self) same held) refl refl)
    (c.add.ensures elements (option_to_list (first_video_id elements)) element walked.video (new_video elements c.args.id c.requires first) same bytes_are place)

pub returns-else-is_first_video : goal.returns-else-is_first_video
returns-else-is_first_video c drop elements element walked same bytes_are place =
    let second : is_first_video (first_video_id elements) c.args.id ≡ false = sym (c.is_first_video.ensures drop elements walked) ∙ c.if-is_first_video.false in
    on_both c.list_other.result c.list_other.ensures.others c.list_other.ensures.same
    (λ others_are kept. second_video drop elements element c.args.self.now c.list_other.new.self (subst (λ (n : ℕ). is_stream_id true n ≡ true) same c.requires)
    (subst (λ (n : ℕ). is_first_video (first_video_id elements) n ≡ false) same second) walked kept.0 kept.1 (others_are ∙ ap (with_id c.args.self.now.others) same))
