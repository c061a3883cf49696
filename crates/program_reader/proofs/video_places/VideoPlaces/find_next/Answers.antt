use Rattle.std.proofs.Common.{◌++◌, ◌∙◌, List, ℕ, sym, ap, subst, take}
use Rattle.std.proofs.lemmas.List.{append-nil}
use Rattle.es_units.specs.PictureFinder.{HasFound}
use Rattle.program_reader.proofs.video_places.VideoPlaces.find_next.Goals as goal

pub returns-in_ok-push-in-Some-clause-found : goal.returns-in_ok-push-in-Some-clause-found
returns-in_ok-push-in-Some-clause-found c es has =
    let old = c.args.self.now.pictures.items in
    subst (λ (ks : List ℕ). HasFound (es ++ take c.push-count.result c.args.bytes.now) ks c.push-count.new.self)
    (ap (λ (ks : List ℕ). old ++ ks) (sym c.in-Some.ensures) ∙ sym c.in_ok-push-in-Some.ensures.items) (c.push-count.ensures.found es old has)

pub returns-in-None-clause-found : goal.returns-in-None-clause-found
returns-in-None-clause-found c es has =
    let old = c.args.self.now.pictures.items in
    subst (λ (ks : List ℕ). HasFound (es ++ take c.push-count.result c.args.bytes.now) ks c.push-count.new.self)
    (ap (λ (ks : List ℕ). old ++ ks) (sym c.in-None.ensures) ∙ append-nil old) (c.push-count.ensures.found es old has)
