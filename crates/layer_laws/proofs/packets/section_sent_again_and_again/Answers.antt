use Rattle.layer_laws.proofs.Sections.{again, found_whole}
use Rattle.layer_laws.proofs.packets.section_sent_again_and_again.Goals as goal

pub returns-clause-found : goal.returns-clause-found
returns-clause-found c = found_whole

pub returns-clause-again : goal.returns-clause-again
returns-clause-again c = again
