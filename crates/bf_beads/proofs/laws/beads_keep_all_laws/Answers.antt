use Rattle.bf_beads.specs.BeadsLaws.{lawful_beads}
use Rattle.bf_beads.proofs.laws.beads_keep_all_laws.Goals as goal

pub returns : goal.returns
returns c = lawful_beads
