-- The program keeps the laws of round programs.
use Rattle.bf_program.specs.Laws.{Laws}
use Rattle.bf_stages.proofs.StageLemmas.{laws_staged}
use Rattle.bf_beads.specs.declared.bead.Bead.{Bead}
use Rattle.bf_beads.specs.declared.setup.BeadSetup.{BeadSetup}
use Rattle.bf_beads.specs.Goods.{IsGood, staging}
use Rattle.bf_beads.specs.Meanings.{beads, pieces}
use Rattle.bf_beads.specs.RoundLaws.{has_stages}
use Rattle.bf_beads.specs.Row.{bead_kind}
use Rattle.bf_beads.specs.SpanLaws.{staged, sides, spans, limits, has_pieces}
use Rattle.std.specs.Prelude.{[]}

pub lawful_beads : (setup : BeadSetup) → Laws beads pieces IsGood setup
lawful_beads setup =
    laws_staged beads staging bead_kind setup (staged setup) pieces (λ (bead : Bead). bead.number) (λ local. []) (sides setup) (spans setup) (has_stages setup) (has_pieces setup) (limits setup)
