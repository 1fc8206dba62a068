use Rattle.std.proofs.Common.{◌∙◌, ap, filter, ℕ}
use Rattle.bf_stages.specs.Plans.{stage_of}
use Rattle.bf_forest.specs.Peers.{is_peer}
use Rattle.bf_forest.specs.Stages.{forest_plan}
use Rattle.bf_forest.specs.declared.stage.Stage.{Stage}
use Rattle.bf_forest.proofs.PointSteps.{peers_are}
use Rattle.bf_forest.proofs.program.ForestRankProgram.peers.Goals as goal

pub returns : goal.returns
returns c =
    c.peers_of.ensures
    ∙ ap (λ (stage : Stage). filter (is_peer stage c.args.epoch.members c.shift.result c.args.local.now) c.args.epoch.members) c.stage_of.ensures
    ∙ ap (λ (shift : ℕ). filter (is_peer (stage_of forest_plan c.args.epoch c.args.round) c.args.epoch.members shift c.args.local.now) c.args.epoch.members) c.shift.ensures.value
    ∙ peers_are c.args.setup.now c.args.epoch c.args.round c.args.local.now c.requires
