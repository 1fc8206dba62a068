use Rattle.std.proofs.Common.{ap, ◌∙◌, length, arith}
use Rattle.std.proofs.lemmas.List.FromFn.{length-map-range_with_len}
use Rattle.bf_beads.specs.Meanings.{opened}
use Rattle.bf_trial.proofs.trial.run.Goals as goal

pub opened_ranks-requires : goal.opened_ranks-requires
opened_ranks-requires c =
    let setup = c.args.setup in
    record { few = omega (arith, setup.ranks_fit, ap length c.in_ok-locals.ensures ∙ length-map-range_with_len (opened setup.beads setup.ranks setup.shift) 0 setup.ranks) }
