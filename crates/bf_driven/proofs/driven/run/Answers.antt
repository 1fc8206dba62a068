use Rattle.std.proofs.Common.{◌∙◌, ap, length, arith}
use Rattle.std.proofs.lemmas.List.FromFn.{length-map-range_with_len}
use Rattle.bf_program.specs.Epochs.{first_epoch}
use Rattle.bf_forest.specs.declared.setup.Setup.{Setup}
use Rattle.bf_forest.specs.Setup.{case_of, every_setup_is_valid}
use Rattle.bf_forest.specs.Meanings.{forest, opened}
use Rattle.bf_driven.proofs.driven.run.Goals as goal

pub opened_ranks-requires : goal.opened_ranks-requires
opened_ranks-requires c =
    let setup = c.of-setup.result in
    let count = ap length c.in_ok-locals.ensures ∙ length-map-range_with_len (opened (case_of setup)) 0 (case_of setup).ranks in
    omega (arith, count, (every_setup_is_valid setup).scheduled.few_ranks)

pub drive-requires-clause-ranks : goal.drive-requires-clause-ranks
drive-requires-clause-ranks c =
    c.in_ok-ranks.ensures.at c.of-setup.result c.in_ok-locals.ensures
    (c.first-first.ensures
    ∙ ap (λ (setup : Setup). first_epoch (forest.ranks setup) (forest.steps setup) (forest.interval setup)) (c.in_ok-world.ensures.setup ∙ c.in_ok-share.ensures))
