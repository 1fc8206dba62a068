use Rattle.std.proofs.Common.{◌∙◌, ap, sym}
use Rattle.bf_id.specs.Shape.{root_count}
use Rattle.bf_case.specs.declared.case.Case.{Case}
use Rattle.bf_block.specs.Block.{initial_block}
use Rattle.bf_forest.specs.Setup.{case_of, every_setup_is_valid}
use Rattle.bf_forest.proofs.OpeningSteps.{block_made, owners_many}
use Rattle.bf_forest.proofs.opening.first_block.Goals as goal

pub of_root-requires-clause-owners : goal.of_root-requires-clause-owners
of_root-requires-clause-owners c = owners_many (case_of c.args.setup.now) c.args.owners.now c.requires.owners ∙ ap root_count (sym c.roots.ensures.value)

pub returns : goal.returns
returns c =
    block_made (case_of c.args.setup.now) c.roots.result c.args.owners.now c.args.root c.in_ok-block.block c.in_ok-links.links c.roots.ensures.value c.requires.owners
    (every_setup_is_valid c.args.setup.now) c.requires.root (c.in_ok-block.ensures ∙ ap (λ (k : Case). initial_block k c.args.root) c.requires.opening) c.in_ok-links.ensures
