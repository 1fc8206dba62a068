-- Each clause of the law is a lemma.
use Rattle.bf_id.proofs.Tilings.{roots_Tiles, roots_IsBalanced}
use Rattle.bf_id.proofs.laws.roots_tile.Goals as goal

pub returns-clause-tile : goal.returns-clause-tile
returns-clause-tile c = roots_Tiles

pub returns-clause-balanced : goal.returns-clause-balanced
returns-clause-balanced c = roots_IsBalanced
