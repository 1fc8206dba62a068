use Rattle.bf_forest.specs.PieceLaws.{pieces_tile}
use Rattle.bf_forest.proofs.laws.the_members_pieces_tile_the_domain.Goals as goal

pub returns : goal.returns
returns c = pieces_tile
