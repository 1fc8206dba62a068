-- The boxes of what a rank holds, by the ids of the blocks that have them.
use Rattle.std.specs.Prelude.{◌++◌, List}
use Rattle.bf_id.specs.Id.{BlockId}
use Rattle.bf_migrate.specs.Boxes.{boxes_in, boxes_of}
use Rattle.bf_migrate_rounds.specs.Holdings.{Holdings, blocks_in, on_hand}

abbrev pub boxes_held : Holdings → List BlockId
boxes_held holds = boxes_of (blocks_in holds.blocks) ++ boxes_in (on_hand holds)
