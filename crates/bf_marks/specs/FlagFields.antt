-- How flags are stored.
use Rattle.std.specs.Prelude.{Bool, List}
use Rattle.bf_id.specs.Id.{BlockId}
use Rattle.bf_marks.specs.Flags.{Flagged, chosen}
use Rattle.bf_marks.specs.declared.flags.Flags.{Flags}

-- the own leaves whose flag is set
abbrev pub with_flag : (leaves : List BlockId) → (flags : List Bool) → List BlockId
with_flag leaves flags = chosen (λ i flag. flag) leaves flags

-- the leaves that have the flag
abbrev pub flagged_by : (leaves : List BlockId) → Flags → Flagged
flagged_by leaves flags = record { own = with_flag leaves flags.own.items; heard = flags.heard.keys }
