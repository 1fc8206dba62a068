-- What of a local and of a message a round works on.
use Rattle.std.specs.Prelude.{List, [], Option, Some, None}
use Rattle.bf_parts.specs.Views.{View}
use Rattle.bf_rounds.specs.Leading.{Lens}
use Rattle.bf_stages.specs.Moves.{Hand}
use Rattle.bf_beads.specs.declared.bead.Bead.{Bead}
use Rattle.bf_beads.specs.declared.local.BeadLocal.{BeadLocal}
use Rattle.bf_beads.specs.declared.message.BeadMessage.{BeadMessage}
use Rattle.bf_beads.specs.declared.message.BeadMessage.TheVariants.{Told, Moved, Copied}

abbrev pub told_in : BeadMessage → List Bead
told_in (Told beads) = beads
told_in (Moved beads) = []
told_in (Copied beads) = []

abbrev pub moved_in : BeadMessage → List Bead
moved_in (Told beads) = []
moved_in (Moved beads) = beads
moved_in (Copied beads) = []

abbrev pub copied_in : BeadMessage → Option (List Bead)
copied_in (Told beads) = None
copied_in (Moved beads) = None
copied_in (Copied beads) = beads

-- the beads of a message of any kind
abbrev pub beads_in : BeadMessage → List Bead
beads_in (Told beads) = beads
beads_in (Moved beads) = beads
beads_in (Copied None) = []
beads_in (Copied (Some beads)) = beads

-- what is seen of a local, and the local of what is seen and what it has heard
abbrev pub view_in : BeadLocal → View Bead
view_in local = record { rank = local.rank; items = local.beads; active = local.active; spare = local.spare }

abbrev pub local_with : View Bead → (heard : List Bead) → BeadLocal
local_with view heard = record { rank = view.rank; beads = view.items; heard = heard; active = view.active; spare = view.spare }

-- the beads at hand: a rank's own, and those that it has heard
abbrev pub hand_in : BeadLocal → Hand (List Bead) Bead
hand_in local = record { rank = local.rank; known = local.heard; items = local.beads }

abbrev pub with_hand : BeadLocal → Hand (List Bead) Bead → BeadLocal
with_hand local hand = record local { rank = hand.rank; beads = hand.items; heard = hand.known }

abbrev pub told_lens : Lens BeadLocal (Hand (List Bead) Bead) BeadMessage (List Bead)
told_lens = record { take = hand_in; give = with_hand; wrap = Told; unwrap = told_in }

abbrev pub moved_lens : Lens BeadLocal (Hand (List Bead) Bead) BeadMessage (List Bead)
moved_lens = record { take = hand_in; give = with_hand; wrap = Moved; unwrap = moved_in }

abbrev pub copied_lens : Lens BeadLocal (View Bead) BeadMessage (Option (List Bead))
copied_lens = record { take = view_in; give = λ local view. local_with view local.heard; wrap = Copied; unwrap = copied_in }
