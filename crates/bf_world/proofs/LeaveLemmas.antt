-- Who must leave after an event.
use Rattle.std.proofs.Common.{◌≡◌, Bool, true, false, ◌&&◌, refl, ◌∙◌, ap}
use Rattle.std.specs.Prelude.{is_some, if◌then◌else◌}
use Rattle.std.proofs.lemmas.Bool.{and_parts}
use Rattle.bf_core.specs.declared.event.Event.{Event}
use Rattle.bf_core.specs.declared.event.Event.TheVariants.{Send, Recv, Arrive, Leave, Die}
use Rattle.bf_core.specs.declared.place.Place.{Place}
use Rattle.bf_core.specs.declared.standing.Stage.TheVariants.{Running, Leaving, Ended, Dead}
use Rattle.bf_core.specs.Stages.{is_leaving, goes_on}
use Rattle.bf_core.specs.Places.{is_just, next_receive}
use Rattle.bf_core.specs.States.{State, stage, is_active}
use Rattle.bf_core.specs.Legal.{is_legal, actor}
use Rattle.bf_core.specs.Next.{happened}
use Rattle.bf_core.proofs.StageLemmas.{is_rank, stage_same}
use Rattle.bf_core.proofs.SoundLemmas.{acting, in_list, leaving_stage, active_of}

-- before any decision, no event makes its rank leave
pub none_leaves : (state : State) (event : Event) (place : Place) (filled : Bool) → is_legal state event place ≡ true
    → is_leaving (stage (happened state event filled) (actor event)) ≡ false
none_leaves state (Send rank to blocks sum) place filled legal =
    let runs : stage state rank ≡ Running = acting state rank (and_parts (is_active state rank) _ legal).0 in
    ap is_leaving (stage_same state rank (stage state rank) (in_list state rank runs) ∙ runs)
none_leaves state (Recv rank peer) place filled legal =
    let runs : stage state rank ≡ Running =
    acting state rank (and_parts (is_active state rank) _ (and_parts (is_active state rank && is_just (next_receive place) peer) _ legal).0).0 in
    ap is_leaving (stage_same state rank (stage state rank) (in_list state rank runs) ∙ runs)
none_leaves state (Arrive rank how) place filled legal =
    ap is_leaving (stage_same state rank _ (in_list state rank (acting state rank (active_of state rank how place legal))))
none_leaves state (Leave rank) place filled legal =
    let leaving : stage state rank ≡ Leaving = leaving_stage state rank (and_parts (is_leaving (stage state rank)) _ legal).0 in
    ap is_leaving (stage_same state rank (if is_some state.outcome then Ended else Running) (is_rank is_leaving state rank refl (ap is_leaving leaving)))
    ∙ by_end (is_some state.outcome)
  where
    by_end : (b : Bool) → is_leaving (if b then Ended else Running) ≡ false
    by_end true = refl
    by_end false = refl
none_leaves state (Die rank) place filled legal =
    ap is_leaving (stage_same state rank Dead (is_rank goes_on state rank refl (and_parts (goes_on (stage state rank)) _ legal).0))
