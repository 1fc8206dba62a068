use Rattle.bf_case.specs.Model.{model_at}
use Rattle.bf_case.proofs.ModelLemmas.{balanced-model_at, finer_has_room, leaves_from_map}
use Rattle.bf_mark_rounds.proofs.KeepLemmas.{marking_begins, marking_goes_on}
use Rattle.bf_mark_rounds.proofs.laws.balanced_maps_can_be_marked.Goals as goal

pub returns : goal.returns
returns c = record {
  maps = λ case time after valid. (leaves_from_map case (model_at case time after) (balanced-model_at case time after valid), valid.sized.shallow);
  wishes = λ case leaves i has finer. finer_has_room case leaves i finer;
  begin = λ shape levels ids w owner rank map_is. marking_begins shape ids w owner rank map_is.rising;
  go_on = λ levels. marking_goes_on levels;
}
