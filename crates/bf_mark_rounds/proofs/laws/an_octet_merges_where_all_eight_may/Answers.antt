use Rattle.std.proofs.Common.{refl}
use Rattle.bf_id.specs.Id.{level_of}
use Rattle.bf_mark_rounds.proofs.OctetLemmas.{octet_is}
use Rattle.bf_mark_rounds.proofs.laws.an_octet_merges_where_all_eight_may.Goals as goal

pub returns : goal.returns
returns c = λ shape ids w parent low. octet_is shape ids w low (level_of parent) parent refl
