use Rattle.bf_text.proofs.ValidLemmas.{valid_reading}
use Rattle.bf_text.proofs.laws.what_is_read_is_valid.Goals as goal

pub returns : goal.returns
returns c = valid_reading
