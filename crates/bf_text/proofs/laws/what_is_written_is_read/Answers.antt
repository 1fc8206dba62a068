use Rattle.bf_text.proofs.BodyLemmas.{read_again}
use Rattle.bf_text.proofs.laws.what_is_written_is_read.Goals as goal

pub returns : goal.returns
returns c = read_again
