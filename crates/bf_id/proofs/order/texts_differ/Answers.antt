use Rattle.bf_id.proofs.Texts.{text_of-differ}
use Rattle.bf_id.proofs.order.texts_differ.Goals as goal

pub returns : goal.returns
returns c = text_of-differ
