use Rattle.bf_migrate.proofs.BoxLemmas.{ids_made}
use Rattle.bf_migrate.proofs.laws.each_proxy_has_one_block.Goals as goal

pub returns : goal.returns
returns c = ids_made
