use Rattle.bf_cli.proofs.WordLemmas.{one_word}
use Rattle.bf_cli.proofs.command.is_word.Goals as goal

pub returns-then-words-eq1 : goal.returns-then-words-eq1
returns-then-words-eq1 c = one_word c.args.words.now _ c.args.word.now c.eq.result c.if-words-eq1.true c.eq.ensures
