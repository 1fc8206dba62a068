use Rattle.std.proofs.Common.{sym}
use Rattle.bf_text.proofs.LineLemmas.{comment_found, comment_none}
use Rattle.bf_text.proofs.lines.without_comment.Goals as goal

pub returns-in-Some : goal.returns-in-Some
returns-in-Some c = comment_found c.args.line.now c.in-Some.end (sym c.in-Some.ensures)

pub returns-in-None : goal.returns-in-None
returns-in-None c = comment_none c.args.line.now (sym c.in-None.ensures)
