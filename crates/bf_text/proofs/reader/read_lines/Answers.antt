use Rattle.std.proofs.lemmas.Result.{err_from_is_err_and}
use Rattle.bf_text.proofs.ReadLemmas.{reads_none, reads_more, reads_fault, reads_all}
use Rattle.bf_text.proofs.reader.read_lines.Goals as goal

pub loop-line-init : goal.loop-line-init
loop-line-init c = reads_none c.args.bytes.now c.new-draft.result c.new-draft.ensures.outline c.new-draft.ensures.fills c.new-draft.ensures.order

pub returns-in_err-take_line : goal.returns-in_err-take_line
returns-in_err-take_line c =
    let p = err_from_is_err_and c.from_residual.result c.from_residual.ensures.1 in
    rw (p.1, p.2)
    (reads_fault c.args.bytes.now c.loop-line.rest.now c.in-Some.line.now _ c.loop-line.draft c.loop-line.number _ c.loop-line.invariant
    c.in-Some.ensures.lines c.in_err-take_line.ensures.err)

pub loop-line-preserved : goal.loop-line-preserved
loop-line-preserved c =
    reads_more c.args.bytes.now c.loop-line.rest.now c.in-Some.line.now c.in-Some.others.now c.loop-line.draft c.take_line.new.self c.loop-line.number
    c.loop-line.invariant c.in-Some.ensures.lines c.in-Some.ensures.shorter c.in_ok-take_line.ensures.ok

pub returns : goal.returns
returns c =
    reads_all c.args.bytes.now c.loop-line.rest.now c.loop-line.draft c.loop-line.number c.finish.result c.loop-line.invariant c.in_default.ensures.lines c.finish.ensures
