use Rattle.std.proofs.Common.{rules}
use Rattle.bf_turn.specs.Diaries.{writer_of}
use Rattle.bf_turn.proofs.LogLemmas.{goes_on}
use Rattle.bf_turn.proofs.diary.write.Goals as goal

pub give-seat-requires-clause-grown : goal.give-seat-requires-clause-grown
give-seat-requires-clause-grown g c =
    let taken = c.take-held.result in
    (goes_on writer_of taken.grip.known.parties taken.grip.known.seen c.push.new.self.items c.args.note (search rules) c.is_ok-written.result (search rules)).0
