use Rattle.std.proofs.Common.{◌+◌, arith}
use Rattle.bf_core.specs.declared.place.Place.TheVariants.{Rounds}
use Rattle.bf_rank.specs.declared.stand.Stand.TheVariants as stands
use Rattle.bf_rank.proofs.PassLemmas.{may_receive, take_more, take_stays, take_ends, take_passes, where_ok, in_round, comes_from}
use Rattle.bf_rank.proofs.receiving.take.Goals as goal

pub take-requires : goal.take-requires
take-requires g c =
    let laws = g.met.P.RankProgram.lawful c.args.setup.now in
    may_receive _ _ _ laws.goods laws.peers c.requires.0 _ c.requires.1.0 _ _ _ _ _ _ _
    (in_round _ _ _ c.requires.0 _ c.requires.1.0 _ _ _ _ _ _ _ _ c.in-Rounds.is c.requires.1.1)

pub overflow_sub-all : goal.overflow_sub-all
overflow_sub-all g c =
    let laws = g.met.P.RankProgram.lawful c.args.setup.now in
    let more = take_more _ _ _ laws.goods laws.peers c.requires.0 _ c.requires.1.0 _ _ _ _ _ _ _
    (in_round _ _ _ c.requires.0 _ c.requires.1.0 _ _ _ _ _ _ _ _ c.in-Rounds.is c.requires.1.1) in
    omega (arith, more, c.count-all.ensures.count)

pub returns-then-all-received-gt1 : goal.returns-then-all-received-gt1
returns-then-all-received-gt1 g c = λ seen rank takes.
    let laws = g.met.P.RankProgram.lawful c.args.setup.now in
    comes_from g.P.RankProgram.meanings g.P.RankProgram.good c.args.setup.now seen c.args.epoch.now rank _ _ _ _ _ c.args.peer c.args.msg c.args.local.now c.in-Rounds.is c.take.new.local (stands.Placed (Rounds c.in-Rounds.round c.in-Rounds.sent (c.in-Rounds.received + 1) c.in-Rounds.peers))
    (take_stays _ _ _ laws.goods laws.peers seen c.args.epoch.now rank _ _ _ _ _ _ _ (in_round _ _ _ seen _ rank _ _ _ _ _ _ _ _ c.in-Rounds.is takes) _ c.in_ok-take.ensures
    (omega (arith, c.count-all.ensures.count, c.if-all-received-gt1.true)))

pub end_round-requires : goal.end_round-requires
end_round-requires g c =
    let laws = g.met.P.RankProgram.lawful c.args.setup.now in (
      c.requires.0,
      (
        c.requires.1.0,
        take_ends _ _ _ laws.goods laws.peers c.requires.0 _ c.requires.1.0 _ _ _ _ _ _ _
            (in_round _ _ _ c.requires.0 _ c.requires.1.0 _ _ _ _ _ _ _ _ c.in-Rounds.is c.requires.1.1) _ c.in_ok-take.ensures
            (omega (arith, c.count-all.ensures.count, c.if-all-received-gt1.false)),
      ),
    )

pub returns : goal.returns
returns g c =
    let laws = g.met.P.RankProgram.lawful c.args.setup.now in
    where_ok _ _ c.end_round.result (λ next passes. λ seen rank takes.
    let inside = in_round _ _ _ seen _ rank _ _ _ _ _ _ _ _ c.in-Rounds.is takes in
    comes_from g.P.RankProgram.meanings g.P.RankProgram.good c.args.setup.now seen c.args.epoch.now rank _ _ _ _ _ c.args.peer c.args.msg c.args.local.now c.in-Rounds.is c.end_round.new.local (stands.Placed next)
    (take_passes _ _ _ laws.goods laws.peers seen c.args.epoch.now rank _ _ _ _ _ _ _ inside next _
    (omega (arith, c.count-all.ensures.count, c.if-all-received-gt1.false))
    (passes seen rank (take_ends _ _ _ laws.goods laws.peers seen _ rank _ _ _ _ _ _ _ inside _ c.in_ok-take.ensures
    (omega (arith, c.count-all.ensures.count, c.if-all-received-gt1.false)))))) c.end_round.ensures
