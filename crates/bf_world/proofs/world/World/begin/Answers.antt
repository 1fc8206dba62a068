use Rattle.std.proofs.Common.{◌∙◌, ◌<◌, ℕ, map, sym, subst}
use Rattle.std.specs.Prelude.{All}
use Rattle.std.specs.List.Sorted.{IsStrictlyIncreasing}
use Rattle.bf_world.proofs.WorldLemmas.{room_made}
use Rattle.bf_world.proofs.OpeningLemmas.{opening_core, opening_world}
use Rattle.bf_world.proofs.world.World.begin.Goals as goal

pub begin-requires-clause-rising : goal.begin-requires-clause-rising
begin-requires-clause-rising g c =
    let laws = g.met.P.RankProgram.lawful c.args.setup in
    subst (λ deaths. IsStrictlyIncreasing (map {A = ℕ × ℕ} (λ death. death.0) deaths)) (sym c.dies.ensures) laws.limits.rising_deaths

pub begin-requires-clause-below : goal.begin-requires-clause-below
begin-requires-clause-below g c =
    let laws = g.met.P.RankProgram.lawful c.args.setup in
    subst (λ ranks. All {X = ℕ × ℕ} (λ death. death.0 < ranks) c.dies.result.now) (sym c.ranks-ranks.ensures)
    (subst (λ deaths. All {X = ℕ × ℕ} (λ death. death.0 < g.P.RankProgram.meanings.ranks c.args.setup) deaths) (sym c.dies.ensures) laws.limits.deaths)

pub invariant_of-result : goal.invariant_of-result
invariant_of-result g c =
    let laws = g.met.P.RankProgram.lawful c.args.setup in
    opening_world _ _ _ laws.limits laws.goods laws.stores _ _ _ c.ranks-ranks.result
    (opening_core g.P.RankProgram.meanings c.args.setup _ _ _ _ _ _ _ c.ranks-ranks.ensures c.requires c.dies.ensures
    c.shift.ensures c.steps.ensures c.snapshot.ensures c.in_ok-core.ensures)
    c.in_ok-queues.ensures c.ranks-ranks.ensures (c.reserve.ensures.events ∙ c.new-journal.ensures.events)
    (room_made _ _ _ c.in_ok-reserve.ensures.room).0 _ c.new-2.ensures.items
