use Rattle.std.proofs.Common.{ℕ, ◌<◌, map, sym, subst}
use Rattle.std.specs.Prelude.{All}
use Rattle.std.specs.List.Sorted.{IsStrictlyIncreasing}
use Rattle.bf_beads.proofs.setup.BeadSetup.new.Goals as goal

pub invariant_of-result-clause-deaths_below : goal.invariant_of-result-clause-deaths_below
invariant_of-result-clause-deaths_below c =
    subst (λ deaths. All {X = ℕ × ℕ} (λ death. death.0 < c.args.ranks) deaths) (sym c.table_of-table.ensures) c.requires.deaths_below

pub invariant_of-result-clause-deaths_rise : goal.invariant_of-result-clause-deaths_rise
invariant_of-result-clause-deaths_rise c =
    subst (λ deaths. IsStrictlyIncreasing (map {A = ℕ × ℕ} (λ death. death.0) deaths)) (sym c.table_of-table.ensures) c.requires.deaths_rise
