-- Good vectors are exactly those that are dealt in an epoch that comes up.
use Rattle.std.proofs.Common.{ℕ, List}
use Rattle.std.specs.Prelude.{◌↔◌}
use Rattle.bf_id.specs.Id.{BlockId}
use Rattle.bf_program.specs.declared.epoch.Epoch.{Epoch}
use Rattle.bf_forest.specs.declared.local.ForestLocal.{ForestLocal}
use Rattle.bf_forest.specs.declared.setup.Setup.{Setup}
use Rattle.bf_forest.specs.Goods.{AreDealt, IsGood}
use Rattle.bf_forest.specs.LeafLaws.{all_dealt, placed_where_dealt, told_where_dealt, world_of}
use Rattle.bf_forest.specs.Setup.{case_of}
use Rattle.bf_forest.specs.Staging.{Runs}

-- a good vector's epoch comes up
epoch_runs : (setup : Setup) (epoch : Epoch) (round : ℕ) (locals : List ForestLocal) → IsGood setup epoch round locals → Runs (case_of setup) epoch
unfolding IsGood
epoch_runs setup epoch round locals good = good.fits.runs

-- locals that are dealt in such an epoch are good
dealt_good : (setup : Setup) (epoch : Epoch) (round : ℕ) (owner home : BlockId → ℕ) (locals : List ForestLocal) → Runs (case_of setup) epoch
    → AreDealt (case_of setup) epoch round owner home locals → IsGood setup epoch round locals
unfolding IsGood
dealt_good setup epoch round owner home locals runs dealt = record {
  world = world_of owner home;
  fits = placed_where_dealt setup epoch round owner home locals runs dealt;
  are = told_where_dealt setup epoch round owner home locals runs dealt;
}

pub good_where_dealt : (setup : Setup) (epoch : Epoch) (round : ℕ) (locals : List ForestLocal)
    → IsGood setup epoch round locals ↔ (Runs (case_of setup) epoch × (owner : BlockId → ℕ) × (home : BlockId → ℕ) × AreDealt (case_of setup) epoch round owner home locals)
good_where_dealt setup epoch round locals = (
  λ good. let has = all_dealt setup epoch round locals good in (epoch_runs setup epoch round locals good, has.0, has.1, has.2),
  λ dealt. dealt_good setup epoch round dealt.1 dealt.2 locals dealt.0 dealt.3,
)
