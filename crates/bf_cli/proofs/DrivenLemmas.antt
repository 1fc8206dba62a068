-- The text of a finished world.
use Rattle.std.proofs.Common.{◌≡◌, ℕ, List, [], map, inl, inr, ap, sym, subst, ◌∙◌}
use Rattle.std.specs.Prelude.{◌⊎◌, IsPermutation, IsTrue, Some, is_some}
use Rattle.std.specs.List.{list_any}
use Rattle.std.proofs.lemmas.Simd.{map-map}
use Rattle.bf_case.specs.MapText.{map_text}
use Rattle.bf_case.specs.Model.{model}
use Rattle.bf_case.specs.declared.case.Case.{Case}
use Rattle.bf_case.specs.Case.{IsValid}
use Rattle.bf_block.specs.Block.{BlockValue, leaf_of}
use Rattle.bf_forest.specs.declared.setup.Setup.{Setup}
use Rattle.bf_forest.specs.Setup.{case_of, every_setup_is_valid}
use Rattle.bf_core.specs.declared.event.Event.{Event}
use Rattle.bf_core.specs.declared.outcome.Outcome.TheVariants.{Finished, Lost, Memory}
use Rattle.bf_core.specs.Legal.{is_memory}
use Rattle.bf_core.specs.States.{is_finished}
use Rattle.bf_world.specs.Runs.{run_after, is_journal}
use Rattle.bf_world.specs.Worlds.{IsView, core_after}
use Rattle.bf_drive.specs.Drives.{IsDriven}
use Rattle.bf_forest.specs.Goods.{IsGood}
use Rattle.bf_forest.specs.Leaves.{AreLeaves}
use Rattle.bf_forest.specs.Meanings.{forest}
use Rattle.bf_driven.specs.Losses.{EndsByDeaths}
use Rattle.bf_driven.specs.Parcels.{blocks_of, RiseById}
use Rattle.bf_cli.specs.Answers.{model_text}
use Rattle.bf_cli.specs.Driven.{ForestWorld, HasRun, outcome_of}

-- what is known of every finished run, and of its leaves in order
abbrev pub HasLeaves : Type 0
HasLeaves = (setup : Setup) (journal : List Event) → IsTrue (is_journal forest setup journal)
    → (core_after forest setup journal).outcome ≡ Some Finished
    → AreLeaves (model (case_of setup) (case_of setup).steps) (blocks_of (run_after forest setup journal).parcels)

abbrev pub AreInOrder : Type 0
AreInOrder = (c : Case) (time : ℕ) (blocks sorted : List BlockValue) → IsValid c → AreLeaves (model c time) blocks
    → IsPermutation blocks sorted → RiseById sorted
    → map leaf_of sorted ≡ model c time

pub finished_text : {X : Type 0} (block_of : X → BlockValue) (world : ForestWorld) (leaves : List X) → HasLeaves → AreInOrder → IsView forest world → outcome_of world ≡ Some Finished
    → IsPermutation (blocks_of world.parcels) (map block_of leaves)
    → RiseById (map block_of leaves)
    → map_text (map (λ x. leaf_of (block_of x)) leaves) ≡ model_text (case_of world.setup)
finished_text block_of world leaves has order is finished same rising =
    let c = case_of world.setup in
    let its : AreLeaves (model c c.steps) (blocks_of world.parcels) =
    subst (λ l. AreLeaves (model c c.steps) (blocks_of l)) (sym is.parcels) (has world.setup world.journal is.legal finished) in
    ap map_text (sym (map-map leaf_of block_of leaves)
    ∙ order c c.steps (blocks_of world.parcels) (map block_of leaves) (every_setup_is_valid world.setup) its same rising)

-- what is known of the end of every complete run
abbrev pub HasEnd : Type 0
HasEnd = (setup : Setup) (journal : List Event) → IsTrue (is_journal forest setup journal)
    → IsTrue (is_finished (core_after forest setup journal)) → IsTrue (is_some (core_after forest setup journal).outcome)

-- what is known of who died in it
abbrev pub HasDeaths : Type 0
HasDeaths = (setup : Setup) (journal : List Event) → IsTrue (is_journal forest setup journal)
    → IsTrue (is_finished (core_after forest setup journal)) → EndsByDeaths setup journal

-- the ranks have run the case of their world
pub has_run : (c : Case) (w : ForestWorld) → HasEnd → HasDeaths → IsView forest w → case_of w.setup ≡ c → IsTrue (is_finished (core_after forest w.setup w.journal))
    → IsDriven forest IsGood w.setup c.order w.journal → HasRun w
has_run c w has_end has_deaths view is complete driven = record {
  legal = view.legal;
  driven = subst (λ (k : Case). IsDriven forest IsGood w.setup k.order w.journal) (sym is) driven;
  complete = complete;
  ended = has_end w.setup w.journal view.legal complete;
  deaths = has_deaths w.setup w.journal view.legal complete;
}

-- what is known of every complete run of a case in which nobody is to die
abbrev pub EndsWell : Type 0
EndsWell = (setup : Setup) (journal : List Event) → (case_of setup).dies ≡ []
    → IsTrue (is_journal forest setup journal) → IsTrue (is_finished (core_after forest setup journal))
    → ((core_after forest setup journal).outcome ≡ Some Finished)
    ⊎ (((core_after forest setup journal).outcome ≡ Some Memory) × IsTrue (list_any is_memory journal))

-- so it is not lost
pub not_lost : (w : ForestWorld) (time home buddy : ℕ) → EndsWell → HasRun w → (case_of w.setup).dies ≡ [] → outcome_of w ≡ Some (Lost time home buddy) → ⊥
not_lost w time home buddy ends_well run nobody lost =
    elim (ends_well w.setup w.journal nobody run.legal run.complete) [
      | inl finished ↦ absurd (let no : Some Finished ≡ Some (Lost time home buddy) = sym finished ∙ lost in cc)
      | inr wanting ↦ absurd (let no : Some Memory ≡ Some (Lost time home buddy) = sym wanting.0 ∙ lost in cc)
    ]
