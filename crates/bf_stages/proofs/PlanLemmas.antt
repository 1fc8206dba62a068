-- The stages of an epoch that is planned: what holds of all, the first, which round has which, and a chain of them.
use Rattle.std.proofs.Common.{◌≡◌, ℕ, suc, zero, ◌+◌, ◌*◌, ◌<◌, ◌≤◌, List, [], ◌∷◌, ◌++◌, length, arith, refl, ap, sym, ◌∙◌, subst}
use Rattle.std.specs.Prelude.{All, slice_index_or}
use Rattle.std.specs.List.{flat_map, range_with_len}
use Rattle.std.proofs.lemmas.List.{append_assoc, length-append, get_or_append_left, get_or-append-add}
use Rattle.std.proofs.lemmas.List.Elements.{All-nil, All-cons, All-append}
use Rattle.bf_program.specs.declared.epoch.Epoch.{Epoch}
use Rattle.bf_stages.specs.Plans.{span, IsShort, Plan, stages_from, stages_of, rounds_of, stage_of}
use Rattle.bf_stages.specs.Stages.{head_of, Chain}
use Rattle.bf_stages.proofs.ChainLemmas.{beyond}
use Rattle.bf_stages.proofs.StageLemmas.{times_chain}

pub span_few : (epoch : Epoch) → span epoch ≤ 128
unfolding span
span_few epoch = omega arith

-- the steps of a short epoch lead to its target
pub span_whole : (epoch : Epoch) → IsShort epoch → epoch.time + span epoch ≡ epoch.target
unfolding span
span_whole epoch short = omega (arith, short.forth, short.near)

module _ {G : Type 0} (plan : Plan G) where
  -- the stages of one step more
  one_more : (time count : ℕ) → stages_from plan time (suc count) ≡ plan.in_step time ++ stages_from plan (time + 1) count
  one_more time count = append_assoc (plan.in_step time) (flat_map plan.in_step (range_with_len (time + 1) count)) (plan.snapshot ∷ [])

  -- what holds of the stages of each step and of the snapshot's
  pub all_stages : (P : G → Type 0) → ((time : ℕ) → All P (plan.in_step time)) → P plan.snapshot → (time count : ℕ) → All P (stages_from plan time count)
  all_stages P each last time zero = All-cons P plan.snapshot [] last (All-nil P)
  all_stages P each last time (suc count) =
      subst (All P) (sym (one_more time count)) (All-append P (plan.in_step time) (stages_from plan (time + 1) count) (each time) (all_stages P each last (time + 1) count))

  -- the first of them
  pub first_stage : (P : G → Type 0) (gate : ℕ → G) → ((time : ℕ) (other : G) → head_of (plan.in_step time) other ≡ gate time)
      → (time count : ℕ) → P (gate time) → (count ≡ 0 → P plan.snapshot) → P (head_of (stages_from plan time count) plan.over)
  first_stage P gate heads time zero first none = none refl
  first_stage P gate heads time (suc count) first none =
      subst (λ (xs : List G). P (head_of xs plan.over)) (sym (one_more time count)) (subst P (sym (begun (plan.in_step time) (stages_from plan (time + 1) count) (heads time))) first)
    where
      begun : (xs ys : List G) → ((other : G) → head_of xs other ≡ gate time) → head_of (xs ++ ys) plan.over ≡ gate time
      begun [] ys heads = heads (head_of ys plan.over)
      begun (x ∷ xs) ys heads = heads plan.over

  -- where each step has so many
  module _ (size : ℕ) (sized : (time : ℕ) → length (plan.in_step time) ≡ size) where
    pub stages_many : (time count : ℕ) → length (stages_from plan time count) ≡ size * count + 1
    stages_many time zero = omega arith
    stages_many time (suc count) =
        ap length (one_more time count) ∙ length-append (plan.in_step time) (stages_from plan (time + 1) count)
        ∙ counted size count _ _ (sized time) (stages_many (time + 1) count)
      where
        counted : (size count a b : ℕ) → a ≡ size → b ≡ size * count + 1 → a + b ≡ size * suc count + 1
        counted size count a b first rest = grind (arith, first, rest)

    pub rounds_many : (epoch : Epoch) → rounds_of plan epoch ≡ size * span epoch + 1
    rounds_many epoch = stages_many epoch.time (span epoch)

    -- what stands behind those of the first step
    later : (time count round : ℕ) → slice_index_or (stages_from plan time (suc count)) (size + round) plan.over ≡ slice_index_or (stages_from plan (time + 1) count) round plan.over
    later time count round =
        ap (λ (xs : List G). slice_index_or xs (size + round) plan.over) (one_more time count)
        ∙ ap (λ n. slice_index_or (plan.in_step time ++ stages_from plan (time + 1) count) (n + round) plan.over) (sym (sized time))
        ∙ get_or-append-add (plan.in_step time) (stages_from plan (time + 1) count) round plan.over

    -- the stages of a step, by their places
    in_step_at : (time count k j : ℕ) → k < count → j < size → slice_index_or (stages_from plan time count) (size * k + j) plan.over ≡ slice_index_or (plan.in_step (time + k)) j plan.over
    in_step_at time zero k j below within = absurd (omega (arith, below))
    in_step_at time (suc count) zero j below within =
        let here : size * 0 + j ≡ j = omega arith in
        let now : time ≡ time + 0 = omega arith in
        ap (λ n. slice_index_or (stages_from plan time (suc count)) n plan.over) here
        ∙ ap (λ (xs : List G). slice_index_or xs j plan.over) (one_more time count)
        ∙ get_or_append_left (plan.in_step time) (stages_from plan (time + 1) count) plan.over j (omega (arith, within, sized time))
        ∙ ap (λ t. slice_index_or (plan.in_step t) j plan.over) now
    in_step_at time (suc count) (suc k) j below within =
        let further : size * suc k + j ≡ size + (size * k + j) = grind arith in
        let then : time + 1 + k ≡ time + suc k = omega arith in
        ap (λ n. slice_index_or (stages_from plan time (suc count)) n plan.over) further
        ∙ later time count (size * k + j)
        ∙ in_step_at (time + 1) count k j (omega (arith, below)) within
        ∙ ap (λ t. slice_index_or (plan.in_step t) j plan.over) then

    last_at : (time count : ℕ) → slice_index_or (stages_from plan time count) (size * count) plan.over ≡ plan.snapshot
    last_at time zero = let first : size * 0 ≡ 0 = omega arith in ap (λ n. slice_index_or (plan.snapshot ∷ []) n plan.over) first
    last_at time (suc count) =
        let further : size * suc count ≡ size + size * count = grind arith in
        ap (λ n. slice_index_or (stages_from plan time (suc count)) n plan.over) further ∙ later time count (size * count) ∙ last_at (time + 1) count

    pub stage_in : (epoch : Epoch) (round k j : ℕ) → k < span epoch → j < size → round ≡ size * k + j → slice_index_or (plan.in_step (epoch.time + k)) j plan.over ≡ stage_of plan epoch round
    unfolding stage_of
    stage_in epoch round k j below within is =
        sym (ap (λ n. slice_index_or (stages_of plan epoch) n plan.over) is ∙ in_step_at epoch.time (span epoch) k j below within)

    pub stage_last : (epoch : Epoch) (round : ℕ) → size * span epoch ≡ round → plan.snapshot ≡ stage_of plan epoch round
    unfolding stage_of
    stage_last epoch round is = sym (ap (λ n. slice_index_or (stages_of plan epoch) n plan.over) (sym is) ∙ last_at epoch.time (span epoch))

    pub stage_past : (epoch : Epoch) (round : ℕ) → size * span epoch < round → plan.over ≡ stage_of plan epoch round
    unfolding stage_of
    stage_past epoch round past = sym (beyond (stages_of plan epoch) plan.over round (omega (arith, past, rounds_many epoch)))

  -- stages that lead to each other, from the gate of each step to that of the next
  pub plan_chain : (R : G → G → Type 0) (gate : ℕ → G) → ((time : ℕ) (other : G) → head_of (plan.in_step time) other ≡ gate time)
      → (epoch : Epoch) → IsShort epoch → ((time : ℕ) → Chain R (plan.in_step time) (gate (time + 1))) → ((time : ℕ) → time + 1 ≡ epoch.target → Chain R (plan.in_step time) plan.snapshot)
      → R plan.snapshot plan.over → Chain R (stages_of plan epoch) plan.over
  plan_chain R gate heads epoch short inner outer end =
      times_chain R plan.in_step gate (plan.snapshot ∷ []) plan.over epoch.time (span epoch) heads
      (λ time low high. inner time) (λ time low last. outer time (last ∙ span_whole epoch short)) (end, tt)
