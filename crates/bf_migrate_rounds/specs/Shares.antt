-- What each rank has before the round, on the way and after it, where old leaves and new ones have these owners.
use Rattle.std.specs.Prelude.{◌≡◌, ℕ, not, Contains, List, [], ◌∷◌, filter, map}
use Rattle.std.specs.Option.{option_map_or}
use Rattle.bf_id.specs.Id.{BlockId}
use Rattle.bf_buddy.specs.Members.{is_member}
use Rattle.bf_cells.specs.Grid.{grid_with}
use Rattle.bf_case.specs.declared.case.Case.{Case}
use Rattle.bf_case.specs.declared.target.Target.{Target}
use Rattle.bf_case.specs.Map.{cells_at, ids_of}
use Rattle.bf_case.specs.Model.{model}
use Rattle.bf_case.specs.Refinement.{is_among}
use Rattle.bf_case.specs.Regrid.{regridded_ids, target_in}
use Rattle.bf_case.specs.Wishes.{wishes_of}
use Rattle.bf_block.specs.declared.point.Point.{Point}
use Rattle.bf_block.specs.declared.cargo.Cargo.{Cargo}
use Rattle.bf_block.specs.Block.{BlockValue, after_regrid, before_regrid, block_with, map_at}
use Rattle.bf_links.specs.Links.{link_to, links_of}
use Rattle.bf_mark_rounds.specs.Neighbors.{is_own}
use Rattle.bf_migrate.specs.Giving.{Gift, all_sent, gifts_of}
use Rattle.bf_proxy.specs.Homes.{go_into, goes_into, origin_of}
use Rattle.bf_proxy.specs.Proxies.{sources_by}
use Rattle.bf_proxy.specs.declared.proxy.Proxy.{Proxy}
use Rattle.bf_rounds.specs.Courses.{Course}
use Rattle.bf_rounds.specs.Delivering.{delivering}
use Rattle.bf_msg.specs.declared.linked_block.LinkedBlock.{LinkedBlock}
use Rattle.bf_migrate_rounds.specs.Holdings.{Holdings, Migrating, Plan}
use Rattle.bf_migrate_rounds.specs.Plays.{cargo_for, is_two_way, migrate_play}

-- the model's block at a leaf of a point
abbrev pub model_block : Case → Point → BlockId → BlockValue
model_block c p i = block_with c p i (option_map_or (λ g. g) (cells_at (map_at c p) i) (grid_with 0 []))

module _ (c : Case) (time : ℕ) where
  -- the leaves before the regrid of the time, what becomes of each, and the leaves after it
  abbrev pub old_ids : List BlockId
  old_ids = ids_of (model c time)

  abbrev pub target_at : BlockId → Target
  target_at = target_in c (model c time)

  abbrev pub new_ids : List BlockId
  new_ids = regridded_ids c.roots old_ids (wishes_of c (model c time))

  module _ (owner later : BlockId → ℕ) where
    -- a rank's leaves before the regrid, and after it
    abbrev pub own_old : (rank : ℕ) → List BlockId
    own_old rank = filter (is_own owner rank) old_ids

    abbrev pub own_new : (rank : ℕ) → List BlockId
    own_new rank = filter (is_own later rank) new_ids

    abbrev pub block_before : BlockId → LinkedBlock
    block_before i = record { block = model_block c (before_regrid time) i; links = links_of c.roots old_ids owner i }

    abbrev pub block_after : BlockId → LinkedBlock
    block_after q = record { block = model_block c (after_regrid time) q; links = links_of c.roots new_ids later q }

    -- the proxy of a new leaf, as the rank that owned the first of its sources made it, with links that name later owners
    abbrev pub proxy_of : BlockId → Proxy
    proxy_of q = record {
      id = q;
      origin = target_at (origin_of old_ids q);
      sources = map (link_to owner) (sources_by (target_at (origin_of old_ids q)) (origin_of old_ids q));
      links = links_of c.roots new_ids later q;
    }

    abbrev pub with_rank : BlockId → BlockId × ℕ
    with_rank q = (q, later q)

    abbrev pub plan_at : (rank : ℕ) → Plan
    plan_at rank = record {
      rank = rank;
      targets = map with_rank (filter (is_among (go_into target_at (own_old rank))) new_ids);
      proxies = map proxy_of (own_new rank);
    }

    abbrev pub holding_blocks : List LinkedBlock → Holdings
    holding_blocks blocks = record { blocks = blocks; cargo = []; arrived = [] }

    abbrev pub migrating_with : (rank : ℕ) → Holdings → Migrating
    migrating_with rank holds = record { plan = plan_at rank; holds = holds }

    -- before the round blocks are at their owners, and after it at their later owners
    abbrev pub held_before : (rank : ℕ) → Holdings
    held_before rank = holding_blocks (map block_before (own_old rank))

    abbrev pub held_after : (rank : ℕ) → Holdings
    held_after rank = holding_blocks (map block_after (own_new rank))

    abbrev pub migrating_before : (rank : ℕ) → Migrating
    migrating_before rank = migrating_with rank (held_before rank)

    abbrev pub migrating_after : (rank : ℕ) → Migrating
    migrating_after rank = migrating_with rank (held_after rank)

    -- all that a rank's blocks give, and what of it is left with it after some sends
    abbrev pub given_by : (rank : ℕ) → List (ℕ × Cargo)
    given_by rank = all_sent later (map (model_block c (before_regrid time)) (own_old rank))

    abbrev pub left_with : (rank : ℕ) → (done : List ℕ) → List (ℕ × Cargo)
    left_with rank done = filter (λ (x : ℕ × Cargo). not (is_member done x.0)) (given_by rank)

    -- nothing is packed before the first send
    abbrev pub held_sent : (rank : ℕ) → (done : List ℕ) → Holdings
    held_sent rank [] = held_before rank
    held_sent rank (first ∷ done) = record { blocks = []; cargo = left_with rank (first ∷ done); arrived = [] }

    abbrev pub cargo_told : (from to : ℕ) → List Cargo
    cargo_told from to = cargo_for to (given_by from)

    -- a leaf of one rank goes into a new leaf of another
    pub record Flows (from to : ℕ) : Type 0 where
      pub leaf : BlockId
      pub heir : BlockId
      pub has : Contains old_ids leaf
      pub owned : owner leaf ≡ from
      pub goes : Contains (goes_into (target_at leaf) leaf) heir
      pub there : later heir ≡ to

    -- what a leaf of one rank gives to a new leaf of another
    pub record IsCargoFor (from to : ℕ) (cargo : Cargo) : Type 0 where
      pub leaf : BlockId
      pub owned : Contains (own_old from) leaf
      pub gift : Gift
      pub given : Contains (gifts_of (model_block c (before_regrid time) leaf)) gift
      pub proxy : Contains (own_new to) gift.0
      pub is : cargo ≡ gift.1

    module _ (members : List ℕ) where
      abbrev pub two_way_peers : (rank : ℕ) → List ℕ
      two_way_peers rank = filter (is_two_way (plan_at rank)) members

      abbrev pub held_heard : (rank : ℕ) → (arrived : List Cargo) → Holdings
      held_heard rank arrived = record (held_sent rank (two_way_peers rank)) { arrived = arrived }

      abbrev pub migrating_course : Course Migrating (List Cargo)
      migrating_course =
          delivering migrate_play (λ peer msg. msg) cargo_told (λ rank done. migrating_with rank (held_sent rank done))
          (λ rank arrived. migrating_with rank (held_heard rank arrived)) members migrating_before
