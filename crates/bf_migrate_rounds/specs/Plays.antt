-- The play of the round.
use Rattle.std.specs.Prelude.{ℕ, ◌==◌, ◌&&◌, ◌||◌, not, Bool, List, [], ◌∷◌, ◌++◌, filter, find, flat_map, map}
use Rattle.std.specs.List.{list_any}
use Rattle.std.specs.Option.{option_map_or}
use Rattle.bf_id.specs.Id.{BlockId, children_of, id_eq}
use Rattle.bf_case.specs.declared.target.Target.{Target}
use Rattle.bf_case.specs.declared.target.Target.TheVariants.{Keep, Refine, Merge}
use Rattle.bf_block.specs.Block.{BlockValue}
use Rattle.bf_block.specs.Eighth.{EighthValue, merged_block}
use Rattle.bf_block.specs.declared.cargo.Cargo.{Cargo}
use Rattle.bf_block.specs.declared.cargo.Cargo.TheVariants.{Whole, Piece}
use Rattle.bf_links.specs.Links.{is_owner}
use Rattle.bf_migrate.specs.Giving.{all_sent}
use Rattle.bf_migrate.specs.Lots.{cargo_id}
use Rattle.bf_proxy.specs.declared.proxy.Proxy.{Proxy}
use Rattle.bf_rounds.specs.Delivering.{Delivery}
use Rattle.bf_msg.specs.declared.linked_block.LinkedBlock.{LinkedBlock}
use Rattle.bf_migrate_rounds.specs.Holdings.{Holdings, Migrating, Plan, blocks_in, loads, on_hand}

-- another rank that has a proxy into which a block of this one goes, or that owns a source of one of its proxies
abbrev pub is_two_way : Plan → (other : ℕ) → Bool
is_two_way plan other =
    not (other == plan.rank)
    && (list_any (λ (target : BlockId × ℕ). target.1 == other) plan.targets || list_any (λ (proxy : Proxy). is_owner proxy.sources other) plan.proxies)

-- the rank that has a proxy, by the targets
abbrev pub rank_in : (targets : List (BlockId × ℕ)) → BlockId → ℕ
rank_in targets q = option_map_or (λ (target : BlockId × ℕ). target.1) (find (λ (target : BlockId × ℕ). id_eq target.0 q) targets) 0

-- all blocks become cargo; where none is left, nothing changes
abbrev pub packed : Plan → Holdings → Holdings
packed plan holds = record holds { blocks = []; cargo = holds.cargo ++ all_sent (rank_in plan.targets) (blocks_in holds.blocks) }

-- the cargo for a rank, and what is left without it
abbrev pub cargo_for : (to : ℕ) → List (ℕ × Cargo) → List Cargo
cargo_for to cargo = loads (filter (λ (x : ℕ × Cargo). x.0 == to) cargo)

abbrev pub cargo_without : (to : ℕ) → List (ℕ × Cargo) → List (ℕ × Cargo)
cargo_without to cargo = filter (λ (x : ℕ × Cargo). not (x.0 == to)) cargo

-- the cargo that has the box of a block
abbrev pub cargo_of : List Cargo → BlockId → List Cargo
cargo_of cargo i = filter (λ (x : Cargo). id_eq (cargo_id x) i) cargo

-- the whole blocks among cargo, and the eighths
abbrev pub wholes : List Cargo → List BlockValue
wholes [] = []
wholes (Whole b ∷ cargo) = b ∷ wholes cargo
wholes (Piece e ∷ cargo) = wholes cargo

abbrev pub eighths : List Cargo → List EighthValue
eighths [] = []
eighths (Whole b ∷ cargo) = eighths cargo
eighths (Piece e ∷ cargo) = e ∷ eighths cargo

-- the parent that eighths make
abbrev pub merged_of : BlockId → List EighthValue → List BlockValue
merged_of q [] = []
merged_of q (e ∷ parts) = merged_block e.case e.point.time q (e ∷ parts) ∷ []

-- the block that cargo makes for a proxy: the whole one with its id, or where leaves merge into it that of their eighths, by octant
abbrev pub made_of : Target → List Cargo → BlockId → List BlockValue
made_of Keep cargo q = wholes (cargo_of cargo q)
made_of Refine cargo q = wholes (cargo_of cargo q)
made_of Merge cargo q = merged_of q (eighths (flat_map (cargo_of cargo) (children_of q)))

abbrev pub with_links : Proxy → BlockValue → LinkedBlock
with_links proxy b = record { block = b; links = proxy.links }

-- the blocks of proxies, each with the proxy's links
abbrev pub assembled : List Proxy → List Cargo → List LinkedBlock
assembled proxies cargo = flat_map (λ (proxy : Proxy). map (with_links proxy) (made_of proxy.origin cargo proxy.id)) proxies

abbrev pub ended : Plan → Holdings → Holdings
ended plan holds = record { blocks = assembled plan.proxies (on_hand holds); cargo = []; arrived = [] }

abbrev pub migrate_play : Delivery Migrating (List Cargo)
migrate_play = record {
  peers = λ members local. filter (is_two_way local.plan) members;
  out = λ local to. (
    record local { holds = record (packed local.plan local.holds) { cargo = cargo_without to (packed local.plan local.holds).cargo } },
    cargo_for to (packed local.plan local.holds).cargo,
  );
  hear = λ local peer msg. record local { holds = record local.holds { arrived = local.holds.arrived ++ msg } };
  finish = λ local. record local { holds = ended local.plan (packed local.plan local.holds) };
}
