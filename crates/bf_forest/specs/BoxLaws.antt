-- The pieces are the boxes of blocks, which tile the domain.
use Rattle.std.proofs.Common.{◌≡◌, ℕ, ◌*◌, ◌<◌, true, [], map, arith, refl, sym}
use Rattle.std.specs.Prelude.{◌&&◌, nat_lt}
use Rattle.std.specs.List.{count_by}
use Rattle.std.proofs.lemmas.Bool.{and_parts}
use Rattle.std.proofs.lemmas.Bool.Decides.{nat_tests}
use Rattle.std.proofs.lemmas.List.{append-nil}
use Rattle.bf_program.specs.declared.epoch.Epoch.{Epoch}
use Rattle.bf_id.specs.declared.shape.Shape.{Shape}
use Rattle.bf_id.specs.Cube.{Voxel, holds}
use Rattle.bf_id.specs.Id.{BlockId}
use Rattle.bf_id.specs.Shape.{InDomain, root_edge}
use Rattle.bf_case.specs.declared.case.Case.{Case}
use Rattle.bf_case.specs.Case.{IsValid}
use Rattle.bf_block.specs.declared.point.Point.{Point}
use Rattle.bf_forest.specs.declared.setup.Setup.{Setup}
use Rattle.bf_msg.specs.LinkedBlocks.{linked_kind}
use Rattle.bf_forest.specs.Setup.{case_of, every_setup_is_valid}
use Rattle.bf_stages.specs.Stages.{HasPieces}
use Rattle.bf_forest.specs.declared.stage.Stage.{Stage}
use Rattle.bf_forest.specs.BlockLaws.{one_holds}
use Rattle.bf_forest.specs.Meanings.{forest, pieces, box_in, in_domain}
use Rattle.bf_forest.specs.ModelBlocks.{blocks_on}
use Rattle.bf_forest.specs.Staging.{leaves_in, point_in, forest_staging}

in_domain_tells : (shape : Shape) (v : Voxel) → in_domain shape v ≡ true → InDomain shape v
in_domain_tells shape v passes =
    let outer = and_parts (nat_lt v.x (root_edge * shape.nx)) (nat_lt v.y (root_edge * shape.ny) && nat_lt v.z (root_edge * shape.nz)) passes in
    let inner = and_parts (nat_lt v.y (root_edge * shape.ny)) (nat_lt v.z (root_edge * shape.nz)) outer.1 in
    record { along_x = below v.x (root_edge * shape.nx) outer.0; along_y = below v.y (root_edge * shape.ny) inner.0; along_z = below v.z (root_edge * shape.nz) inner.1 }
  where
    below : (a b : ℕ) → nat_lt a b ≡ true → a < b
    below a b is = grind (arith, nat_tests)

leaf_holds : (c : Case) (p : Point) (owner : BlockId → ℕ) (unit : Voxel) → IsValid c → in_domain c.roots unit ≡ true
    → count_by (λ key. holds (box_in ((blocks_on c p).item owner key)) unit) (blocks_on c p).keys ≡ 1
unfolding blocks_on
leaf_holds c p owner unit valid inside = one_holds c p unit valid (in_domain_tells c.roots unit inside)

pub boxes : (setup : Setup) → HasPieces forest forest_staging linked_kind setup pieces box_in (λ local. [])
boxes setup = record {
  blind = λ f item unit. refl;
  of_local = λ local. sym (append-nil (map box_in local.blocks));
  of_saved = λ side rank home. refl;
  of_parcel = λ local. refl;
  parcel_items = λ local. refl;
  parcel_cargo = λ local. refl;
  keep_cargo = λ local. refl;
  fresh_cargo = λ view epoch rank. refl;
  no_cargo = λ epoch stage view owner rank runs. refl;
  once = λ epoch stage owner unit runs within. at stage epoch owner unit within;
}
  where
    at : (stage : Stage) (epoch : Epoch) (owner : BlockId → ℕ) (unit : Voxel) → in_domain (case_of setup).roots unit ≡ true
        → count_by (λ key. holds (box_in ((leaves_in (case_of setup) epoch stage).item owner key)) unit) (leaves_in (case_of setup) epoch stage).keys ≡ 1
    at stage epoch owner unit within = leaf_holds (case_of setup) (point_in (case_of setup) epoch stage) owner unit (every_setup_is_valid setup) within
