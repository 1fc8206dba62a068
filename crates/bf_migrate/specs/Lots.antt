-- What the blocks of proxies are made of.
use Rattle.std.specs.Prelude.{◌≡◌, ℕ, List, [], ◌∷◌, ◌++◌, map, AllPairs, IsPermutation}
use Rattle.bf_id.specs.Id.{BlockId}
use Rattle.bf_id.specs.Walk.{IsBefore}
use Rattle.bf_case.specs.declared.case.Case.{Case}
use Rattle.bf_block.specs.declared.cargo.Cargo.{Cargo}
use Rattle.bf_block.specs.declared.cargo.Cargo.TheVariants.{Whole, Piece}
use Rattle.bf_block.specs.Block.{BlockValue, after_regrid}
use Rattle.bf_block.specs.Eighth.{EighthValue, AreOctet}
use Rattle.bf_proxy.specs.declared.proxy.Proxy.{Proxy}

-- the id of the block that has the cargo's box
abbrev pub cargo_id : Cargo → BlockId
cargo_id (Whole b) = b.id
cargo_id (Piece e) = e.id

-- cargo that makes one block: that block, or eighths
pub data Lot : Type 0 where
  Ready : BlockValue → Lot
  Octet : List EighthValue → Lot

abbrev pub cargo_in : Lot → List Cargo
cargo_in (Ready b) = Whole b ∷ []
cargo_in (Octet parts) = map Piece parts

-- a block of this case, after the regrid of a time, of this id
pub record IsBlockAt (c : Case) (time : ℕ) (q : BlockId) (b : BlockValue) : Type 0 where
  pub case : b.case ≡ c
  pub point : b.point ≡ after_regrid time
  pub id : b.id ≡ q

-- the lot makes the block of a proxy: it is that block, or has the eighths of its children by octant
abbrev pub IsLotOf : Case → ℕ → BlockId → Lot → Type 0
IsLotOf c time q (Ready b) = IsBlockAt c time q b
IsLotOf c time q (Octet parts) = AreOctet c time q parts

-- for each proxy in turn a lot
abbrev pub AreLots : Case → ℕ → List Proxy → List Cargo → Type 0
AreLots c time [] cargo = cargo ≡ []
AreLots c time (proxy ∷ proxies) cargo = (lot : Lot) × ((rest : List Cargo) × ((cargo ≡ cargo_in lot ++ rest) × (IsLotOf c time proxy.id lot × AreLots c time proxies rest)))

abbrev pub AreCargoRising : List Cargo → Type 0
AreCargoRising cargo = AllPairs (λ x y. IsBefore (cargo_id x) (cargo_id y)) cargo

-- by rising id the cargo is for each proxy in turn a lot: exactly what the proxies' sources give
pub record Makes (c : Case) (time : ℕ) (proxies : List Proxy) (cargo : List Cargo) : Type 0 where
  pub ordered : List Cargo
  pub same : IsPermutation cargo ordered
  pub rising : AreCargoRising ordered
  pub lots : AreLots c time proxies ordered

-- for each proxy in turn its block
abbrev pub AreBlocksOf : Case → ℕ → List Proxy → List BlockValue → Type 0
AreBlocksOf c time [] blocks = blocks ≡ []
AreBlocksOf c time (proxy ∷ proxies) blocks = (b : BlockValue) × ((rest : List BlockValue) × ((blocks ≡ b ∷ rest) × (IsBlockAt c time proxy.id b × AreBlocksOf c time proxies rest)))
