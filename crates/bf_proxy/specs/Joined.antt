-- Links by rising id, put together.
use Rattle.std.specs.Prelude.{◌≡◌, List, [], ◌∷◌, Contains}
use Rattle.std.specs.declared.cmp.Ordering.{Ordering}
use Rattle.std.specs.declared.cmp.Ordering.TheVariants.{Less, Equal, Greater}
use Rattle.bf_id.specs.Id.{id_cmp}
use Rattle.bf_links.specs.declared.link.Link.{Link}

-- what comes of a link, by how it stands to the first of those in order; one to the same leaf is left out
abbrev pub put_by : Ordering → Link → Link → (rest later : List Link) → List Link
put_by Less x y rest later = x ∷ y ∷ rest
put_by Equal x y rest later = y ∷ rest
put_by Greater x y rest later = y ∷ later

-- a link put at its place among links by rising id
unfoldable pub put : Link → List Link → List Link
put x [] = x ∷ []
put x (y ∷ ys) = put_by (id_cmp x.id y.id) x y ys (put x ys)

-- the links of both lists, where the second is in order: each of the first is put at its place
unfoldable pub joined : (more links : List Link) → List Link
joined [] links = links
joined (x ∷ more) links = joined more (put x links)

-- links to one leaf are one: they name the same owner
abbrev pub AgreeOnOwners : (more links : List Link) → Type 0
AgreeOnOwners more links = (x y : Link) → Contains more x → Contains links y → x.id ≡ y.id → x.owner ≡ y.owner
