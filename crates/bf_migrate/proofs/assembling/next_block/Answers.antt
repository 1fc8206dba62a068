use Rattle.std.proofs.Common.{rules, ◌≡◌, ◌∷◌, List, sym, subst}
use Rattle.std.specs.Vec.Iter.{into_iter_items}
use Rattle.bf_block.specs.declared.cargo.Cargo.TheVariants.{Whole, Piece}
use Rattle.bf_block.specs.Eighth.{EighthValue, AreOctet}
use Rattle.bf_migrate.proofs.LotLemmas.{whole_front, piece_front, merged_at}
use Rattle.bf_migrate.proofs.assembling.next_block.Goals as goal

pub returns-in-Some-Whole : goal.returns-in-Some-Whole
returns-in-Some-Whole c = λ case time q lot rest is front.
    let found : into_iter_items c.args.cargo.now ≡ Whole c.in-Some-Whole.block ∷ into_iter_items c.next.new.self = search rules in
    whole_front case time q lot rest (into_iter_items c.next.new.self) (into_iter_items c.args.cargo.now) c.in-Some-Whole.block is front found

pub octet-requires : goal.octet-requires
octet-requires c =
    let found : into_iter_items c.args.cargo.now ≡ Piece c.in-Some-Piece.eighth ∷ into_iter_items c.next.new.self = search rules in
    let r = c.requires in
    let at = piece_front r.0 r.1.0 r.1.1.0 r.1.1.1.0 r.1.1.1.1.0 (into_iter_items c.next.new.self) (into_iter_items c.args.cargo.now) c.in-Some-Piece.eighth r.1.1.1.1.1.0 r.1.1.1.1.1.1 found in
    (at.more, (r.1.1.1.1.0, (at.seven, at.left)))

pub merged-requires : goal.merged-requires
merged-requires c =
    let found : into_iter_items c.args.cargo.now ≡ Piece c.in-Some-Piece.eighth ∷ into_iter_items c.next.new.self = search rules in
    let r = c.requires in
    let at = piece_front r.0 r.1.0 r.1.1.0 r.1.1.1.0 r.1.1.1.1.0 (into_iter_items c.next.new.self) (into_iter_items c.args.cargo.now) c.in-Some-Piece.eighth r.1.1.1.1.1.0 r.1.1.1.1.1.1 found in
    let parts = c.in_ok-parts-in-Some-Piece.ensures at.more r.1.1.1.1.0 at.seven at.left in
    (r.0, (r.1.0, (r.1.1.0, subst (λ (es : List EighthValue). AreOctet r.0 r.1.0 r.1.1.0 es) (sym parts.0) at.octet)))

pub returns-in-Ok : goal.returns-in-Ok
returns-in-Ok c = λ case time q lot rest is front.
    let found : into_iter_items c.args.cargo.now ≡ Piece c.in-Some-Piece.eighth ∷ into_iter_items c.next.new.self = search rules in
    let at = piece_front case time q lot rest (into_iter_items c.next.new.self) (into_iter_items c.args.cargo.now) c.in-Some-Piece.eighth is front found in
    let parts = c.in_ok-parts-in-Some-Piece.ensures at.more rest at.seven at.left in
    let octet : AreOctet case time q c.in_ok-parts-in-Some-Piece.parts.items = subst (λ (es : List EighthValue). AreOctet case time q es) (sym parts.0) at.octet in
    (merged_at case time q c.in_ok-parts-in-Some-Piece.parts.items c.in-Ok.block (c.in-Ok.ensures.block case time q octet), parts.1)
