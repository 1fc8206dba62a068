use Rattle.std.proofs.Common.{rules, ◌≡◌, ◌+◌, ◌<◌, ◌≤◌, ◌∙◌, [], ◌∷◌, ◌++◌, length, map, drop, get_or, ap, arith}
use Rattle.std.proofs.lemmas.List.{drop_all, take_all}
use Rattle.bf_block.specs.declared.cargo.Cargo.TheVariants.{Piece}
use Rattle.bf_migrate.proofs.LotLemmas.{eighth_next, eighth_taken}
use Rattle.bf_migrate.proofs.assembling.octet.Goals as goal

pub loop-init : goal.loop-init
loop-init c = λ more rest seven is. (search rules, is)

pub next_eighth-requires : goal.next_eighth-requires
next_eighth-requires c =
    let more = c.requires.0 in
    let rest = c.requires.1.0 in
    let seven : length more ≡ 7 = c.requires.1.1.0 in
    let below : c.loop.counter < length more = omega (arith, c.loop-test.true, seven) in (
      get_or more c.loop.counter c.args.first,
      (
        map Piece (drop (c.loop.counter + 1) more) ++ rest,
        eighth_next more c.loop.counter c.args.first rest _ below (c.loop.invariant more rest seven c.requires.1.1.1).1,
      ),
    )

pub loop-preserved : goal.loop-preserved
loop-preserved c = λ more rest seven is.
    let k = c.loop.counter in
    let first = c.args.first in
    let below : k < length more = omega (arith, c.loop-test.true, seven) in
    let so_far = c.loop.invariant more rest seven is in
    let taken = c.next_eighth.ensures (get_or more k first) (map Piece (drop (k + 1) more) ++ rest) (eighth_next more k first rest _ below so_far.1) in
    let pushed : c.push-in-loop.new.self.items ≡ c.loop.parts.items ++ c.next_eighth.result ∷ [] = search rules in
    (eighth_taken first more c.loop.parts.items c.push-in-loop.new.self.items k c.next_eighth.result below so_far.0 taken.0 pushed, taken.1)

pub returns : goal.returns
returns c = λ more rest seven is.
    let so_far = c.loop.invariant more rest seven is in
    let all : length more ≤ c.loop.counter = omega (arith, c.loop-test.false, seven) in
    (so_far.0 ∙ ap (λ es. c.args.first ∷ es) (take_all c.loop.counter more all), so_far.1 ∙ ap (λ es. map Piece es ++ rest) (drop_all c.loop.counter more all))
