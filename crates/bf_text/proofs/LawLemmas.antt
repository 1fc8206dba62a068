-- The canonical text of a valid case is read as that case.
use Rattle.std.proofs.Common.{◌≡◌, ℕ, ◌*◌, ◌%◌, ◌<◌, ◌≤◌, ◌^◌, Bool, true, false, ◌&&◌, ltb, leb, List, [], ◌∷◌, ◌++◌, Option, None, Result, length, replicate, refl, ap, subst, append_assoc, arith, lit<}
use Rattle.std.specs.Prelude.{decimal, codes}
use Rattle.std.specs.List.{list_all}
use Rattle.std.specs.Str.{bytes_eq}
use Rattle.std.proofs.lemmas.Bool.{and_from, le-leb, lt-ltb, le-ltb, eq-eqb}
use Rattle.std.proofs.lemmas.Fmt.{decimal_digit}
use Rattle.bf_id.specs.Shape.{root_count}
use Rattle.bf_case.specs.declared.case.Case.{Case}
use Rattle.bf_case.specs.Case.{IsValid, cell_limit}
use Rattle.bf_case.specs.CaseText.{line, head_text}
use Rattle.bf_text.specs.declared.code.Refusal.{Refusal}
use Rattle.bf_text.specs.declared.form.Range.{Range}
use Rattle.bf_text.specs.declared.form.Form.TheVariants as form
use Rattle.bf_text.specs.declared.outline.Outline.{Outline}
use Rattle.bf_text.specs.Forms.{is_within, from_to, up_to, word_range}
use Rattle.bf_text.specs.Drafts.{blank_outline, outline_with}
use Rattle.bf_text.proofs.TextLemmas.{is_letter}
use Rattle.bf_text.proofs.CanonLemmas.{IsSound, Reaches, step}

within : (r : Range) (n : ℕ) → r.least ≤ n → n ≤ r.greatest → is_within r n ≡ true
within r n low high = and_from (leb r.least n) (leb n r.greatest) (le-leb r.least n low) (le-leb n r.greatest high)

one_small : (n : ℕ) → n < 2 ^ 32 → (ltb n (2 ^ 32) && true) ≡ true
one_small n fits = and_from (ltb n (2 ^ 32)) true (lt-ltb n (2 ^ 32) fits) refl

-- the outline once all headings have come
abbrev pub whole_outline : Case → List (Option ℕ) → Bool → Outline
whole_outline c deaths ended = record {
  next = 13;
  ended = ended;
  head = record {
    roots = c.roots;
    side = c.side;
    levels = c.levels;
    ranks = c.ranks;
    steps = c.steps;
    snapshot = c.snapshot;
    regrid = c.regrid;
    refine = c.refine;
    coarsen = c.coarsen;
    flow = c.flow;
    turns = c.turns;
    shift = c.shift;
  };
  deaths = deaths;
}

header_sound : IsSound blank_outline form.Forest (1 ∷ [])
header_sound = record {
  header = let one : decimal 1 ≡ 49 ∷ [] = decimal_digit 1 (lit< tt) in ap (λ d. bytes_eq d (codes "1")) one;
  unended = refl;
  placed = refl;
  fresh = refl;
  counted = refl;
  fits = refl;
}

-- ---- the outline after each heading

abbrev o0 : Case → Outline
o0 c = blank_outline

abbrev o1 : Case → Outline
o1 c = outline_with (o0 c) form.Forest (1 ∷ [])

abbrev o2 : Case → Outline
o2 c = outline_with (o1 c) form.Roots (c.roots.nx ∷ c.roots.ny ∷ c.roots.nz ∷ [])

abbrev o3 : Case → Outline
o3 c = outline_with (o2 c) form.Side (c.side ∷ [])

abbrev o4 : Case → Outline
o4 c = outline_with (o3 c) form.Levels (c.levels ∷ [])

abbrev o5 : Case → Outline
o5 c = outline_with (o4 c) form.Ranks (c.ranks ∷ [])

abbrev o6 : Case → Outline
o6 c = outline_with (o5 c) form.Steps (c.steps ∷ [])

abbrev o7 : Case → Outline
o7 c = outline_with (o6 c) form.Snapshot (c.snapshot ∷ [])

abbrev o8 : Case → Outline
o8 c = outline_with (o7 c) form.Regrid (c.regrid ∷ [])

abbrev o9 : Case → Outline
o9 c = outline_with (o8 c) form.Refine (c.refine ∷ [])

abbrev o10 : Case → Outline
o10 c = outline_with (o9 c) form.Coarsen (c.coarsen ∷ [])

abbrev o11 : Case → Outline
o11 c = outline_with (o10 c) form.Flow (c.flow ∷ [])

abbrev o12 : Case → Outline
o12 c = outline_with (o11 c) form.Turns (c.turns ∷ [])

abbrev o13 : Case → Outline
o13 c = outline_with (o12 c) form.Shift (c.shift ∷ [])

-- ---- each heading is sound

roots_sound : (c : Case) → IsValid c → IsSound (o1 c) form.Roots (c.roots.nx ∷ c.roots.ny ∷ c.roots.nz ∷ [])
roots_sound c v = record { header = refl; unended = refl; placed = refl; fresh = refl; counted = refl; fits = rw (within (from_to 1 16) c.roots.nx (omega (arith, v.sized.shape.some_x)) (omega (arith, v.sized.shape.few_x)), within (from_to 1 16) c.roots.ny (omega (arith, v.sized.shape.some_y)) (omega (arith, v.sized.shape.few_y)), within (from_to 1 16) c.roots.nz (omega (arith, v.sized.shape.some_z)) (omega (arith, v.sized.shape.few_z))) refl }

side_sound : (c : Case) → IsValid c → IsSound (o2 c) form.Side (c.side ∷ [])
side_sound c v = record { header = refl; unended = refl; placed = refl; fresh = refl; counted = refl; fits = rw (within (from_to 2 16) c.side (omega (arith, v.sized.wide)) (omega (arith, v.sized.narrow)), eq-eqb (c.side % 2) 0 v.sized.even) refl }

levels_sound : (c : Case) → IsValid c → IsSound (o3 c) form.Levels (c.levels ∷ [])
levels_sound c v = record { header = refl; unended = refl; placed = refl; fresh = refl; counted = refl; fits = rw (within (up_to 4) c.levels (omega arith) (omega (arith, v.sized.shallow)), le-ltb cell_limit (root_count c.roots * 8 ^ c.levels * (c.side * c.side * c.side)) v.sized.few_cells) refl }

ranks_sound : (c : Case) → IsValid c → IsSound (o4 c) form.Ranks (c.ranks ∷ [])
ranks_sound c v = record { header = refl; unended = refl; placed = refl; fresh = refl; counted = refl; fits = rw (within (from_to 1 16) c.ranks (omega (arith, v.scheduled.some_ranks)) (omega (arith, v.scheduled.few_ranks))) refl }

steps_sound : (c : Case) → IsValid c → IsSound (o5 c) form.Steps (c.steps ∷ [])
steps_sound c v = record { header = refl; unended = refl; placed = refl; fresh = refl; counted = refl; fits = rw (within (up_to 128) c.steps (omega arith) (omega (arith, v.scheduled.few_steps))) refl }

snapshot_sound : (c : Case) → IsValid c → IsSound (o6 c) form.Snapshot (c.snapshot ∷ [])
snapshot_sound c v = record { header = refl; unended = refl; placed = refl; fresh = refl; counted = refl; fits = rw (within (from_to 1 128) c.snapshot (omega (arith, v.scheduled.some_snapshot)) (omega (arith, v.scheduled.short_snapshot))) refl }

regrid_sound : (c : Case) → IsValid c → IsSound (o7 c) form.Regrid (c.regrid ∷ [])
regrid_sound c v = record { header = refl; unended = refl; placed = refl; fresh = refl; counted = refl; fits = rw (within (up_to 128) c.regrid (omega arith) (omega (arith, v.scheduled.short_regrid))) refl }

refine_sound : (c : Case) → IsValid c → IsSound (o8 c) form.Refine (c.refine ∷ [])
refine_sound c v = record { header = refl; unended = refl; placed = refl; fresh = refl; counted = refl; fits = rw (within (word_range) c.refine (omega arith) (omega (arith, v.scheduled.refine_fits))) refl }

coarsen_sound : (c : Case) → IsValid c → IsSound (o9 c) form.Coarsen (c.coarsen ∷ [])
coarsen_sound c v = record { header = refl; unended = refl; placed = refl; fresh = refl; counted = refl; fits = rw (within word_range c.coarsen (omega arith) (omega (arith, v.scheduled.uncrossed, v.scheduled.refine_fits)), le-ltb c.refine c.coarsen v.scheduled.uncrossed) refl }

flow_sound : (c : Case) → IsValid c → IsSound (o10 c) form.Flow (c.flow ∷ [])
flow_sound c v = record { header = refl; unended = refl; placed = refl; fresh = refl; counted = refl; fits = rw (within (up_to 8) c.flow (omega arith) (omega (arith, v.scheduled.few_flow))) refl }

turns_sound : (c : Case) → IsValid c → IsSound (o11 c) form.Turns (c.turns ∷ [])
turns_sound c v = record { header = refl; unended = refl; placed = refl; fresh = refl; counted = refl; fits = rw (within (up_to 8) c.turns (omega arith) (omega (arith, v.scheduled.few_turns))) refl }

shift_sound : (c : Case) → IsValid c → IsSound (o12 c) form.Shift (c.shift ∷ [])
shift_sound c v = record { header = refl; unended = refl; placed = refl; fresh = refl; counted = refl; fits = rw (within (up_to 1000) c.shift (omega arith) (omega (arith, v.scheduled.near))) refl }

-- ---- the head

regroup : (a b c d e f g h i j k l m rest : List ℕ) → (a ++ (b ++ (c ++ (d ++ (e ++ (f ++ (g ++ (h ++ (i ++ (j ++ (k ++ (l ++ m)))))))))))) ++ rest
    ≡ a ++ (b ++ (c ++ (d ++ (e ++ (f ++ (g ++ (h ++ (i ++ (j ++ (k ++ (l ++ (m ++ rest))))))))))))
regroup a b c d e f g h i j k l m rest = simp append_assoc

abbrev t13 : Case → List ℕ → List ℕ
t13 c rest = rest

abbrev t12 : Case → List ℕ → List ℕ
t12 c rest = line (codes "shift") (c.shift ∷ []) ++ t13 c rest

abbrev t11 : Case → List ℕ → List ℕ
t11 c rest = line (codes "turns") (c.turns ∷ []) ++ t12 c rest

abbrev t10 : Case → List ℕ → List ℕ
t10 c rest = line (codes "flow") (c.flow ∷ []) ++ t11 c rest

abbrev t9 : Case → List ℕ → List ℕ
t9 c rest = line (codes "coarsen") (c.coarsen ∷ []) ++ t10 c rest

abbrev t8 : Case → List ℕ → List ℕ
t8 c rest = line (codes "refine") (c.refine ∷ []) ++ t9 c rest

abbrev t7 : Case → List ℕ → List ℕ
t7 c rest = line (codes "regrid") (c.regrid ∷ []) ++ t8 c rest

abbrev t6 : Case → List ℕ → List ℕ
t6 c rest = line (codes "snapshot") (c.snapshot ∷ []) ++ t7 c rest

abbrev t5 : Case → List ℕ → List ℕ
t5 c rest = line (codes "steps") (c.steps ∷ []) ++ t6 c rest

abbrev t4 : Case → List ℕ → List ℕ
t4 c rest = line (codes "ranks") (c.ranks ∷ []) ++ t5 c rest

abbrev t3 : Case → List ℕ → List ℕ
t3 c rest = line (codes "levels") (c.levels ∷ []) ++ t4 c rest

abbrev t2 : Case → List ℕ → List ℕ
t2 c rest = line (codes "side") (c.side ∷ []) ++ t3 c rest

abbrev t1 : Case → List ℕ → List ℕ
t1 c rest = line (codes "roots") (c.roots.nx ∷ c.roots.ny ∷ c.roots.nz ∷ []) ++ t2 c rest

abbrev t0 : Case → List ℕ → List ℕ
t0 c rest = line (codes "forest") (1 ∷ []) ++ t1 c rest

-- the head is read
pub head_way : (c : Case) (last : ℕ) (start : Result Case Refusal) (rest : List ℕ) → IsValid c → Reaches last start blank_outline [] [] 1 (head_text c ++ rest)
    → Reaches last start (whole_outline c (replicate 16 None) false) [] [] 14 rest
head_way c last start rest v r =
    let r0 : Reaches last start (o0 c) [] [] 1 (t0 c rest) = subst (λ (t : List ℕ). Reaches last start blank_outline [] [] 1 t)
    (regroup (line (codes "forest") (1 ∷ [])) (line (codes "roots") (c.roots.nx ∷ c.roots.ny ∷ c.roots.nz ∷ [])) (line (codes "side") (c.side ∷ [])) (line (codes "levels") (c.levels ∷ [])) (line (codes "ranks") (c.ranks ∷ [])) (line (codes "steps") (c.steps ∷ [])) (line (codes "snapshot") (c.snapshot ∷ [])) (line (codes "regrid") (c.regrid ∷ [])) (line (codes "refine") (c.refine ∷ [])) (line (codes "coarsen") (c.coarsen ∷ [])) (line (codes "flow") (c.flow ∷ [])) (line (codes "turns") (c.turns ∷ [])) (line (codes "shift") (c.shift ∷ [])) rest) r in
    let r1 : Reaches last start (o1 c) [] [] 2 (t1 c rest) = step last start (o0 c) [] [] 1 (codes "forest") (1 ∷ []) (t1 c rest) form.Forest refl (record { some = omega arith; letters = refl; small = refl }) header_sound r0 in
    let r2 : Reaches last start (o2 c) [] [] 3 (t2 c rest) = step last start (o1 c) [] [] 2 (codes "roots") (c.roots.nx ∷ c.roots.ny ∷ c.roots.nz ∷ []) (t2 c rest) form.Roots refl (record { some = omega arith; letters = refl; small = and_from (ltb c.roots.nx (2 ^ 32)) _ (lt-ltb c.roots.nx (2 ^ 32) (omega (arith, v.sized.shape.few_x))) (and_from (ltb c.roots.ny (2 ^ 32)) _ (lt-ltb c.roots.ny (2 ^ 32) (omega (arith, v.sized.shape.few_y))) (one_small c.roots.nz (omega (arith, v.sized.shape.few_z)))) }) (roots_sound c v) r1 in
    let r3 : Reaches last start (o3 c) [] [] 4 (t3 c rest) = step last start (o2 c) [] [] 3 (codes "side") (c.side ∷ []) (t3 c rest) form.Side refl (record { some = omega arith; letters = refl; small = one_small c.side (omega (arith, v.sized.narrow)) }) (side_sound c v) r2 in
    let r4 : Reaches last start (o4 c) [] [] 5 (t4 c rest) = step last start (o3 c) [] [] 4 (codes "levels") (c.levels ∷ []) (t4 c rest) form.Levels refl (record { some = omega arith; letters = refl; small = one_small c.levels (omega (arith, v.sized.shallow)) }) (levels_sound c v) r3 in
    let r5 : Reaches last start (o5 c) [] [] 6 (t5 c rest) = step last start (o4 c) [] [] 5 (codes "ranks") (c.ranks ∷ []) (t5 c rest) form.Ranks refl (record { some = omega arith; letters = refl; small = one_small c.ranks (omega (arith, v.scheduled.few_ranks)) }) (ranks_sound c v) r4 in
    let r6 : Reaches last start (o6 c) [] [] 7 (t6 c rest) = step last start (o5 c) [] [] 6 (codes "steps") (c.steps ∷ []) (t6 c rest) form.Steps refl (record { some = omega arith; letters = refl; small = one_small c.steps (omega (arith, v.scheduled.few_steps)) }) (steps_sound c v) r5 in
    let r7 : Reaches last start (o7 c) [] [] 8 (t7 c rest) = step last start (o6 c) [] [] 7 (codes "snapshot") (c.snapshot ∷ []) (t7 c rest) form.Snapshot refl (record { some = omega arith; letters = refl; small = one_small c.snapshot (omega (arith, v.scheduled.short_snapshot)) }) (snapshot_sound c v) r6 in
    let r8 : Reaches last start (o8 c) [] [] 9 (t8 c rest) = step last start (o7 c) [] [] 8 (codes "regrid") (c.regrid ∷ []) (t8 c rest) form.Regrid refl (record { some = omega arith; letters = refl; small = one_small c.regrid (omega (arith, v.scheduled.short_regrid)) }) (regrid_sound c v) r7 in
    let r9 : Reaches last start (o9 c) [] [] 10 (t9 c rest) = step last start (o8 c) [] [] 9 (codes "refine") (c.refine ∷ []) (t9 c rest) form.Refine refl (record { some = omega arith; letters = refl; small = one_small c.refine (omega (arith, v.scheduled.refine_fits)) }) (refine_sound c v) r8 in
    let r10 : Reaches last start (o10 c) [] [] 11 (t10 c rest) = step last start (o9 c) [] [] 10 (codes "coarsen") (c.coarsen ∷ []) (t10 c rest) form.Coarsen refl (record { some = omega arith; letters = refl; small = one_small c.coarsen (omega (arith, v.scheduled.uncrossed, v.scheduled.refine_fits)) }) (coarsen_sound c v) r9 in
    let r11 : Reaches last start (o11 c) [] [] 12 (t11 c rest) = step last start (o10 c) [] [] 11 (codes "flow") (c.flow ∷ []) (t11 c rest) form.Flow refl (record { some = omega arith; letters = refl; small = one_small c.flow (omega (arith, v.scheduled.few_flow)) }) (flow_sound c v) r10 in
    let r12 : Reaches last start (o12 c) [] [] 13 (t12 c rest) = step last start (o11 c) [] [] 12 (codes "turns") (c.turns ∷ []) (t12 c rest) form.Turns refl (record { some = omega arith; letters = refl; small = one_small c.turns (omega (arith, v.scheduled.few_turns)) }) (turns_sound c v) r11 in
    let r13 : Reaches last start (o13 c) [] [] 14 (t13 c rest) = step last start (o12 c) [] [] 13 (codes "shift") (c.shift ∷ []) (t13 c rest) form.Shift refl (record { some = omega arith; letters = refl; small = one_small c.shift (omega (arith, v.scheduled.near)) }) (shift_sound c v) r12 in
    r13
