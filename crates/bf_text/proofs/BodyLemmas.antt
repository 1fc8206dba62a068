-- The body of a canonical text is read, and the whole comes to its case.
use Rattle.std.proofs.Common.{◌≡◌, ◌≢◌, ℕ, suc, ◌+◌, ◌*◌, ◌<◌, ◌≤◌, ◌^◌, Bool, true, false, cond, ltb, leb, List, [], ◌∷◌, ◌++◌, Option, Some, None, Result, Ok, Err, length, replicate, get_or, set, refl, sym, ap, subst, ◌∙◌, append_assoc, arith, get_or-set_other}
use Rattle.std.specs.Prelude.{codes, slice_index}
use Rattle.std.specs.List.{list_all, All, flat_map, range_with_len}
use Rattle.std.proofs.Math.Nat.{mul-le-mul}
use Rattle.std.proofs.lemmas.Bool.{and_from, le-leb, lt-leb, lt-ltb, le-ltb}
use Rattle.std.proofs.lemmas.List.{append-nil}
use Rattle.bf_case.specs.declared.case.Case.{Case}
use Rattle.bf_case.specs.declared.case.Fill.{Fill}
use Rattle.bf_case.specs.Case.{IsValid, IsFill, IsSized}
use Rattle.bf_case.specs.CaseText.{line, fill_text, death_text, order_text, case_text}
use Rattle.bf_text.specs.declared.code.Refusal.{Refusal}
use Rattle.bf_text.specs.declared.code.Code.TheVariants as code
use Rattle.bf_text.specs.declared.form.Form.TheVariants as form
use Rattle.bf_text.specs.declared.head.Head.{Head}
use Rattle.bf_text.specs.Lines.{lines_of}
use Rattle.bf_text.specs.Forms.{is_within, word_range}
use Rattle.bf_text.specs.Entries.{came, fills_of, order_of, deaths_of, death_of, listed, fill_of, case_with, case_of}
use Rattle.bf_text.specs.Reading.{input_limit, refusal, reading_of_lines, reading}
use Rattle.bf_text.specs.Drafts.{blank_outline}
use Rattle.bf_text.proofs.RangeLemmas.{flat_same}
use Rattle.bf_text.proofs.AgreeLemmas.{agrees_blank}
use Rattle.bf_text.proofs.ReadLemmas.{at_end}
use Rattle.bf_text.proofs.CanonLemmas.{IsSound, Reaches, step}
use Rattle.bf_text.proofs.LawLemmas.{whole_outline, head_way}
use Rattle.bf_text.proofs.DeathLemmas.{Rising, rising_from, placed, none_dies, deaths_again}

-- some lines further on
abbrev On : ℕ → Result Case Refusal → Case → List (Option ℕ) → List Fill → List ℕ → List ℕ → Type 0
On last start c deaths fills order rest = (number : ℕ) × Reaches last start (whole_outline c deaths false) fills order number rest

small_number : (n : ℕ) → n < 2 ^ 32 → is_within word_range n ≡ true
small_number n fits = and_from (leb 0 n) (leb n 4294967295) (le-leb 0 n (omega arith)) (le-leb n 4294967295 (omega arith))

-- ---- fills

abbrev numbers_in : Fill → List ℕ
numbers_in f =
    slice_index f.low 0 ∷ slice_index f.low 1 ∷ slice_index f.low 2 ∷ slice_index f.high 0 ∷ slice_index f.high 1 ∷ slice_index f.high 2 ∷ f.value ∷ []

three : (xs : List ℕ) → length xs ≡ 3 → slice_index xs 0 ∷ slice_index xs 1 ∷ slice_index xs 2 ∷ [] ≡ xs
three [] h = absurd (omega arith)
three (a ∷ []) h = absurd (omega arith)
three (a ∷ b ∷ []) h = absurd (omega arith)
three (a ∷ b ∷ d ∷ []) h = refl
three (a ∷ b ∷ d ∷ e ∷ xs) h = absurd (omega arith)

made : (low high : List ℕ) (value : ℕ) → Fill
made low high value = record { low = low; high = high; value = value }

fill_again : (f : Fill) → length f.low ≡ 3 → length f.high ≡ 3 → fill_of (numbers_in f) ≡ f
unfolding made
fill_again f low high =
    ap (λ l. made l (slice_index f.high 0 ∷ slice_index f.high 1 ∷ slice_index f.high 2 ∷ []) f.value) (three f.low low)
    ∙ ap (λ h. made f.low h f.value) (three f.high high)

cells_few : (n side : ℕ) → n ≤ 16 → side ≤ 16 → n * side ≤ 256
cells_few n side a b = let m : n * side ≤ 16 * 16 = mul-le-mul a b in omega arith

pub record FillBounds (c : Case) (f : Fill) : Type 0 where
  pub x : slice_index f.high 0 < 257
  pub y : slice_index f.high 1 < 257
  pub z : slice_index f.high 2 < 257

fill_bounds : (c : Case) (f : Fill) → IsSized c → IsFill c.roots c.side f → FillBounds c f
fill_bounds c f s b = record {
  x = omega (arith, b.along_x.inside, cells_few c.roots.nx c.side s.shape.few_x s.narrow);
  y = omega (arith, b.along_y.inside, cells_few c.roots.ny c.side s.shape.few_y s.narrow);
  z = omega (arith, b.along_z.inside, cells_few c.roots.nz c.side s.shape.few_z s.narrow);
}

pub record SmallFill (f : Fill) : Type 0 where
  pub low_x : slice_index f.low 0 < 2 ^ 32
  pub low_y : slice_index f.low 1 < 2 ^ 32
  pub low_z : slice_index f.low 2 < 2 ^ 32
  pub high_x : slice_index f.high 0 < 2 ^ 32
  pub high_y : slice_index f.high 1 < 2 ^ 32
  pub high_z : slice_index f.high 2 < 2 ^ 32
  pub value : f.value < 2 ^ 32

small_fill : (c : Case) (f : Fill) → IsSized c → IsFill c.roots c.side f → SmallFill f
small_fill c f s b =
    let h = fill_bounds c f s b in
    record {
      low_x = omega (arith, h.x, b.along_x.ordered);
      low_y = omega (arith, h.y, b.along_y.ordered);
      low_z = omega (arith, h.z, b.along_z.ordered);
      high_x = omega (arith, h.x);
      high_y = omega (arith, h.y);
      high_z = omega (arith, h.z);
      value = b.value_fits;
    }

seven_small : (f : Fill) → SmallFill f → list_all (λ n. ltb n (2 ^ 32)) (numbers_in f) ≡ true
seven_small f s =
    rw (
      lt-ltb (slice_index f.low 0) (2 ^ 32) s.low_x,
      lt-ltb (slice_index f.low 1) (2 ^ 32) s.low_y,
      lt-ltb (slice_index f.low 2) (2 ^ 32) s.low_z,
      lt-ltb (slice_index f.high 0) (2 ^ 32) s.high_x,
      lt-ltb (slice_index f.high 1) (2 ^ 32) s.high_y,
      lt-ltb (slice_index f.high 2) (2 ^ 32) s.high_z,
      lt-ltb f.value (2 ^ 32) s.value,
    ) refl

fill_sound : (c : Case) (deaths : List (Option ℕ)) (f : Fill) → IsSized c → IsFill c.roots c.side f → IsSound (whole_outline c deaths false) form.Fill (numbers_in f)
fill_sound c deaths f sized b =
    let s = small_fill c f sized b in
    record {
      header = refl;
      unended = refl;
      placed = refl;
      fresh = refl;
      counted = refl;
      fits = rw (
        small_number (slice_index f.low 0) s.low_x,
        small_number (slice_index f.low 1) s.low_y,
        small_number (slice_index f.low 2) s.low_z,
        small_number (slice_index f.high 0) s.high_x,
        small_number (slice_index f.high 1) s.high_y,
        small_number (slice_index f.high 2) s.high_z,
        small_number f.value s.value,
        le-leb (slice_index f.low 0) (slice_index f.high 0) b.along_x.ordered,
        lt-ltb (slice_index f.high 0) (c.roots.nx * c.side) b.along_x.inside,
        le-leb (slice_index f.low 1) (slice_index f.high 1) b.along_y.ordered,
        lt-ltb (slice_index f.high 1) (c.roots.ny * c.side) b.along_y.inside,
        le-leb (slice_index f.low 2) (slice_index f.high 2) b.along_z.ordered,
        lt-ltb (slice_index f.high 2) (c.roots.nz * c.side) b.along_z.inside,
      ) refl;
    }

fills_way : (c : Case) (last : ℕ) (start : Result Case Refusal) (deaths : List (Option ℕ)) (rest : List ℕ) (fs done : List Fill) → IsSized c
    → All (IsFill c.roots c.side) fs → On last start c deaths done [] (flat_map fill_text fs ++ rest) → On last start c deaths (done ++ fs) [] rest
fills_way c last start deaths rest [] done sized all r =
    subst (λ (ds : List Fill). On last start c deaths ds [] rest) (sym (append-nil done)) r
fills_way c last start deaths rest (f ∷ fs) done sized all r =
    let b = all 0 f (omega arith) in
    let s = step last start (whole_outline c deaths false) done [] r.0 (codes "fill") (numbers_in f) (flat_map fill_text fs ++ rest) form.Fill refl
    (record { some = omega arith; letters = refl; small = seven_small f (small_fill c f sized b) }) (fill_sound c deaths f sized b)
    (subst (λ (t : List ℕ). Reaches last start (whole_outline c deaths false) done [] r.0 t) (append_assoc (fill_text f) (flat_map fill_text fs) rest) r.1) in
    let next : On last start c deaths (done ++ f ∷ []) [] (flat_map fill_text fs ++ rest) = (
      r.0 + 1,
      subst (λ (g : Fill). Reaches last start (whole_outline c deaths false) (done ++ g ∷ []) [] (r.0 + 1) (flat_map fill_text fs ++ rest))
          (fill_again f b.low_axes b.high_axes) s,
    ) in
    subst (λ (ds : List Fill). On last start c deaths ds [] rest) (append_assoc done (f ∷ []) fs)
    (fills_way c last start deaths rest fs (done ++ f ∷ []) sized (λ k d h. all (suc k) d (omega arith)) next)

-- ---- deaths

die_sound : (c : Case) (deaths : List (Option ℕ)) (rank events : ℕ) → c.ranks ≤ 16 → rank < c.ranks → events < 2 ^ 32 → get_or deaths rank None ≡ None
    → IsSound (whole_outline c deaths false) form.Die (rank ∷ events ∷ [])
die_sound c deaths rank events few low fits clear = record {
  header = refl;
  unended = refl;
  placed = refl;
  fresh = refl;
  counted = refl;
  fits = rw (small_number rank (omega arith), small_number events fits, lt-leb c.ranks rank low, clear) refl;
}

two_small : (m n : ℕ) → m < 2 ^ 32 → n < 2 ^ 32 → list_all (λ k. ltb k (2 ^ 32)) (m ∷ n ∷ []) ≡ true
two_small m n a b = rw (lt-ltb m (2 ^ 32) a, lt-ltb n (2 ^ 32) b) refl

deaths_way : (c : Case) (last : ℕ) (start : Result Case Refusal) (fills : List Fill) (rest : List ℕ) (a : ℕ) (ds : List (ℕ × ℕ)) (deaths : List (Option ℕ)) → c.ranks ≤ 16
    → ((k : ℕ) → a ≤ k → get_or deaths k None ≡ None) → Rising c.ranks a ds
    → On last start c deaths fills [] (flat_map death_text ds ++ rest) → On last start c (placed deaths ds) fills [] rest
deaths_way c last start fills rest a [] deaths few clear up r = r
deaths_way c last start fills rest a (d ∷ ds) deaths few clear up r =
    let low = up.0 in
    let high = up.1.0 in
    let s = step last start (whole_outline c deaths false) fills [] r.0 (codes "die") (d.0 ∷ d.1 ∷ []) (flat_map death_text ds ++ rest) form.Die refl
    (record { some = omega arith; letters = refl; small = two_small d.0 d.1 (omega arith) up.1.1.0 })
    (die_sound c deaths d.0 d.1 few high up.1.1.0 (clear d.0 low))
    (subst (λ (t : List ℕ). Reaches last start (whole_outline c deaths false) fills [] r.0 t) (append_assoc (death_text d) (flat_map death_text ds) rest) r.1) in
    let same : fills ++ [] ≡ fills = append-nil fills in
    let next : On last start c (set deaths d.0 (Some d.1)) fills [] (flat_map death_text ds ++ rest) =
    (r.0 + 1, subst (λ (fs : List Fill). Reaches last start (whole_outline c (set deaths d.0 (Some d.1)) false) fs [] (r.0 + 1) (flat_map death_text ds ++ rest)) same s) in
    deaths_way c last start fills rest (d.0 + 1) ds (set deaths d.0 (Some d.1)) few
    (λ k h. (let other : k ≢ d.0 = λ e. omega arith in get_or-set_other deaths d.0 k (Some d.1) None other ∙ clear k (omega arith))) up.1.1.1 next

-- ---- the order

ranks_pass : (ranks : ℕ) (rs : List ℕ) (p : ℕ → Bool) → ((r : ℕ) → r < ranks → p r ≡ true) → All (λ r. r < ranks) rs → list_all p rs ≡ true
ranks_pass ranks [] p pass all = refl
ranks_pass ranks (r ∷ rs) p pass all =
    and_from (p r) (list_all p rs) (pass r (all 0 r (omega arith))) (ranks_pass ranks rs p pass (λ k d h. all (suc k) d (omega arith)))

order_sound : (c : Case) (deaths : List (Option ℕ)) (r : ℕ) (rs : List ℕ) → c.ranks ≤ 16 → All (λ k. k < c.ranks) (r ∷ rs)
    → IsSound (whole_outline c deaths false) form.Order (r ∷ rs)
order_sound c deaths r rs few all =
    let within = ranks_pass c.ranks (r ∷ rs) (is_within word_range) (λ k h. small_number k (omega arith)) all in
    let below = ranks_pass c.ranks (r ∷ rs) (λ k. ltb k c.ranks) (λ k h. lt-ltb k c.ranks h) all in
    record {
      header = refl;
      unended = refl;
      placed = refl;
      fresh = refl;
      counted = le-leb 1 (length (r ∷ rs)) (omega arith);
      fits = rw (within, below) refl;
    }

order_way : (c : Case) (last : ℕ) (start : Result Case Refusal) (deaths : List (Option ℕ)) (fills : List Fill) (rest : List ℕ) (order : List ℕ) → c.ranks ≤ 16
    → All (λ k. k < c.ranks) order → On last start c deaths fills [] (order_text order ++ rest) → On last start c deaths fills order rest
order_way c last start deaths fills rest [] few all r = r
order_way c last start deaths fills rest (o ∷ os) few all r =
    let small = ranks_pass c.ranks (o ∷ os) (λ k. ltb k (2 ^ 32)) (λ k h. lt-ltb k (2 ^ 32) (omega arith)) all in
    let s = step last start (whole_outline c deaths false) fills [] r.0 (codes "order") (o ∷ os) rest form.Order refl
    (record { some = omega arith; letters = refl; small = small }) (order_sound c deaths o os few all) r.1 in
    (r.0 + 1, subst (λ (fs : List Fill). Reaches last start (whole_outline c deaths false) fs (o ∷ os) (r.0 + 1) rest) (append-nil fills) s)

-- ---- the end

end_sound : (c : Case) (deaths : List (Option ℕ)) → IsSound (whole_outline c deaths false) form.End []
end_sound c deaths = record { header = refl; unended = refl; placed = refl; fresh = refl; counted = refl; fits = refl }

end_way : (c : Case) (last : ℕ) (start : Result Case Refusal) (deaths : List (Option ℕ)) (fills : List Fill) (order : List ℕ)
    → On last start c deaths fills order (line (codes "end") [])
    → (number : ℕ) × Reaches last start (whole_outline c deaths true) (fills ++ []) (order ++ []) number []
end_way c last start deaths fills order r = (
  r.0 + 1,
  step last start (whole_outline c deaths false) fills order r.0 (codes "end") [] [] form.End refl
      (record { some = omega arith; letters = refl; small = refl }) (end_sound c deaths)
      (subst (λ (t : List ℕ). Reaches last start (whole_outline c deaths false) fills order r.0 t) (sym (append-nil (line (codes "end") []))) r.1),
)

finished : (c : Case) (last : ℕ) (start : Result Case Refusal) (deaths : List (Option ℕ)) (fills : List Fill) (order : List ℕ) (number : ℕ)
    → Reaches last start (whole_outline c deaths true) fills order number [] → fills ≡ c.fills → order ≡ c.order
    → flat_map (λ rank. listed rank (get_or deaths rank None)) (range_with_len 0 16) ≡ c.dies → start ≡ Ok c
finished c last start deaths fills order number r same_fills same_order same_dies =
    let ended : came form.End r.before ≡ true = sym r.agrees.end in
    let dies : deaths_of r.before ≡ c.dies =
    sym (flat_same (λ rank. listed rank (get_or deaths rank None)) (λ rank. listed rank (death_of rank r.before)) (range_with_len 0 16) (λ rank. ap (listed rank) (r.agrees.deaths rank)))
    ∙ same_dies in
    let case : case_of r.before ≡ c =
    ap (λ (h : Head). case_with h (fills_of r.before) (deaths_of r.before) (order_of r.before)) (sym r.agrees.numbers)
    ∙ ap (λ (fs : List Fill). case_with (whole_outline c deaths true).head fs (deaths_of r.before) (order_of r.before)) (r.fills_are ∙ same_fills)
    ∙ ap (λ (ds : List (ℕ × ℕ)). case_with (whole_outline c deaths true).head c.fills ds (order_of r.before)) dies
    ∙ ap (λ (os : List ℕ). case_with (whole_outline c deaths true).head c.fills c.dies os) (r.order_is ∙ same_order) in
    sym r.left ∙ at_end last r.before ∙ ap (λ b. cond b (Ok (case_of r.before)) (Err (refusal last code.NoEnd))) ended ∙ ap (λ x. Ok x) case

lines_give : (c : Case) → IsValid c → reading_of_lines (lines_of (case_text c)) ≡ Ok c
lines_give c v =
    let last = length (lines_of (case_text c)) + 1 in
    let start = reading_of_lines (lines_of (case_text c)) in
    let few = v.scheduled.few_ranks in
    let up = rising_from c.ranks 0 c.dies v.deaths v.rising_deaths (λ h. omega arith) in
    let begun : Reaches last start blank_outline [] [] 1 (case_text c) =
    record { before = []; agrees = agrees_blank; fills_are = refl; order_is = refl; left = refl } in
    let head = head_way c last start (flat_map fill_text c.fills ++ (flat_map death_text c.dies ++ (order_text c.order ++ line (codes "end") []))) v begun in
    let fills = fills_way c last start (replicate 16 None) (flat_map death_text c.dies ++ (order_text c.order ++ line (codes "end") [])) c.fills [] v.sized v.fills (14, head) in
    let deaths = deaths_way c last start c.fills (order_text c.order ++ line (codes "end") []) 0 c.dies (replicate 16 None) few (λ k h. none_dies 16 k) up fills in
    let order = order_way c last start (placed (replicate 16 None) c.dies) c.fills (line (codes "end") []) c.order few v.order deaths in
    let end = end_way c last start (placed (replicate 16 None) c.dies) c.fills c.order order in
    finished c last start (placed (replicate 16 None) c.dies) (c.fills ++ []) (c.order ++ []) end.0 end.1 (append-nil c.fills) (append-nil c.order)
    (deaths_again c.ranks c.dies few up)

-- the canonical text of a valid case is read as that case, where it is short enough
pub read_again : (c : Case) → IsValid c → length (case_text c) ≤ input_limit → reading (case_text c) ≡ Ok c
read_again c v short = rw (le-ltb input_limit (length (case_text c)) short) (lines_give c v)
