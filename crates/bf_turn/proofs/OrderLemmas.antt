-- Each step keeps the order.
use Rattle.std.proofs.Common.{◌≡◌, ℕ, zero, suc, ◌+◌, ◌<◌, ◌≤◌, ◌≢◌, ◌⊎◌, inl, inr, Bool, true, false, List, [], ◌∷◌, ◌++◌, length, set, arith, refl, ap, sym, ◌∙◌, subst, ⊎_elim, true≢false}
use Rattle.std.specs.Prelude.{Option, Some, None, Contains, IsSome, IfSome, if◌then◌else◌, slice_set, slice_index, ◌==◌}
use Rattle.std.proofs.lemmas.List.{length-set}
use mathlib.Core.Option as options
use lib.ListN.{get_elem?}
use native.Mathlib.Decide.{ℕ_discrete}
use mathlib.Core.Logic.{dite}
use Rattle.std.proofs.lemmas.Bool.Decides.{leb_tells}
use Rattle.std.specs.Option.{is_none, unwrap_or}
use prog.Atomic.{either}
use Rattle.atomic_table.specs.Table.{State, Me, Act, Valid, stepped, carried_after, homes_after, Allows, Splits, Joins, Final, Seen, rest, opening}
use Rattle.atomic_table.specs.Table.Act.{keeps, takes, gives}
use Rattle.atomic_table.proofs.Lists.{at_set, set_here, set_else, at_longer}
use Rattle.bf_turn.specs.declared.known.Known.{Known}
use Rattle.bf_turn.specs.declared.view.View.{View}
use Rattle.bf_turn.specs.Logs.{entries_of, HasJust, StartsWith, GoesOn, after}
use Rattle.bf_turn.specs.Seats.{HasOwnCalls, passed, without, joined}
use Rattle.bf_turn.specs.Views.{first_view, left_view, right_view, joined_view, spent_view}
use Rattle.bf_turn.specs.Order.{Fits, IsHome, IsOrderly, Tried, Passed, Recalled, Carries}
use Rattle.bf_turn.proofs.Places.{at_below, at_end, set_swap, set_single, there_is}
use Rattle.bf_turn.proofs.PartyLemmas.{none_there, only_there, there_below, others_there, others_stay}
use Rattle.std.proofs.lemmas.List.Elements.{Contains-append_left, Contains-append_right, Contains-append_cases}
use Rattle.std.proofs.lemmas.List.Prefix.{front_rest}
use Rattle.bf_turn.proofs.LogLemmas.{starts_all, starts_none, starts_more, begins_longer, begins_with_longer, begins_with_shorter, first_of_nothing, entries-append, entries-append_none, none-entries-append, none_of_others, of_longer, all_seen}

not_both : {b : Bool} → b ≡ true → b ≡ false → ⊥
not_both yes_is no_is = true≢false (sym yes_is ∙ no_is)

-- What the slot has at the end: the state, with the log that the seat has seen, of its calls, and the name that it knows.
pub record Ends {S E N : Type 0} (log_of : S → List E) (name_of : S → N) (party_of : E → ℕ) (known : Known E N) (slots : List (Option S)) : Type 0 where
  pub state : S
  pub there : get_elem? slots 0 ≡ options.some (Some state)
  pub log : log_of state ≡ known.seen
  pub calls : HasJust party_of known.calls (log_of state)
  pub named : known.name ≡ Some (name_of state)

module _ {S E N : Type 0} (log_of : S → List E) (name_of : S → N) (party_of : E → ℕ) (parties : ℕ) (name : N) where
  abbrev St : Type 0
  St = State (Option S) (View E N)

  abbrev Rule : St → Type 0
  Rule = IsOrderly log_of name_of party_of parties name

  abbrev Suits : Bool → List E → View E N → Type 0
  Suits = Fits party_of parties name

  -- what has to hold of a seat's new view and of a new log
  record Moves (s : St) (id : ℕ) (held : Bool) (log : List E) (words : List ℕ) (homes : List (options.Option (Option S))) (w : View E N) : Type 0 where
    word : words ≡ (if held then 1 else 0) ∷ []
    slots : length homes ≡ 1
    home : held ≡ false → IsHome log_of name_of party_of name log homes
    away : held ≡ true → (w.turn ≡ true) ⊎ ((j : ℕ) × ((u : View E N) × ((j ≢ id) × (get_elem? s.views j ≡ options.some u) × (u.turn ≡ true))))
    mover : Suits held log w
    others : (j : ℕ) (u : View E N) → j ≢ id → get_elem? s.views j ≡ options.some u → Suits held log u
    only : w.turn ≡ true → (j : ℕ) (u : View E N) → j ≢ id → get_elem? s.views j ≡ options.some u → u.turn ≡ true → ⊥
    alone : (j party : ℕ) (u : View E N) → j ≢ id → get_elem? s.views j ≡ options.some u → Contains w.known.parties party → Contains u.known.parties party → ⊥
    within : (party : ℕ) → parties ≤ party → entries_of party_of party log ≡ []

  moved : (s : St) (id : ℕ) (v : View E N) (held : Bool) (log : List E) (words : List ℕ) (homes : List (options.Option (Option S))) (w : View E N)
      → Rule s → get_elem? s.views id ≡ options.some v → Moves s id held log words homes w → Rule (record { words = words; homes = homes; views = set s.views id w })
  moved s id v held log words homes w k at m = record {
    held = held;
    log = log;
    word = m.word;
    slots = m.slots;
    home = m.home;
    away = λ h. ⊎_elim
        (λ t. (id, (w, (set_here s.views id w (at_below s.views id v at), t))))
        (λ t. (t.0, (t.1.0, (set_else s.views id t.0 w t.1.1.0 ∙ t.1.1.1, t.1.1.2))))
        (m.away h);
    fits = λ i u e. ⊎_elim
        (λ t. subst (Suits held log) t.1 m.mover)
        (λ t. m.others i u t.0 t.1)
        (at_set s.views id i w u e);
    one = λ i j a b ea eb ta tb. ⊎_elim
        (λ t. ⊎_elim
        (λ r. t.0 ∙ sym r.0)
        (λ r. absurd (m.only (ap (λ x. x.turn) t.1 ∙ ta) j b r.0 r.1 tb))
        (at_set s.views id j w b eb))
        (λ t. ⊎_elim
        (λ r. absurd (m.only (ap (λ x. x.turn) r.1 ∙ tb) i a t.0 t.1 ta))
        (λ r. k.one i j a b t.1 r.1 ta tb)
        (at_set s.views id j w b eb))
        (at_set s.views id i w a ea);
    apart = λ i j p a b ea eb ha hb. ⊎_elim
        (λ t. ⊎_elim
        (λ r. t.0 ∙ sym r.0)
        (λ r. absurd (m.alone j p b r.0 r.1 (subst (λ x. Contains x.known.parties p) (sym t.1) ha) hb))
        (at_set s.views id j w b eb))
        (λ t. ⊎_elim
        (λ r. absurd (m.alone i p a t.0 t.1 (subst (λ x. Contains x.known.parties p) (sym r.1) hb) ha))
        (λ r. k.apart i j p a b t.1 r.1 ha hb)
        (at_set s.views id j w b eb))
        (at_set s.views id i w a ea);
    within = m.within;
  }

  -- who has the turn is another than a seat at rest
  another : (s : St) (id : ℕ) (v : View E N) (k : Rule s) → get_elem? s.views id ≡ options.some v → v.turn ≡ false → k.held ≡ true
      → (j : ℕ) × ((u : View E N) × ((j ≢ id) × (get_elem? s.views j ≡ options.some u) × (u.turn ≡ true)))
  another s id v k at rests held =
      let a = k.away held in (
        a.0,
        (
          a.1.0,
          (
            (λ e. not_both (ap (λ x. x.turn) (options.some-injective v a.1.0 (sym at ∙ subst (λ i. get_elem? s.views i ≡ options.some a.1.0) e a.1.1.0)) ∙ a.1.1.1) rests),
            a.1.1.0,
            a.1.1.1,
          ),
        ),
      )

  -- a seat without the turn gets another view, while nothing else changes
  record Rests (s : St) (k : Rule s) (id : ℕ) (w : View E N) : Type 0 where
    turn : w.turn ≡ false
    mover : Suits k.held k.log w
    alone : (j party : ℕ) (u : View E N) → j ≢ id → get_elem? s.views j ≡ options.some u → Contains w.known.parties party → Contains u.known.parties party → ⊥

  rested : (s : St) (id : ℕ) (v w : View E N) (k : Rule s) → get_elem? s.views id ≡ options.some v → v.turn ≡ false → Rests s k id w
      → Rule (record { words = s.words; homes = s.homes; views = set s.views id w })
  rested s id v w k at rests r = moved s id v k.held k.log s.words s.homes w k at (record {
    word = k.word;
    slots = k.slots;
    home = k.home;
    away = λ h. inr (another s id v k at rests h);
    mover = r.mover;
    others = λ j u ne e. k.fits j u e;
    only = λ t. absurd (not_both t r.turn);
    alone = r.alone;
    within = k.within;
  })

  -- one more view, whose parties nobody else has
  added : (s : St) (w : View E N) (k : Rule s) → w.turn ≡ false → Suits k.held k.log w
      → ((j party : ℕ) (u : View E N) → get_elem? s.views j ≡ options.some u → Contains w.known.parties party → Contains u.known.parties party → ⊥)
      → Rule (record { words = s.words; homes = s.homes; views = s.views ++ w ∷ [] })
  added s w k still fit alone = record {
    held = k.held;
    log = k.log;
    word = k.word;
    slots = k.slots;
    home = k.home;
    away = λ h. let a = k.away h in (a.0, (a.1.0, (at_longer s.views (w ∷ []) a.0 a.1.0 a.1.1.0, a.1.1.1)));
    fits = λ i u e. ⊎_elim (λ t. k.fits i u t) (λ t. subst (Suits k.held k.log) t.1 fit) (at_end s.views w u i e);
    one = λ i j a b ea eb ta tb. ⊎_elim
        (λ t. ⊎_elim (λ r. k.one i j a b t r ta tb) (λ r. absurd (not_both (ap (λ x. x.turn) r.1 ∙ tb) still)) (at_end s.views w b j eb))
        (λ t. absurd (not_both (ap (λ x. x.turn) t.1 ∙ ta) still))
        (at_end s.views w a i ea);
    apart = λ i j p a b ea eb ha hb. ⊎_elim
        (λ t. ⊎_elim
        (λ r. k.apart i j p a b t r ha hb)
        (λ r. absurd (alone i p a t (subst (λ x. Contains x.known.parties p) (sym r.1) hb) ha))
        (at_end s.views w b j eb))
        (λ t. ⊎_elim
        (λ r. absurd (alone j p b r (subst (λ x. Contains x.known.parties p) (sym t.1) ha) hb))
        (λ r. t.0 ∙ sym r.0)
        (at_end s.views w b j eb))
        (at_end s.views w a i ea);
    within = k.within;
  }

  module _ (s : St) (id : ℕ) (v : View E N) (k : Rule s) (at : get_elem? s.views id ≡ options.some v) where
    -- what a step with this act and view leaves
    abbrev left : List ℕ → View E N → Act (Option S) → List (ℕ × Option S) → St
    left words w a c = record { words = words; homes = homes_after s.homes c a; views = set s.views id w }

    -- nobody else has a party of this seat
    apart_here : (j party : ℕ) (u : View E N) → j ≢ id → get_elem? s.views j ≡ options.some u → Contains v.known.parties party → Contains u.known.parties party → ⊥
    apart_here j p u ne e hw hu = ne (k.apart j id p u v e at hu hw)

    abbrev TryAt : List ℕ → Type 0
    TryAt words =
        (w : View E N) × (a : Act (Option S)) × Valid s.homes [] a
        × Rule (left (slice_set words 0 (either (slice_index words 0 == 0) 1 (slice_index words 0))) w a [])
        × Tried log_of name_of party_of (v, []) (slice_index words 0) (w, carried_after [] a)

    try_hit : k.held ≡ false → (party : ℕ) × Contains v.known.parties party → IsSome v.known.name → TryAt (0 ∷ [])
    try_hit free some known =
        let home = k.home free in
        let x = home.0 in
        let fit = k.fits id v at in
        let log_is : log_of x ≡ k.log = home.1.1 in
        let w : View E N = record v { turn = true; known = record v.known { seen = log_of x } } in (
          w,
          takes 0 (Some x),
          ap (λ hs. get_elem? hs 0) home.1.0,
          moved s id v true k.log (1 ∷ []) (set s.homes 0 options.none) w k at (record {
            word = refl;
            slots = length-set s.homes 0 options.none ∙ k.slots;
            home = λ h. absurd (true≢false h);
            away = λ h. inl refl;
            mover = record {
              turn = λ h. (refl, log_is, some);
              seen = subst (λ l. StartsWith k.log l) (sym log_is) (starts_all k.log);
              past = fit.past;
              owns = record {
                seen = λ p has. ap (entries_of party_of p) (sym log_is);
                calls = fit.owns.calls;
                alone = fit.owns.alone;
              };
              few = fit.few;
              named = fit.named;
            };
            others = λ j u ne e. let f = k.fits j u e in record {
              turn = λ h. absurd (not_both (f.turn h).0 free);
              seen = f.seen;
              past = f.past;
              owns = f.owns;
              few = f.few;
              named = f.named;
            };
            only = λ t j u ne e turn. not_both ((k.fits j u e).turn turn).0 free;
            alone = apart_here;
            within = k.within;
          }),
          (
            λ zero_found. (
              (
                refl,
                (
                  refl,
                  (
                    subst (λ l. StartsWith l v.known.seen) (sym log_is) fit.seen,
                    (
                      subst (HasOwnCalls party_of v.known) (sym log_is) fit.owns,
                      there_is v.known.name name known fit.named ∙ ap Some (sym home.1.2),
                    ),
                  ),
                ),
              ),
              refl,
            ),
            λ ne. absurd (ne refl),
          ),
        )

    -- a step that changes neither word nor view
    still : (w : List ℕ) → w ≡ s.words → Rule (left w v keeps [])
    still w is = subst (λ ws. Rule (left ws v keeps [])) (sym is) (moved s id v k.held k.log s.words s.homes v k at (record {
      word = k.word;
      slots = k.slots;
      home = k.home;
      away = λ h. let a = k.away h in dite (ℕ_discrete a.0 id)
          (λ e. inl (ap (λ x. x.turn) (options.some-injective v a.1.0 (sym at ∙ subst (λ i. get_elem? s.views i ≡ options.some a.1.0) e a.1.1.0)) ∙ a.1.1.1))
          (λ ne. inr (a.0, (a.1.0, (ne, a.1.1.0, a.1.1.1))));
      mover = k.fits id v at;
      others = λ j u ne e. k.fits j u e;
      only = λ t j u ne e turn. ne (k.one j id u v e at turn t);
      alone = apart_here;
      within = k.within;
    }))

    try_miss : k.held ≡ true → TryAt (1 ∷ [])
    try_miss busy = (v, keeps, tt, still (1 ∷ []) (sym (k.word ∙ ap (λ b. (if b then 1 else 0) ∷ []) busy)), ((λ e. absurd (one-ne e)), λ ne. refl))
      where
        one-ne : ◌≡◌ {A = ℕ} 1 0 → ⊥
        one-ne e = omega (arith, e)

    tries_here : (party : ℕ) × Contains v.known.parties party → IsSome v.known.name → (b : Bool) → k.held ≡ b → TryAt ((if b then 1 else 0) ∷ [])
    tries_here some known true e = try_miss e
    tries_here some known false e = try_hit e some known

  -- the turn is tried for
  pub tries : (slots id : ℕ) (me : Me (Option S) (View E N)) → me.1 ≡ [] → (party : ℕ) × Contains me.0.known.parties party → IsSome me.0.known.name
      → Allows Rule slots id me 0 (λ n. either (n == 0) 1 n) (Tried log_of name_of party_of me)
  tries slots id me empty some known s k count at bound =
      let v = me.0 in
      subst (λ c. (w : View E N) × (a : Act (Option S)) × Valid s.homes c a
      × Rule (stepped s 0 (either (slice_index s.words 0 == 0) 1 (slice_index s.words 0)) id c w a)
      × Tried log_of name_of party_of (v, c) (slice_index s.words 0) (w, carried_after c a)) (sym empty)
      (subst (TryAt s id v k at) (sym k.word) (tries_here s id v k at some known k.held refl))

  -- what a seat owns of a log that goes on by its calls
  owns_on : (known : Known E N) (log more : List E) → known.seen ≡ log → HasOwnCalls party_of known log
      → ((party : ℕ) → (Contains known.parties party → ⊥) → entries_of party_of party more ≡ [])
      → HasOwnCalls party_of (record known { seen = log ++ more; calls = known.calls ++ more; passes = known.passes + 1 }) (log ++ more)
  owns_on known log more whole owns none = record {
    seen = λ p has. refl;
    calls = λ p has. entries-append party_of p log more ∙ ap (λ l. l ++ entries_of party_of p more) (owns.calls p has) ∙ sym (entries-append party_of p known.calls more);
    alone = λ p out. entries-append_none party_of p known.calls more (none p out) ∙ owns.alone p out;
  }

  -- the turn is passed on
  pub gives_back : (slots id : ℕ) (me : Me (Option S) (View E N)) (x : S) → me.1 ≡ (0, Some x) ∷ [] → me.0.turn ≡ true → me.0.known.name ≡ Some (name_of x)
      → GoesOn party_of me.0.known.parties me.0.known.seen (log_of x) → Allows Rule slots id me 0 (λ _. 0) (λ found now. Passed log_of me now)
  gives_back slots id me x carries turn named on s k count at bound =
      let v = me.0 in
      let fit = k.fits id v at in
      let is = fit.turn turn in
      let more = on.0.0 in
      let added_is : after v.known.seen (log_of x) ≡ more = front_rest (log_of x) v.known.seen more on.0.1 in
      let log_is : log_of x ≡ k.log ++ more = on.0.1 ∙ ap (λ l. l ++ more) is.1 in
      let none : (p : ℕ) → (Contains v.known.parties p → ⊥) → entries_of party_of p more ≡ [] =
      λ p out. ap (entries_of party_of p) (sym added_is) ∙ none_of_others party_of v.known.parties (after v.known.seen (log_of x)) on.1 p out in
      let w : View E N = record v { turn = false; known = passed v.known (log_of x) } in
      let known_is : record v.known { seen = k.log ++ more; calls = v.known.calls ++ more; passes = v.known.passes + 1 } ≡ w.known =
      λ i. record v.known { seen = sym log_is i; calls = v.known.calls ++ sym added_is i; passes = v.known.passes + 1 } in
      subst (λ c. (w : View E N) × (a : Act (Option S)) × Valid s.homes c a
      × Rule (stepped s 0 0 id c w a) × Passed log_of (v, c) (w, carried_after c a)) (sym carries) (
        w,
        gives,
        tt,
        moved s id v false (log_of x) (slice_set s.words 0 0) (set s.homes 0 (options.some (Some x))) w k at (record {
          word = ap (λ ws. slice_set ws 0 0) k.word;
          slots = length-set s.homes 0 (options.some (Some x)) ∙ k.slots;
          home = λ h. (x, (set_single s.homes (options.some (Some x)) k.slots, refl, same_name (name_of x) (subst (λ o. IfSome o (λ known. known ≡ name)) named fit.named)));
          away = λ h. absurd (true≢false (sym h));
          mover = record {
            turn = λ h. absurd (true≢false (sym h));
            seen = starts_all (log_of x);
            past = subst (λ l. StartsWith l v.past) (sym log_is) (starts_more k.log v.past more fit.past);
            owns = subst (λ l. HasOwnCalls party_of w.known l) (sym log_is) (subst (λ known. HasOwnCalls party_of known (k.log ++ more)) known_is (owns_on v.known k.log more is.1 fit.owns none));
            few = fit.few;
            named = fit.named;
          };
          others = λ j u ne e. let f = k.fits j u e in record {
            turn = λ h. absurd (ne (k.one j id u v e at h turn));
            seen = subst (λ l. StartsWith l u.known.seen) (sym log_is) (starts_more k.log u.known.seen more f.seen);
            past = subst (λ l. StartsWith l u.past) (sym log_is) (starts_more k.log u.past more f.past);
            owns = let same : (p : ℕ) → Contains u.known.parties p → entries_of party_of p (log_of x) ≡ entries_of party_of p k.log =
                λ p has. ap (entries_of party_of p) log_is ∙ entries-append_none party_of p k.log more (none p (λ hv. ne (k.apart j id p u v e at has hv))) in record {
                  seen = λ p has. same p has ∙ f.owns.seen p has;
                  calls = λ p has. same p has ∙ f.owns.calls p has;
                  alone = f.owns.alone;
                };
            few = f.few;
            named = f.named;
          };
          only = λ t. absurd (true≢false (sym t));
          alone = apart_here s id v k at;
          within = λ p over. ap (entries_of party_of p) log_is
              ∙ entries-append_none party_of p k.log more (none p (λ has. let less : p < parties = fit.few p has in omega (arith, less, over)))
              ∙ k.within p over;
        }),
        refl,
      )
    where
      same_name : (n : N) → IfSome (Some n) (λ known. known ≡ name) → n ≡ name
      same_name n is = is

  -- what was seen is recalled
  pub recalls : (slots id : ℕ) (me : Me (Option S) (View E N)) → me.1 ≡ [] → Allows Rule slots id me 0 (λ n. n) (λ found now. Recalled me now)
  recalls slots id me empty s k count at bound =
      let v = me.0 in
      let fit = k.fits id v at in
      subst (λ c. (w : View E N) × (a : Act (Option S)) × Valid s.homes c a
      × Rule (stepped s 0 (slice_index s.words 0) id c w a) × Recalled (v, c) (w, carried_after c a)) (sym empty) (
        v,
        keeps,
        tt,
        still s id v k at (slice_set s.words 0 (slice_index s.words 0)) (same s.words k.word),
        (refl, λ le. begins_longer k.log v.past v.known.seen fit.past fit.seen le),
      )
    where
      same : {n : ℕ} (ws : List ℕ) → ws ≡ n ∷ [] → slice_set ws 0 (slice_index ws 0) ≡ ws
      same ws e = subst (λ ws. slice_set ws 0 (slice_index ws 0) ≡ ws) (sym e) refl

  -- a party is split off
  pub splits : (id : ℕ) (v : View E N) (party : ℕ) → v.turn ≡ false → Contains v.known.parties party → entries_of party_of party v.known.calls ≡ []
      → Splits Rule id v (left_view party v) (right_view party v)
  unfolding rested moved
  splits id v party rests has unused s k at =
      let fit = k.fits id v at in
      let was : (p : ℕ) → Contains (without party v.known).parties p → Contains v.known.parties p × (p ≢ party) = λ p has. others_there party v.known.parties p has in
      let others = rested s id v (left_view party v) k at rests (record {
        turn = rests;
        mover = record {
          turn = λ h. absurd (not_both h rests);
          seen = fit.seen;
          past = fit.past;
          owns = record {
            seen = λ p has. fit.owns.seen p (was p has).0;
            calls = λ p has. fit.owns.calls p (was p has).0;
            alone = λ p out. dite (ℕ_discrete p party)
                (λ is. ap (λ q. entries_of party_of q v.known.calls) is ∙ unused)
                (λ ne. fit.owns.alone p (λ there. out (others_stay party v.known.parties p there ne)));
          };
          few = λ p has. fit.few p (was p has).0;
          named = fit.named;
        };
        alone = λ j p u ne e hw hu. apart_here s id v k at j p u ne e (was p hw).0 hu;
      }) in
      added (record { words = s.words; homes = s.homes; views = set s.views id (left_view party v) }) (right_view party v) others refl (record {
        turn = λ h. absurd (true≢false (sym h));
        seen = fit.seen;
        past = starts_none k.log;
        owns = record {
          seen = λ p there. fit.owns.seen p (its p there);
          calls = λ p there. fit.owns.calls p (its p there) ∙ ap (λ q. entries_of party_of q v.known.calls) (only_there party p there) ∙ unused;
          alone = λ p out. refl;
        };
        few = λ p there. fit.few p (its p there);
        named = fit.named;
      }) (λ j p u e hw hu. ⊎_elim
      (λ t. (was p (subst (λ x. Contains x.known.parties p) (sym t.1) hu)).1 (only_there party p hw))
      (λ t. t.0 (k.apart j id p u v t.1 at hu (its p hw)))
      (at_set s.views id j (left_view party v) u e))
    where
      its : (p : ℕ) → Contains (party ∷ []) p → Contains v.known.parties p
      its p there = subst (Contains v.known.parties) (sym (only_there party p there)) has

  -- what two seats own together
  owns_both : (a b : Known E N) (log : List E) → StartsWith log a.seen → StartsWith log b.seen → HasOwnCalls party_of a log → HasOwnCalls party_of b log
      → ((party : ℕ) → Contains a.parties party → Contains b.parties party → ⊥) → HasOwnCalls party_of (joined a b) log
  owns_both a b log sa sb oa ob apart = record {
    seen = λ p has. of_longer party_of p log a.seen b.seen sa sb (⊎_elim (λ t. inl (oa.seen p t)) (λ t. inr (ob.seen p t)) (Contains-append_cases a.parties b.parties p has));
    calls = λ p has. ⊎_elim
        (λ t. oa.calls p t ∙ sym (entries-append_none party_of p a.calls b.calls (ob.alone p (λ hb. apart p t hb))))
        (λ t. ob.calls p t ∙ sym (none-entries-append party_of p a.calls b.calls (oa.alone p (λ ha. apart p ha t))))
        (Contains-append_cases a.parties b.parties p has);
    alone = λ p out. none-entries-append party_of p a.calls b.calls (oa.alone p (λ ha. out (Contains-append_left a.parties b.parties p ha)))
        ∙ ob.alone p (λ hb. out (Contains-append_right a.parties b.parties p hb));
  }

  -- a spent seat fits every log
  spent_fits : (held : Bool) (log : List E) → Suits held log spent_view
  spent_fits held log = record {
    turn = λ h. absurd (true≢false (sym h));
    seen = starts_none log;
    past = starts_none log;
    owns = record {
      seen = λ p has. absurd (none_there p has);
      calls = λ p has. absurd (none_there p has);
      alone = λ p out. refl;
    };
    few = λ p has. absurd (none_there p has);
    named = tt;
  }

  -- two seats are joined
  pub joins : (id : ℕ) (v : View E N) (other : ℕ) (w : View E N) → v.turn ≡ false → w.turn ≡ false → Joins Rule id v other w (joined_view v w) spent_view
  unfolding rested moved
  joins id v other w still_v still_w s k at ne at_both =
      let at_other : get_elem? s.views other ≡ options.some w = sym (set_else s.views id other (joined_view v w) ne) ∙ at_both in
      let fit = k.fits id v at in
      let fit_other = k.fits other w at_other in
      let spent_first = rested s other w spent_view k at_other still_w (record {
        turn = refl;
        mover = spent_fits k.held k.log;
        alone = λ j p u ne e hw hu. absurd (none_there p hw);
      }) in
      let s1 : St = record { words = s.words; homes = s.homes; views = set s.views other spent_view } in
      let at_id : get_elem? s1.views id ≡ options.some v = set_else s.views other id spent_view (λ e. ne (sym e)) ∙ at in
      subst (λ vs. Rule (record { words = s.words; homes = s.homes; views = vs })) (set_swap s.views other id spent_view (joined_view v w) ne)
      (rested s1 id v (joined_view v w) spent_first at_id still_v (record {
        turn = refl;
        mover = record {
          turn = λ h. absurd (true≢false (sym h));
          seen = begins_with_longer k.log v.known.seen w.known.seen fit.seen fit_other.seen;
          past = begins_with_shorter k.log v.known.seen w.known.seen fit.seen fit_other.seen;
          owns = owns_both v.known w.known k.log fit.seen fit_other.seen fit.owns fit_other.owns (λ p hv hw. ne (k.apart other id p w v at_other at hw hv));
          few = λ p has. ⊎_elim (λ t. fit.few p t) (λ t. fit_other.few p t) (Contains-append_cases v.known.parties w.known.parties p has);
          named = fit.named;
        };
        alone = λ j p u away e hb hu. ⊎_elim
            (λ t. absurd (none_there p (subst (λ x. Contains x.known.parties p) (sym t.1) hu)))
            (λ t. ⊎_elim
            (λ hv. away (k.apart j id p u v t.1 at hu hv))
            (λ hw. t.0 (k.apart j other p u w t.1 at_other hu hw))
            (Contains-append_cases v.known.parties w.known.parties p hb))
            (at_set s.views other j spent_view u e);
      }))

  module _ (known : Known E N) (log : List E) (fit : HasOwnCalls party_of known log) (starts : StartsWith log known.seen)
      (few : (party : ℕ) → Contains known.parties party → party < parties)
      (within : (party : ℕ) → parties ≤ party → entries_of party_of party log ≡ [])
      (all : (party : ℕ) → party < parties → Contains known.parties party) where
    over : (party : ℕ) → parties ≤ party → Contains known.parties party → ⊥
    over p le has = let less : p < parties = few p has in omega (arith, less, le)

    -- who has all parties has made all calls, and has seen all of the log
    all_calls : HasJust party_of known.calls log
    all_calls p = ⊎_elim
        (λ t. fit.calls p (all p (omega (arith, t.1))))
        (λ t. within p (omega (arith, t.1)) ∙ sym (fit.alone p (over p (omega (arith, t.1)))))
        (leb_tells (p + 1) parties)

    all_of_log : log ≡ known.seen
    all_of_log = all_seen party_of log known.seen starts (λ p. ⊎_elim
        (λ t. fit.seen p (all p (omega (arith, t.1))))
        (λ t. within p (omega (arith, t.1)) ∙ sym (first_of_nothing (entries_of party_of p log) (entries_of party_of p known.seen) (entries_of party_of p starts.0)
        (ap (entries_of party_of p) starts.1 ∙ entries-append party_of p known.seen starts.0) (within p (omega (arith, t.1)))))
        (leb_tells (p + 1) parties))

  -- the lock is closed by the seat of all parties
  pub closes : (id : ℕ) (v : View E N) (words : List ℕ) (slots : List (Option S)) → Final (Seen Rule id v) words slots → v.turn ≡ false → IsSome v.known.name
      → (n : ℕ) (known : Known E N) → parties ≡ n → v.known ≡ known → ((party : ℕ) → party < n → Contains known.parties party)
      → Ends log_of name_of party_of known slots
  closes id v words slots final rests named n known is_n is_known all_known = subst (λ k. Ends log_of name_of party_of k slots) is_known (at_home k.held refl)
    where
      s : St
      s = final.0

      k : Rule s
      k = final.1.0

      at : get_elem? s.views id ≡ options.some v
      at = final.1.1

      fit : Suits k.held k.log v
      fit = k.fits id v at

      all : (party : ℕ) → party < parties → Contains v.known.parties party
      all p less = subst (λ k. Contains k.parties p) (sym is_known) (all_known p (subst (λ m. p < m) is_n less))

      at_home : (b : Bool) → k.held ≡ b → Ends log_of name_of party_of v.known slots
      at_home true e =
          let a = another s id v k at rests e in
          let u = a.1.0 in
          let f = k.fits a.0 u a.1.1.1 in
          let some = (f.turn a.1.1.2).2 in
          absurd (a.1.1.0 (k.apart a.0 id some.0 u v a.1.1.1 at some.1 (all some.0 (f.few some.0 some.1))))
      at_home false e =
          let home = k.home e in
          let x = home.0 in record {
            state = x;
            there = final.4 0 (Some x) (ap (λ hs. get_elem? hs 0) home.1.0);
            log = home.1.1 ∙ all_of_log v.known k.log fit.owns fit.seen fit.few k.within all;
            calls = λ p. ap (entries_of party_of p) home.1.1 ∙ all_calls v.known k.log fit.owns fit.seen fit.few k.within all p;
            named = there_is v.known.name name named fit.named ∙ ap Some (sym home.1.2);
          }

module _ {S E N : Type 0} (log_of : S → List E) (name_of : S → N) (party_of : E → ℕ) (known : Known E N) (slots : List (Option S)) (value : Option S)
    (e : Ends log_of name_of party_of known slots) (at : get_elem? slots 0 ≡ options.some value) where
  -- the slot isn't empty, and what is there is the state
  pub ended_some : value ≡ None → ⊥
  ended_some none = true≢false (ap is_none (sym none ∙ options.some-injective value (Some e.state) (sym at ∙ e.there)))

  pub ended_is : (state : S) → value ≡ Some state
      → (log_of state ≡ known.seen) × HasJust party_of known.calls (log_of state) × (known.name ≡ Some (name_of state))
  ended_is state is =
      let same : e.state ≡ state = ap (λ o. unwrap_or o state) (sym (options.some-injective value (Some e.state) (sym at ∙ e.there)) ∙ is) in
      subst (λ x. (log_of x ≡ known.seen) × HasJust party_of known.calls (log_of x) × (known.name ≡ Some (name_of x))) same (e.log, e.calls, e.named)

module _ {S : Type 0} (fact : S → Type 0) where
  pub carried_there : (c : List (ℕ × Option S)) → Carries fact c → (x : Option S) × (c ≡ (0, x) ∷ rest c)
  carried_there [] h = absurd h
  carried_there ((k, Some x) ∷ r) h = (Some x, ap (λ n. (n, Some x) ∷ r) h.0)
  carried_there ((k, None) ∷ r) h = absurd h

-- the table at the start
pub opens : {S E N : Type 0} (log_of : S → List E) (name_of : S → N) (party_of : E → ℕ) (parties : ℕ) (x : S) → log_of x ≡ []
    → IsOrderly log_of name_of party_of parties (name_of x) (opening (0 ∷ []) (Some x ∷ []) (first_view parties (name_of x)))
opens {S = S} {E = E} {N = N} log_of name_of party_of parties x empty = record {
  held = false;
  log = [];
  word = refl;
  slots = refl;
  home = λ e. (x, (refl, empty, refl));
  away = λ e. absurd (true≢false (sym e));
  fits = λ i v at. subst (Fits party_of parties (name_of x) false []) (only_one i v at).1 (record {
    turn = λ e. absurd (true≢false (sym e));
    seen = starts_none [];
    past = starts_none [];
    owns = record {
      seen = λ p has. refl;
      calls = λ p has. refl;
      alone = λ p out. refl;
    };
    few = there_below parties;
    named = refl;
  });
  one = λ i j v w ei ej ti tj. (only_one i v ei).0 ∙ sym (only_one j w ej).0;
  apart = λ i j p v w ei ej hi hj. (only_one i v ei).0 ∙ sym (only_one j w ej).0;
  within = λ p over. refl;
}
  where
    only_one : (i : ℕ) (v : View E N) → get_elem? (first_view {E = E} parties (name_of x) ∷ []) i ≡ options.some v → (i ≡ 0) × (first_view parties (name_of x) ≡ v)
    only_one zero v e = (refl, options.some-injective (first_view parties (name_of x)) v e)
    only_one (suc i) v e = absurd (options.some-ne-none v (sym e))
