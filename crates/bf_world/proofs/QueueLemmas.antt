-- Queues in a list, each seen as the list of its messages.
use Rattle.std.proofs.Common.{◌≡◌, ℕ, zero, suc, ◌+◌, ◌*◌, ◌/◌, ◌%◌, ◌<◌, ◌≤◌, List, [], ◌∷◌, length, get_or, set, map, replicate, arith, ap, sym, subst, refl, ◌∙◌}
use Rattle.std.proofs.lemmas.List.{get_or-set_same, get_or-set_other, get_or-replicate, length-set, map-set, get_or-map, length-map}
use Rattle.std.proofs.lemmas.Nat.{div-mul-add, mod-mul-add}
use Rattle.std.proofs.Math.Nat.{mul-le-mul_left}
use Rattle.std.proofs.Math.ListN.{get_or-map as get_or-map_any}
use Rattle.std.proofs.Math.Seq.{map-set_same}
use Rattle.bf_core.specs.States.{channel}
use Rattle.bf_world.specs.Queues.{Waiting, messages, with_messages, no_messages, lengths, IsSquare, OthersStay}

-- a queue stands at a place of its own
pub channel_below : (ranks from to : ℕ) → from < ranks → to < ranks → channel ranks from to < ranks * ranks
channel_below ranks from to hf ht =
    let next : from + 1 ≤ ranks = omega arith in
    omega (arith, mul-le-mul_left ranks next)

channel_apart : (ranks from to a b : ℕ) → to < ranks → b < ranks → (a ≡ from → b ≡ to → ⊥) → channel ranks a b ≡ channel ranks from to → ⊥
channel_apart ranks from to a b ht hb apart same =
    apart (sym (div-mul-add a ranks b hb) ∙ ap (λ n. n / ranks) same ∙ div-mul-add from ranks to ht)
    (sym (mod-mul-add a ranks b hb) ∙ ap (λ n. n % ranks) same ∙ mod-mul-add from ranks to ht)

-- what waits once other messages wait from one rank to another
module _ {X : Type 0} (old new : Waiting X) (from to : ℕ) (others : List X) where
  pub messages_here : (i : ℕ) → i ≡ channel old.ranks from to → i < length old.queues → new ≡ with_messages old from to others
      → messages new from to ≡ others
  messages_here i here below is =
      ap (λ w. messages w from to) is
      ∙ get_or-set_same old.queues (channel old.ranks from to) others [] (subst (λ n. n < length old.queues) here below)

  pub messages_elsewhere : to < old.ranks → new ≡ with_messages old from to others → OthersStay old new from to
  messages_elsewhere ht is a b ha hb apart =
      ap (λ w. messages w a b) is
      ∙ get_or-set_other old.queues (channel old.ranks from to) (channel old.ranks a b) others [] (channel_apart old.ranks from to a b ht hb apart)

  pub still_square : IsSquare old → new ≡ with_messages old from to others → IsSquare new
  still_square square is =
      subst (λ w. IsSquare w) (sym is) (length-set old.queues (channel old.ranks from to) others ∙ square)

  pub lengths_after : new ≡ with_messages old from to others → lengths new ≡ set (lengths old) (channel old.ranks from to) (length others)
  lengths_after is = ap lengths is ∙ map-set length old.queues (channel old.ranks from to) others

pub length_at : {X : Type 0} (waiting : Waiting X) (from to : ℕ)
    → get_or (lengths waiting) (channel waiting.ranks from to) 0 ≡ length (messages waiting from to)
length_at waiting from to = get_or-map_any length waiting.queues (channel waiting.ranks from to) []

no_lengths : (X : Type 0) (n : ℕ) → map (length {A = X}) (replicate n []) ≡ replicate n 0
no_lengths X zero = refl
no_lengths X (suc n) = ap (λ ns. 0 ∷ ns) (no_lengths X n)

pub lengths_of_none : (X : Type 0) (ranks : ℕ) → lengths {M = X} (no_messages ranks) ≡ replicate (ranks * ranks) 0
lengths_of_none X ranks = no_lengths X (ranks * ranks)

-- nothing waits where all is empty
pub messages_of_none : (X : Type 0) (ranks from to : ℕ) → from < ranks → to < ranks → messages {M = X} (no_messages ranks) from to ≡ []
messages_of_none X ranks from to hf ht =
    get_or-replicate (ranks * ranks) (channel ranks from to) [] [] (channel_below ranks from to hf ht)

-- `Q` is the type of a queue, and `items` tells its messages
module _ {Q X : Type 0} (items : Q → List X) where
  abbrev pub seen : (ranks : ℕ) → List Q → Waiting X
  seen ranks queues = record { ranks = ranks; queues = map items queues }

  -- the queue at a place
  pub queue_at : (ranks : ℕ) (queues : List Q) (i : ℕ) (old : Q) (from to : ℕ)
      → i < length queues → i ≡ channel ranks from to → old ≡ get_or queues i old → messages (seen ranks queues) from to ≡ items old
  queue_at ranks queues i old from to below here at =
      ap (λ n. get_or (map items queues) n []) (sym here) ∙ get_or-map items queues i old [] below ∙ ap items (sym at)

  -- another queue at a place
  pub queue_put : (ranks : ℕ) (queues : List Q) (i : ℕ) (new : Q) (from to : ℕ)
      → i ≡ channel ranks from to → seen ranks (set queues i new) ≡ with_messages (seen ranks queues) from to (items new)
  queue_put ranks queues i new from to here =
      ap (λ all. record { ranks = ranks; queues = all }) (map-set items queues i new ∙ ap (λ n. set (map items queues) n (items new)) here)

  -- another queue with the same messages
  pub queue_same : (ranks : ℕ) (queues : List Q) (i : ℕ) (old new : Q)
      → old ≡ get_or queues i old → items new ≡ items old → seen ranks (set queues i new) ≡ seen ranks queues
  queue_same ranks queues i old new at same =
      ap (λ all. record { ranks = ranks; queues = all }) (map-set_same items queues i new old (same ∙ ap items at))

  -- a call that changes the queue at a place
  pub queue_changed : (f : List X → List X) (ranks : ℕ) (queues : List Q) (waiting : Waiting X) (i : ℕ) (old new : Q) (from to : ℕ)
      → seen ranks queues ≡ waiting → i ≡ channel waiting.ranks from to → i < length waiting.queues → old ≡ get_or queues i old
      → items new ≡ f (items old) → seen ranks (set queues i new) ≡ with_messages waiting from to (f (messages waiting from to))
  queue_changed f ranks queues waiting i old new from to is here below at changed =
      subst (λ (w : Waiting X). i ≡ channel w.ranks from to → i < length w.queues
      → seen ranks (set queues i new) ≡ with_messages w from to (f (messages w from to))) is
      (λ here below. let inside : i < length queues = subst (λ n. i < n) (length-map queues items) below in
      queue_put ranks queues i new from to here
      ∙ ap (with_messages (seen ranks queues) from to) (changed ∙ ap f (sym (queue_at ranks queues i old from to inside here at)))) here below
