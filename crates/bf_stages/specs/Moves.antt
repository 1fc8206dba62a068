-- The kind of round in which items go to other ranks.
use Rattle.std.specs.Prelude.{◌≡◌, ℕ, ◌==◌, Bool, true, false, ◌&&◌, not, List, map, filter}
use Rattle.std.specs.List.{fold}
use Rattle.bf_buddy.specs.Members.{is_member}
use Rattle.bf_rounds.specs.Courses.{Course}
use Rattle.bf_rounds.specs.Delivering.{Delivery}
use Rattle.bf_parts.specs.Merges.{merged}

-- a rank's items, and what it knows beside them
pub record Hand (N I : Type 0) : Type 0 where
  pub rank : ℕ
  pub known : N
  pub items : List I

-- which of two items comes first, a hand's peers, where an item goes by what is known, and what becomes of it at its new rank
module _ {N I : Type 0} (first : I → I → Bool) (talks : (members : List ℕ) → Hand N I → List ℕ) (going : (rank : ℕ) → N → I → ℕ) (settle : (rank : ℕ) → N → I → I) where
  -- to each peer what goes to it; what comes is merged, and at the end each item settles
  abbrev pub move_play : Delivery (Hand N I) (List I)
  move_play = record {
    peers = talks;
    out = λ hand to. (record hand { items = filter (λ item. not (going hand.rank hand.known item == to)) hand.items }, filter (λ item. going hand.rank hand.known item == to) hand.items);
    hear = λ hand peer msg. record hand { items = merged first hand.items msg };
    finish = λ hand. record hand { items = map (settle hand.rank hand.known) hand.items };
  }

-- the hand of a rank that has the items of the keys that pass a test
abbrev pub hand_of : {K N I : Type 0} → (keys : List K) → (known : ℕ → N) → (rank : ℕ) → (item : K → I) → (test : K → Bool) → Hand N I
hand_of keys known rank item test = record { rank = rank; known = known rank; items = map item (filter test keys) }

-- what goes from a rank to another, or stays
abbrev pub goes : {K I : Type 0} → (keys : List K) → (item : K → I) → (old new : K → ℕ) → (from to : ℕ) → List I
goes keys item old new from to = map item (filter (λ k. new k == to && old k == from) keys)

-- of keys in the order of their items, with their owners before and after
module _ {K N I : Type 0} (first : I → I → Bool) (keys : List K) (item : K → I) (old new : K → ℕ) (known : ℕ → N) (peers : ℕ → List ℕ) where
  abbrev pub move_course : Course (Hand N I) (List I)
  move_course = record {
    peers = peers;
    told = goes keys item old new;
    sent = λ rank done. hand_of keys known rank item (λ k. old k == rank && not (is_member done (new k)));
    heard = λ rank done. record { rank = rank; known = known rank; items = fold (λ items peer. merged first items (goes keys item old new peer rank)) (goes keys item old new rank rank) done };
  }

  -- what goes goes to a peer
  abbrev pub GoesToPeer : K → Type 0
  GoesToPeer k = (new k == old k) ≡ false → is_member (peers (old k)) (new k) ≡ true
