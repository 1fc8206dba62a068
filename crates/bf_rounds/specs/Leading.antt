-- A play leads on a course from some locals to others; plays of a part of the local as plays of the whole; what locals and messages weigh.
use Rattle.std.specs.Prelude.{◌≡◌, ◌≢◌, ℕ, ◌+◌, IsTrue, List, [], ◌∷◌, ◌++◌, All}
use Rattle.std.specs.List.Sorted.{IsStrictlyIncreasing}
use Rattle.bf_buddy.specs.Members.{is_member}
use Rattle.bf_program.specs.declared.epoch.Epoch.{Epoch}
use Rattle.bf_program.specs.Meanings.{Meanings}
use Rattle.bf_rounds.specs.Courses.{Course}
use Rattle.bf_rounds.specs.Delivering.{Delivery}

-- at each member the play does what the course says, from the local before the round to the one after it; peers are other
-- members, in rising order, and peers of each other
pub record LeadsBy {L M : Type 0} (play : Delivery L M) (members : List ℕ) (course : Course L M) (before after : ℕ → L) : Type 0 where
  pub peers : (rank : ℕ) → IsTrue (is_member members rank) → play.peers members (before rank) ≡ course.peers rank
  pub rising : (rank : ℕ) → IsTrue (is_member members rank) → IsStrictlyIncreasing (course.peers rank)
  pub others : (rank : ℕ) → IsTrue (is_member members rank) → All (λ peer. IsTrue (is_member members peer) × (peer ≢ rank)) (course.peers rank)
  pub symmetric : (rank peer : ℕ) → IsTrue (is_member members rank) → IsTrue (is_member members peer)
      → IsTrue (is_member (course.peers rank) peer) → IsTrue (is_member (course.peers peer) rank)
  pub begins : (rank : ℕ) → IsTrue (is_member members rank) → course.sent rank [] ≡ before rank
  pub out : (rank to : ℕ) (done rest : List ℕ) → IsTrue (is_member members rank) → course.peers rank ≡ done ++ to ∷ rest
      → play.out (course.sent rank done) to ≡ (course.sent rank (done ++ to ∷ []), course.told rank to)
  pub turns : (rank : ℕ) → IsTrue (is_member members rank) → course.sent rank (course.peers rank) ≡ course.heard rank []
  pub take : (rank peer : ℕ) (done rest : List ℕ) → IsTrue (is_member members rank) → course.peers rank ≡ done ++ peer ∷ rest
      → play.hear (course.heard rank done) peer (course.told peer rank) ≡ course.heard rank (done ++ peer ∷ [])
  pub finish : (rank : ℕ) → IsTrue (is_member members rank) → play.finish (course.heard rank (course.peers rank)) ≡ after rank

-- a round of a program as a play, and that it leads on a course
abbrev pub round_play : {S L M T R : Type 0} → Meanings S L M T R → S → Epoch → (round : ℕ) → Delivery L M
round_play m setup epoch round = record {
  peers = λ members local. m.peers setup local epoch round;
  out = λ local to. m.out setup local epoch round to;
  hear = λ local peer msg. m.take setup local epoch round peer msg;
  finish = λ local. m.finish setup local epoch round;
}

abbrev pub Leads : {S L M T R : Type 0} → Meanings S L M T R → S → Epoch → (round : ℕ) → Course L M → (before after : ℕ → L) → Type 0
Leads m setup epoch round course before after = LeadsBy (round_play m setup epoch round) epoch.members course before after

-- the course of a round in which nobody talks
abbrev pub alone : {L M : Type 0} → (nothing : M) → (before : ℕ → L) → Course L M
alone nothing before = record { peers = λ rank. []; told = λ from to. nothing; sent = λ rank done. before rank; heard = λ rank done. before rank }

-- a play of a part of the local as a play of the whole: the part is put into what else the rank has, which the end of the round may change, and
-- messages are of one kind among others
pub record IsPartOf {L N M K : Type 0} (play : Delivery N K) (whole : Delivery L M) (embed embed_after : ℕ → N → L) (wrap : K → M) : Type 0 where
  pub peers : (members : List ℕ) (rank : ℕ) (n : N) → whole.peers members (embed rank n) ≡ play.peers members n
  pub out : (rank to : ℕ) (n : N) → whole.out (embed rank n) to ≡ (embed rank (play.out n to).0, wrap (play.out n to).1)
  pub hear : (rank peer : ℕ) (n : N) (msg : K) → whole.hear (embed rank n) peer (wrap msg) ≡ embed rank (play.hear n peer msg)
  pub finish : (rank : ℕ) (n : N) → whole.finish (embed rank n) ≡ embed_after rank (play.finish n)

abbrev pub lifted : {L N M K : Type 0} → (embed : ℕ → N → L) → (wrap : K → M) → Course N K → Course L M
lifted embed wrap course = record {
  peers = course.peers;
  told = λ from to. wrap (course.told from to);
  sent = λ rank done. embed rank (course.sent rank done);
  heard = λ rank done. embed rank (course.heard rank done);
}

-- a part of the local and a kind of message: how the part is taken out and put back, and how a message is made and read
pub record Lens (L N M K : Type 0) : Type 0 where
  pub take : L → N
  pub give : L → N → L
  pub wrap : K → M
  pub unwrap : M → K

-- a play of the part, by the whole
abbrev pub through : {L N M K : Type 0} → Lens L N M K → Delivery N K → Delivery L M
through lens play = record {
  peers = λ members local. play.peers members (lens.take local);
  out = λ local to. (lens.give local (play.out (lens.take local) to).0, lens.wrap (play.out (lens.take local) to).1);
  hear = λ local peer msg. lens.give local (play.hear (lens.take local) peer (lens.unwrap msg));
  finish = λ local. lens.give local (play.finish (lens.take local));
}

-- so the part lies in what else a rank has
pub record IsLens {L N M K : Type 0} (lens : Lens L N M K) (embed : ℕ → N → L) : Type 0 where
  pub taken : (rank : ℕ) (n : N) → lens.take (embed rank n) ≡ n
  pub given : (rank : ℕ) (n now : N) → lens.give (embed rank n) now ≡ embed rank now
  pub read : (word : K) → lens.unwrap (lens.wrap word) ≡ word

-- a play neither loses nor makes what locals and messages weigh
pub record Weighs {L M : Type 0} (of_local : L → ℕ) (of_message : M → ℕ) (play : Delivery L M) : Type 0 where
  pub out : (local : L) (to : ℕ) → of_local (play.out local to).0 + of_message (play.out local to).1 ≡ of_local local
  pub hear : (local : L) (peer : ℕ) (msg : M) → of_local (play.hear local peer msg) ≡ of_local local + of_message msg
  pub finish : (local : L) → of_local (play.finish local) ≡ of_local local

-- and on the course of a round nothing of it comes or goes
pub record Conserves {L M : Type 0} (of_local : L → ℕ) (of_message : M → ℕ) (members : List ℕ) (course : Course L M) (after : ℕ → L) : Type 0 where
  pub out : (rank to : ℕ) (done rest : List ℕ) → IsTrue (is_member members rank) → course.peers rank ≡ done ++ to ∷ rest
      → of_local (course.sent rank (done ++ to ∷ [])) + of_message (course.told rank to) ≡ of_local (course.sent rank done)
  pub take : (rank peer : ℕ) (done rest : List ℕ) → IsTrue (is_member members rank) → course.peers rank ≡ done ++ peer ∷ rest
      → of_local (course.heard rank (done ++ peer ∷ [])) ≡ of_local (course.heard rank done) + of_message (course.told peer rank)
  pub finish : (rank : ℕ) → IsTrue (is_member members rank) → of_local (after rank) ≡ of_local (course.heard rank (course.peers rank))
