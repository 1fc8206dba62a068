-- The first force round leads to what a force round leads to from the marks of the wishes.
use Rattle.std.proofs.Common.{◌≡◌, ℕ, List, [], ◌∷◌, ◌++◌, map, filter, refl, sym, ap, ◌∙◌}
use Rattle.std.specs.Prelude.{Option, Some}
use Rattle.std.specs.Option.{option_map_or}
use Rattle.bf_id.specs.declared.shape.Shape.{Shape}
use Rattle.bf_id.specs.Id.{BlockId}
use Rattle.bf_case.specs.Refinement.{refined_within}
use Rattle.bf_case.specs.Wishes.{Wishes}
use Rattle.bf_links.specs.Links.{links_of}
use Rattle.bf_rounds.specs.Delivering.{as_delivery}
use Rattle.bf_rounds.specs.Leading.{LeadsBy}
use Rattle.bf_marks.specs.Marks.{MarksValue, first_marks}
use Rattle.bf_marks.specs.Wishes.{is_coarsen, is_refine, wish_of}
use Rattle.bf_marks.specs.declared.flag.Flag.TheVariants.{Refined}
use Rattle.bf_marks.proofs.RefinedLemmas.{chosen_of, filter_where, wish_is_refine}
use Rattle.bf_mark_rounds.specs.FirstRound.{Beginning, first_course, first_play, marked_at, marks_at, marks_sent, unmarked_at, wished_at, wished_course, wishing_at}
use Rattle.bf_mark_rounds.specs.Neighbors.{is_own}
use Rattle.bf_mark_rounds.specs.Plays.{flag_play, force_told, hear_all}
use Rattle.bf_mark_rounds.specs.Shares.{Marking}
use Rattle.bf_mark_rounds.proofs.ForceLemmas.{filter_swap}

module _ (shape : Shape) (ids : List BlockId) (w : Wishes) (owner : BlockId → ℕ) where
  -- the marks of what a rank's leaves wish are its share of those before the rounds
  made_is : (rank : ℕ) → first_marks (filter (is_own owner rank) ids) (map (wish_of w) (filter (is_own owner rank) ids)) ≡ (wished_at shape ids w owner rank).marks
  unfolding refined_within
  made_is rank =
      let own : List BlockId = filter (is_own owner rank) ids in
      let M : List BlockId → List BlockId → MarksValue = λ coarser refined. record {
        leaves = own;
        coarser = coarser;
        refined = record { own = refined; heard = [] };
        may = record { own = []; heard = [] };
        merging = record { own = []; heard = [] };
      } in
      λ k. M (chosen_of (λ i wish. is_coarsen wish) (wish_of w) own k)
      ((chosen_of (λ i wish. is_refine wish) (wish_of w) own ∙ filter_where (λ i. is_refine (wish_of w i)) w.finer own (λ i has. wish_is_refine w i)
      ∙ filter_swap w.finer (is_own owner rank) ids) k)

  abbrev made : ℕ → Option MarksValue → MarksValue
  made rank marks = option_map_or (λ (m : MarksValue). m) marks (first_marks (filter (is_own owner rank) ids) (map (wish_of w) (filter (is_own owner rank) ids)))

  sent_is : (rank : ℕ) (done : List ℕ) → made rank (marks_sent shape ids w owner rank done) ≡ (wished_at shape ids w owner rank).marks
  sent_is rank [] = made_is rank
  sent_is rank (peer ∷ done) = refl

  sent_more : (rank to : ℕ) (done : List ℕ) → marks_sent shape ids w owner rank (done ++ to ∷ []) ≡ Some (wished_at shape ids w owner rank).marks
  sent_more rank to [] = refl
  sent_more rank to (peer ∷ done) = refl

  module _ (finish : Marking → Marking) (members : List ℕ) (after : ℕ → Marking)
      (leads : LeadsBy (as_delivery (flag_play Refined force_told finish)) members (wished_course shape ids w owner finish members) (wished_at shape ids w owner) after) where
    heard_is : (rank : ℕ) (done : List ℕ) → made rank (marks_at shape ids w owner finish members rank done) ≡ ((wished_course shape ids w owner finish members).heard rank done).marks
    heard_is rank [] = sent_is rank ((wished_course shape ids w owner finish members).peers rank)
    heard_is rank (peer ∷ done) = refl

    heard_more : (rank peer : ℕ) (done : List ℕ) → marks_at shape ids w owner finish members rank (done ++ peer ∷ [])
        ≡ Some ((wished_course shape ids w owner finish members).heard rank (done ++ peer ∷ [])).marks
    heard_more rank peer [] = refl
    heard_more rank peer (other ∷ done) = refl

    abbrev at : ℕ → Option MarksValue → Beginning
    at rank marks = record { wishing = wishing_at shape ids w owner rank; marks = marks }

    abbrev marking : ℕ → MarksValue → Marking
    marking rank marks = record { rank = rank; links = map (links_of shape ids owner) (filter (is_own owner rank) ids); marks = marks }

    pub first_leads : LeadsBy (first_play finish) members (first_course shape ids w owner finish members) (unmarked_at shape ids w owner) (marked_at shape ids w owner after)
    first_leads = record {
      peers = λ rank member. leads.peers rank member;
      rising = leads.rising;
      others = leads.others;
      symmetric = leads.symmetric;
      begins = λ rank member. refl;
      out = λ rank to done rest member is. λ k. (
        at rank ((ap Some (sent_is rank done) ∙ sym (sent_more rank to done)) k),
        force_told (marking rank (sent_is rank done k)) to,
      );
      turns = λ rank member. refl;
      take = λ rank peer done rest member is.
          ap (at rank)
          (ap (λ (m : MarksValue). Some (hear_all Refined ((wished_course shape ids w owner finish members).told peer rank) m)) (heard_is rank done)
          ∙ ap (λ (l : Marking). Some l.marks) (leads.take rank peer done rest member is)
          ∙ sym (heard_more rank peer done));
      finish = λ rank member.
          ap (at rank)
          (ap (λ (m : MarksValue). Some (finish (marking rank m)).marks) (heard_is rank ((wished_course shape ids w owner finish members).peers rank))
          ∙ ap (λ (l : Marking). Some l.marks) (leads.finish rank member));
    }
