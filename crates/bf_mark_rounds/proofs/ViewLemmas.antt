-- What a play of marks leads to, it leads to within a larger local.
use Rattle.std.proofs.Common.{◌≡◌, ℕ, List, refl, ap, ◌∙◌}
use Rattle.bf_id.specs.declared.shape.Shape.{Shape}
use Rattle.bf_id.specs.Id.{BlockId}
use Rattle.bf_case.specs.Wishes.{Wishes}
use Rattle.bf_rounds.specs.Delivering.{as_delivery}
use Rattle.bf_rounds.specs.Gathering.{Play}
use Rattle.bf_rounds.specs.Leading.{LeadsBy}
use Rattle.bf_marks.specs.Marks.{MarksValue}
use Rattle.bf_marks.specs.declared.flag.Flag.{Flag}
use Rattle.bf_mark_rounds.specs.Plays.{marking_course}
use Rattle.bf_mark_rounds.specs.Shares.{Marked, Marking, marking_at, marking_of, share}
use Rattle.bf_mark_rounds.specs.Views.{IsMarkView, MarkView, marking_in, viewed, viewed_course}

module _ {L : Type 0} (view : MarkView L) (shape : Shape) (ids : List BlockId) (w : Wishes) (owner : BlockId → ℕ) (with : ℕ → MarksValue → L) (is_view : IsMarkView view shape ids owner with) where
  seen : (rank : ℕ) (m : MarksValue) → marking_in view (with rank m) ≡ marking_of shape ids w owner m rank
  seen rank m = λ k. record { rank = is_view.rank rank m k; links = is_view.links rank m k; marks = is_view.marks rank m k }

  pub view_leads : (flag : Flag) (play : Play Marking (List BlockId)) (told all : Marked) (members : List ℕ) (after : ℕ → Marking)
      → LeadsBy (as_delivery play) members (marking_course shape ids w owner flag play told all members) (marking_at shape ids w owner told all) after
      → LeadsBy (viewed view play) members (viewed_course with (marking_course shape ids w owner flag play told all members))
      (λ rank. with rank (share shape ids w owner told all rank)) (λ rank. with rank (after rank).marks)
  view_leads flag play told all members after leads = record {
    peers = λ rank member. ap (play.peers members) (seen rank (share shape ids w owner told all rank)) ∙ leads.peers rank member;
    rising = leads.rising;
    others = leads.others;
    symmetric = leads.symmetric;
    begins = λ rank member. refl;
    out = λ rank to done rest member is. λ k. (
      with rank (share shape ids w owner told all rank),
      play.tell (seen rank (share shape ids w owner told all rank) k) to,
    );
    turns = λ rank member. refl;
    take = λ rank peer done rest member is.
        let course = marking_course shape ids w owner flag play told all members in
        let m : MarksValue = (course.heard rank done).marks in
        ap (λ (l : Marking). view.put (with rank m) (play.hear l peer (course.told peer rank)).marks) (seen rank m)
        ∙ is_view.put rank m (play.hear (course.heard rank done) peer (course.told peer rank)).marks
        ∙ ap (λ (l : Marking). with rank l.marks) (leads.take rank peer done rest member is);
    finish = λ rank member.
        let course = marking_course shape ids w owner flag play told all members in
        let m : MarksValue = (course.heard rank (course.peers rank)).marks in
        ap (λ (l : Marking). view.put (with rank m) (play.finish l).marks) (seen rank m)
        ∙ is_view.put rank m (play.finish (course.heard rank (course.peers rank))).marks
        ∙ ap (λ (l : Marking). with rank l.marks) (leads.finish rank member);
  }
