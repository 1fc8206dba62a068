-- Where rounds lead on one after another, so does the lockstep of a program that plays them.
use Rattle.std.proofs.Common.{◌≡◌, ℕ, ◌+◌, List, [], ◌∷◌, map, length, ap, ◌∙◌}
use Rattle.bf_program.specs.declared.epoch.Epoch.{Epoch}
use Rattle.bf_program.specs.Meanings.{Meanings}
use Rattle.bf_rounds.specs.Delivering.{Delivery}
use Rattle.bf_rounds.proofs.LeadLemmas.{plays_on}
use Rattle.bf_mark_rounds.specs.Sequences.{LeadThrough, PlaysFrom, after_rounds}

pub through_rounds : {S L M T R : Type 0} (m : Meanings S L M T R) (setup : S) (epoch : Epoch) (round : ℕ) (plays : List (Delivery L M)) (before after : ℕ → L)
    → PlaysFrom m setup epoch round plays → LeadThrough plays epoch.members before after
    → after_rounds m setup epoch round (length plays) (map before epoch.members) ≡ map after epoch.members
unfolding PlaysFrom LeadThrough
through_rounds {L = L} m setup epoch round [] before after all_played lead = ap (λ (f : ℕ → L). map f epoch.members) lead
through_rounds {L = L} m setup epoch round (play ∷ plays) before after all_played lead =
    ap (after_rounds m setup epoch (round + 1) (length plays)) (plays_on m setup epoch round play lead.1 before lead.0 all_played.0 lead.2)
    ∙ through_rounds m setup epoch (round + 1) plays lead.0 after all_played.1 lead.3
