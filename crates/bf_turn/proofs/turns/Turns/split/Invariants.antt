use Rattle.bf_turn.proofs.turns.Turns.split.Given as goal

abbrev pub ghosts-cut : goal.ghosts-cut
ghosts-cut g a = record { party = a.party }
