use Rattle.bf_drive.proofs.AloneLemmas.{driven_once}
use Rattle.bf_drive.proofs.laws.alone.Goals as goal

pub returns : goal.returns
returns g c = λ setup order journal other legal lawful over end nobody none driven its.
    driven_once g.P.RankProgram.meanings g.P.RankProgram.good setup order journal other
    (record { legal = legal; nobody = nobody }) (record { legal = lawful; nobody = none }) over end driven its
