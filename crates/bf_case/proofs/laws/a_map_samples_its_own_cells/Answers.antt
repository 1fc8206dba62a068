use Rattle.std.proofs.Common.{arith}
use Rattle.bf_case.proofs.SampleLemmas.{own_sample}
use Rattle.bf_case.proofs.laws.a_map_samples_its_own_cells.Goals as goal

pub returns : goal.returns
returns c shape side leaves i g x y z is has hx hy hz = own_sample shape side leaves (i, g) x y z (omega arith) is has hx hy hz
