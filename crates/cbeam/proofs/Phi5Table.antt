-- The truth table of φ5, by computing.
use Rattle.std.proofs.Common.{refl}
use Rattle.cbeam.specs.Bits.{bit}
use Rattle.cbeam.specs.Phi5.{phi5, Phi5Agrees}

pub phi5_agrees : Phi5Agrees
unfolding bit phi5
phi5_agrees = refl
