-- What a network file may be refused for, and the number of each refusal (SCOPE 4.2); 0 is the number of a file that is accepted.
use Rattle.std.specs.Prelude.{ℕ, Result, Ok, Err}
use Rattle.network.specs.declared.refusal.NetworkRefusal.{NetworkRefusal}
use Rattle.network.specs.declared.refusal.NetworkRefusal.TheVariants.{Length, Mark, Version, Counts, Ends, Figures}

abbrev pub refusal_number : NetworkRefusal → ℕ
refusal_number Length = 1
refusal_number Mark = 2
refusal_number Version = 3
refusal_number Counts = 4
refusal_number Ends = 5
refusal_number Figures = 6

abbrev pub number_of : Result (Unit {0}) NetworkRefusal → ℕ
number_of (Ok accepted) = 0
number_of (Err refusal) = refusal_number refusal
