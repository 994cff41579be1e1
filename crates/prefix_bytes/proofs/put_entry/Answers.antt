-- The address, and one byte more.
use native.Mathlib.Omega.{arith}
use Rattle.output.proofs.Writing.{written_one}
use Rattle.prefix_bytes.specs.Entry.{entry_of}
use Rattle.prefix_bytes.proofs.Widths.{at-most-sixteen}
use Rattle.prefix_bytes.proofs.put_entry.Goals as goal

pub overflow_cast-bits : goal.overflow_cast-bits
overflow_cast-bits c = let w = at-most-sixteen c.requires.0.wide in omega arith

pub overflow_mul-bits : goal.overflow_mul-bits
overflow_mul-bits c = let w = at-most-sixteen c.requires.0.wide in omega arith

pub overflow_cast-out : goal.overflow_cast-out
overflow_cast-out c = let w = at-most-sixteen c.requires.0.wide in omega arith

pub returns : goal.returns
unfolding entry_of
returns c = written_one _ (omega arith) c.put_address.ensures
