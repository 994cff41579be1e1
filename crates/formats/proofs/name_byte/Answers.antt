-- The byte, or `_`.
use mathlib.Core.Path.{refl}
use Rattle.formats.proofs.name_byte.Goals as goal

pub returns-then-is_allowed : goal.returns-then-is_allowed
returns-then-is_allowed c = rw (← c.is_allowed.ensures, c.if-is_allowed.true) refl

pub returns : goal.returns
returns c = rw (← c.is_allowed.ensures, c.if-is_allowed.false) refl
