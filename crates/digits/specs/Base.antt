-- Serves contracts and proofs. The number that a base stands for.
use Rattle.std.specs.Prelude.{ℕ}
use Rattle.digits.specs.declared.Base.{Base}
use Rattle.digits.specs.declared.Base.TheVariants.{Decimal, Hex}

abbrev pub radix : Base → ℕ
radix Decimal = 10
radix Hex = 16
