-- The defects of an image by their numbers (S5.1).
use Rattle.std.specs.Prelude.{ℕ}
use Rattle.registry.specs.declared.Defect.{Defect}
use Rattle.registry.specs.declared.Defect.TheVariants.{TooLong, BadStart, BadRecord, BadFields, BadContents, Unsorted, Crossing}

abbrev pub defect_number : Defect → ℕ
defect_number TooLong = 1
defect_number BadStart = 2
defect_number BadRecord = 3
defect_number BadFields = 4
defect_number BadContents = 5
defect_number Unsorted = 6
defect_number Crossing = 7
