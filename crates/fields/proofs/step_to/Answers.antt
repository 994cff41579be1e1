-- A test that fails leaves no such field, and where all hold there is one (Fields.antt).
use native.Mathlib.Omega.{arith}
use Rattle.fields.proofs.Fields.{none-ends, one-ends}
use Rattle.fields.proofs.step_to.Goals as goal

pub returns-then-image-at : goal.returns-then-image-at
returns-then-image-at c = none-ends _ _ _ _ _ _ (λ h k t l m. omega arith)

pub returns-then-image-start : goal.returns-then-image-start
returns-then-image-start c = none-ends _ _ _ _ _ _ (λ h k t l m. omega arith)

pub returns-then-from : goal.returns-then-from
returns-then-from c = none-ends _ _ _ _ _ _ (λ h k t l m. omega arith)

pub returns-then-len-low : goal.returns-then-len-low
returns-then-len-low c = none-ends _ _ _ _ _ _ (λ h k t l m. omega arith)

pub returns-then-high-len : goal.returns-then-high-len
returns-then-high-len c = none-ends _ _ _ _ _ _ (λ h k t l m. omega arith)

pub returns-then-image-to : goal.returns-then-image-to
returns-then-image-to c = none-ends _ _ _ _ _ _ (λ h k t l m. omega arith)

pub returns : goal.returns
returns c = one-ends _ _ _ _ _ _ _ (omega arith) (omega arith) (omega arith) (omega arith) (omega arith)
