-- By the first asterisk, by a second one after it, and by what follows.
use mathlib.Core.Path.{sym}
use Prim.Native.Nat.{◌+◌, ◌<◌}
use native.Mathlib.Omega.{arith}
use lib.ListN.{length}
use Rattle.octets.proofs.Pieces.{rest-is}
use Rattle.pattern.proofs.Forms.{form_exact, form_many, form_one, form_other}
use Rattle.pattern.proofs.pattern_form.Goals as goal
use Rattle.pattern.proofs.pattern_form.Goals.{After-first_piece-k, else-k-q-via-then-k-q+else-is_suffix, else-k-q-via-else-k-q}

pub returns-then-j-s : goal.returns-then-j-s
returns-then-j-s c = form_exact c.args.host c.args.s.now c.first_piece-j.result c.first_piece-j.ensures (omega arith)

-- there is an asterisk
asterisk : (c : After-first_piece-k) → c.first_piece-j.result < length c.args.s.now
asterisk c = omega (arith, c.first_piece-j.ensures.fits)

pub returns-then-is_suffix : goal.returns-then-is_suffix
returns-then-is_suffix c =
    form_one c.args.host c.args.s.now c.first_piece-j.result c.first_piece-j.ensures (asterisk (goal.at.returns-then-is_suffix c).After-first_piece-k) _ (rest-is c.args.s.now (c.first_piece-j.result + 1)) _ c.first_piece-k.ensures (omega arith) (sym c.if-is_suffix.ensures)

pub returns : goal.returns
returns c =
    elim c.else-k-q.branch [
      | else-k-q-via-then-k-q+else-is_suffix w ↦
          form_other c.args.host c.args.s.now c.first_piece-j.result c.first_piece-j.ensures (asterisk (goal.at.returns c).After-first_piece-k) _ (rest-is c.args.s.now (c.first_piece-j.result + 1)) _ c.first_piece-k.ensures (omega arith) (sym w.if-is_suffix.ensures)
      | else-k-q-via-else-k-q w ↦
          form_many c.args.host c.args.s.now c.first_piece-j.result c.first_piece-j.ensures (asterisk (goal.at.returns c).After-first_piece-k) _ (rest-is c.args.s.now (c.first_piece-j.result + 1)) _ c.first_piece-k.ensures (omega (arith, c.first_piece-k.ensures.fits))
    ]
