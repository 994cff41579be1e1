-- No digit at place 0.
use Rattle.formats.specs.Template.{is_allowed}
use Rattle.octets.specs.Ascii.{ascii}
use borrow.Author.Tests.{eq-eqb, ne_eqb}
use Rattle.formats.proofs.is_bird.Goals as goal
use Rattle.formats.proofs.is_bird.Goals.{then-i-eq0+else-between, else-i-eq0}

pub returns-then-between : goal.returns-then-between
unfolding is_allowed
returns-then-between c = rw (eq-eqb _ 0 c.if-i-eq0.true, ← c.between.ensures, c.if-between.true)

pub returns : goal.returns
unfolding is_allowed ascii
returns c =
    let w = c.is_word.ensures in
    elim c.if-i-eq0.branch [
      | then-i-eq0+else-between b ↦ rw (eq-eqb _ 0 b.if-i-eq0.true, ← b.between.ensures, b.if-between.false) (rw (← b.between.ensures, b.if-between.false) at w)
      | else-i-eq0 b ↦ rw (ne_eqb _ 0 b.if-i-eq0.false) w
    ]
