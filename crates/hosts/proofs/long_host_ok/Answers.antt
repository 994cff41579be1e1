use mathlib.Core.Path.{◌≡◌, ◌∙◌, sym}
use native.Mathlib.Omega.{arith}
use native.Mathlib.Numerals.{add-one}
use lib.ListN.{drop}
use Rattle.texts.specs.Texts.{good_host}
use Rattle.hosts.specs.HostScan.{labels_from}
use Rattle.hosts.proofs.Labels as labels
use Rattle.hosts.proofs.long_host_ok.Goals as goal
use Rattle.hosts.proofs.long_host_ok.Goals.{then-b-eq46+else-not-label_ok, else-b-eq46+then-b-eq45+else-label-lt1, else-b-eq46+else-b-eq45+else-not-letter_or_digit}
use Rattle.hosts.proofs.long_host_ok.Goals.{At-loop-b}

pub returns-then-s-gt-MOST_HOST : goal.returns-then-s-gt-MOST_HOST
returns-then-s-gt-MOST_HOST c = labels.host-long _ c.if-s-gt-MOST_HOST.true

-- what the rest of the text says is the answer
answer : (c : At-loop-b) → labels_from c.loop-b.label c.loop-b.hyphen (drop c.loop-b.b-index c.args.s.now) ≡ good_host c.args.s.now
answer c = c.loop-b.invariant.1 ∙ labels.host-labels _ c.if-s-gt-MOST_HOST.false

pub returns-then-not-label_ok : goal.returns-then-not-label_ok
returns-then-not-label_ok c =
    sym (labels.dot-bad c.loop-b.label c.loop-b.hyphen _ c.loop-b.b-index c.loop-b-test.true c.if-b-eq46.true (sym c.label_ok.ensures ∙ c.if-not-label_ok.true)) ∙ answer (goal.at.returns-then-not-label_ok c).At-loop-b

pub returns-then-label-lt1 : goal.returns-then-label-lt1
returns-then-label-lt1 c =
    sym (labels.hyphen-first c.loop-b.label c.loop-b.hyphen _ c.loop-b.b-index c.loop-b-test.true c.if-b-eq46.false c.if-b-eq45.true c.if-label-lt1.true) ∙ answer (goal.at.returns-then-label-lt1 c).At-loop-b

pub returns-then-not-letter_or_digit : goal.returns-then-not-letter_or_digit
returns-then-not-letter_or_digit c =
    sym (labels.other-bad c.loop-b.label c.loop-b.hyphen _ c.loop-b.b-index c.loop-b-test.true c.if-b-eq46.false c.if-b-eq45.false (sym c.letter_or_digit.ensures ∙ c.if-not-letter_or_digit.true)) ∙ answer (goal.at.returns-then-not-letter_or_digit c).At-loop-b

pub loop-b-preserved : goal.loop-b-preserved
loop-b-preserved c =
    let l = c.loop-b in
    let t = c.loop-b-test.true in
    elim c.if-b-eq46.branch [
      | then-b-eq46+else-not-label_ok w ↦ (
        omega (arith, w.label-is),
        rw (add-one l.b-index, w.label-is, w.hyphen-is)
            (sym (labels.dot-go l.label l.hyphen _ l.b-index t w.if-b-eq46.true (sym w.label_ok.ensures ∙ w.if-not-label_ok.false)) ∙ l.invariant.1),
      )
      | else-b-eq46+then-b-eq45+else-label-lt1 w ↦ (
        omega (arith, w.label-is),
        rw (add-one l.b-index, w.label-is, w.hyphen-is)
            (sym (labels.hyphen-go l.label l.hyphen _ l.b-index t w.if-b-eq46.false w.if-b-eq45.true w.if-label-lt1.false) ∙ l.invariant.1),
      )
      | else-b-eq46+else-b-eq45+else-not-letter_or_digit w ↦ (
        omega (arith, w.label-is),
        rw (add-one l.b-index, w.label-is, w.hyphen-is)
            (sym (labels.other-go l.label l.hyphen _ l.b-index t w.if-b-eq46.false w.if-b-eq45.false (sym w.letter_or_digit.ensures ∙ w.if-not-letter_or_digit.false)) ∙ l.invariant.1),
      )
    ]

pub returns : goal.returns
returns c = c.label_ok-2.ensures ∙ sym (labels.labels-end c.loop-b.label c.loop-b.hyphen _ c.loop-b.b-index c.loop-b-test.false) ∙ answer (goal.at.returns c).At-loop-b
