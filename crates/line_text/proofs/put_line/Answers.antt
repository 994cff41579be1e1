-- The four numbers, the record numbers in the rest, and the line feed.
use Rattle.std.proofs.Common.{rules, arith, ◌*◌, ◌^◌, ◌≤◌, ◌≡◌, ℕ, List, length, take}
use lib.Seq.{length-take-le}
use Rattle.octets.specs.Number.{Digits}
use Rattle.octets.proofs.Below.{digits-take}
use Rattle.output.proofs.Writing.{rest-length, written-length, written_both, written_one}
use Rattle.answers.specs.Reply.{line}
use Rattle.answers.specs.Answered.{reply_of}
use Rattle.line_text.specs.Line.{following}
use Rattle.line_text.proofs.Parts.{line_parts, head-most, records-most}
use Rattle.line_text.proofs.put_line.Goals as goal

records-fit : (list : List ℕ) (n : ℕ) → n ≤ length list → Digits (2 ^ 32) list → length (following (take n list)) ≤ 11 * n
records-fit list n h d = omega (arith, records-most (take n list) (digits-take (2 ^ 32) n list d), length-take-le n list h)

pub put_spelled-at-requires : goal.put_spelled-at-requires
put_spelled-at-requires c =
    let a = c.args.a in
    omega (arith, head-most c.status.result c.number.result c.kind_number.result a.count (search rules) (search rules) (search rules) (search rules))

pub put_following-at-requires : goal.put_following-at-requires
put_following-at-requires c =
    let a = c.args.a in
    let w = c.put_spelled-at.ensures in
    let head = head-most c.status.result c.number.result c.kind_number.result a.count (search rules) (search rules) (search rules) (search rules) in
    let kept : length c.put_spelled-at.new.text ≡ length c.args.out.now = written-length w (omega (arith, w.size)) in
    rw rest-length (omega (arith, w.size, records-fit c.args.list.now c.args.reported c.requires.0 (λ i h. (c.type_inv.list i).fits)))

pub bounds-out-at : goal.bounds-out-at
bounds-out-at c =
    let a = c.args.a in
    let u = c.put_spelled-at.ensures in
    let v = c.put_following-at.ensures in
    let head = head-most c.status.result c.number.result c.kind_number.result a.count (search rules) (search rules) (search rules) (search rules) in
    let most = records-fit c.args.list.now c.args.reported c.requires.0 (λ i h. (c.type_inv.list i).fits) in
    omega (arith, u.size, v.size, written-length (written_both u v) (omega (arith, u.size, v.size)))

pub returns : goal.returns
unfolding line reply_of
returns c =
    rw (line_parts c.args.a (take c.args.reported c.args.list.now), ← c.status.ensures, ← c.number.ensures, ← c.kind_number.ensures)
    (written_one 10 (bounds-out-at c) (written_both c.put_spelled-at.ensures c.put_following-at.ensures))
