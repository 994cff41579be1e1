-- One answer: its record numbers go to the rest of the list after four places, then its four numbers to these.
use Prim.Native.Nat.{ℕ, ◌+◌, ◌-◌, ◌≤◌}
use mathlib.Core.Path.{◌≡◌, ap, subst, ◌∙◌}
use mathlib.Core.List.{List, [], ◌++◌}
use native.Mathlib.Omega.{arith}
use borrow.Rule.Slice.PartMut.{put_mid}
use lib.ListN.{length, take, drop, length-take}
use lib.Seq.{drop_at, drop-drop}
use Rattle.octets.proofs.Pieces.{rest-is}
use Rattle.image.specs.Image.{Image}
use Rattle.output.specs.Writing.{Written}
use Rattle.output.proofs.Writing.{rest-length, rest_put}
use Rattle.answers.specs.declared.Answer.{Answer}
use Rattle.answers.specs.Reply.{Reply, line, list_after}
use Rattle.answers.specs.Answered.{reply_of, Answered}
use Rattle.answers.specs.Reporting.{reported_of}
use Rattle.calls.specs.Calls.{answer_in}
use Rattle.calls.specs.Replies.{Consistent}
use Rattle.calls.proofs.Replies.{first-consistent, reported-all}
use Rattle.batches.proofs.Theorem.{length-line}
use Rattle.batch_line.specs.Line.{LineWritten}

line-written :
    {reply : Reply} {a : Answer} (list ys : List ℕ) → 4 ≤ length list → Consistent (length list - 4) reply
    → Answered reply a (take (length list - 4) (drop 4 list)) ys → Written (line reply) list (line (reply_of a []) ++ ys) (4 + reported_of a)
unfolding list_after line reply_of
line-written {reply} {a} list ys h c w =
    let n : reported_of a ≡ length reply.records = reported-all c a w.numbers in
    let rest : ys ≡ reply.records ++ drop (4 + reported_of a) list = w.list ∙ rw (rest-is list 4, n) (ap (λ (r : List ℕ). reply.records ++ r) (drop-drop (length reply.records) 4 list)) in
    record {
      size = omega (arith, length-line reply, n);
      is = rw rest (ap (λ (l : List ℕ). l ++ drop (4 + reported_of a) list) (ap line w.numbers));
    }

pub line-answered :
    (path : List ℕ) (image : Image) (a : Answer) (list ys : List ℕ) → 4 ≤ length list
    → Answered (answer_in path image (length (take (length list - 4) (drop 4 list)))) a (take (length list - 4) (drop 4 list)) ys
    → {after : List ℕ} {n : ℕ} → after ≡ line (reply_of a []) ++ drop 4 (put_mid 4 (length list - 4) list ys) → n ≡ reported_of a
    → LineWritten path image list after (4 + n)
line-answered path image a list ys h w e k =
    let rest : List ℕ = take (length list - 4) (drop 4 list) in
    let four : length (take 4 list) ≡ 4 = omega (arith, length-take 4 list) in
    let ys-there : drop 4 (put_mid 4 (length list - 4) list ys) ≡ ys = ap (drop 4) (rest_put list ys 4) ∙ drop_at (take 4 list) ys 4 four in
    let v : Answered (answer_in path image (length list - 4)) a rest ys = subst (λ (m : ℕ). Answered (answer_in path image m) a rest ys) (rest-length list 4) w in
    rw (e, ys-there, k) (line-written list ys h (first-consistent path image (length list - 4)) v)
