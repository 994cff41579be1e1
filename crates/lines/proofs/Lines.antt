-- An answer with the record numbers that it reports is the reply.
use Prim.Native.Nat.{ℕ, ◌+◌, ◌-◌, ◌≤◌, ◌<◌}
use mathlib.Core.Path.{◌≡◌, sym, ap, ◌∙◌}
use mathlib.Core.List.{List, ◌++◌}
use native.Mathlib.Omega.{arith}
use borrow.Author.Tests.{lt-ltb, le-ltb}
use lib.ListN.{length, take, drop, length-append, length-drop, take-append-drop}
use lib.Seq.{take_at, length-take-le}
use borrow.Rule.Slice.PartMut.{put_mid}
use Rattle.output.specs.Writing.{Written}
use Rattle.output.proofs.Writing.{rest-length, written-nothing, written_both}
use Rattle.answers.specs.declared.Answer.{Answer}
use Rattle.answers.specs.Reply.{Reply, list_after}
use Rattle.answers.specs.Answered.{reply_of, Answered}
use Rattle.answers.specs.Reporting.{reported_of}
use Rattle.line_text.specs.Line.{line_text}
use Rattle.calls.specs.Replies.{Consistent}
use Rattle.calls.proofs.Replies.{fits, reported-all}
use Rattle.lines.specs.Lined.{longest_line, text_in, Lined}

module _ {room : ℕ} {reply : Reply} {a : Answer} {before after : List ℕ} (k : Consistent room reply) (h : Answered reply a before after) where
  pub reported-few : reported_of a ≤ room
  reported-few = omega (arith, reported-all k a h.numbers, fits k)

  pub reported_are : reply_of a (take (reported_of a) after) ≡ reply
  unfolding list_after
  reported_are =
      ap (reply_of a) (ap (take (reported_of a)) h.list ∙ take_at reply.records _ (reported_of a) (sym (reported-all k a h.numbers))) ∙ h.numbers

-- where there is no room, and where there is
module _ {reply : Reply} {list list' out : List ℕ} where
  pub no_room_lem : list' ≡ list_after reply list → length out < longest_line → Lined reply list list' out out 0
  unfolding text_in
  no_room_lem e h = record { text = rw (lt-ltb _ _ h) (written-nothing out); records = e }

  module _ {out' : List ℕ} {n : ℕ} (h : longest_line ≤ length out) where
    pub line-put : list' ≡ list_after reply list → Written (line_text reply) out out' n → Lined reply list list' out out' n
    unfolding text_in
    line-put e w = record { text = rw (le-ltb _ _ h) w; records = e }

    put-line : Lined reply list list' out out' n → Written (line_text reply) out out' n
    unfolding text_in
    put-line l = rw (le-ltb _ _ h) at l.text

-- for a caller that lends the rest of a buffer
module _ (out : List ℕ) (at : ℕ) {reply : Reply} {list list' rest : List ℕ} {n : ℕ} (l : Lined reply list list' (take (length out - at) (drop at out)) rest n) where
  pub line-fits : length rest ≡ length (take (length out - at) (drop at out)) → n ≤ length out - at
  line-fits e =
      let text : List ℕ = text_in reply (length (take (length out - at) (drop at out))) in
      omega (arith, l.text.size, e, rest-length out at, ap length l.text.is ∙ length-append text _, length-drop n (take (length out - at) (drop at out)))

  pub line_at : at + longest_line ≤ length out → Written (take at out ++ line_text reply) out (put_mid at (length out - at) out rest) (at + n)
  line_at h =
      let before : Written (take at out) out out at = record { size = sym (length-take-le at out (omega arith)); is = sym (take-append-drop at out) } in
      written_both before (put-line (rw rest-length (omega arith)) l)
