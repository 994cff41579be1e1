-- The numbers that are written are the reply's, whatever records it reports.
use Prim.Native.Nat.{ℕ}
use mathlib.Core.Path.{◌≡◌, ap}
use mathlib.Core.List.{List, []}
use Rattle.answers.specs.declared.Answer.{Answer}
use Rattle.answers.specs.Reply.{Reply}
use Rattle.answers.specs.Answered.{reply_of, Answered}
use Rattle.c_numbers.specs.Numbers.{numbers_of}

pub written : {reply : Reply} {a : Answer} {before after : List ℕ} → Answered reply a before after → numbers_of (reply_of a []) ≡ numbers_of reply
unfolding numbers_of reply_of
written {reply} h = ap numbers_of h.numbers
