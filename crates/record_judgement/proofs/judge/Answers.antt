-- Each return is a law over the tests passed so far (Judgements.antt).
use mathlib.Core.Path.{sym, ◌∙◌}
use Prim.Native.Nat.{◌≤◌}
use Rattle.record_judgement.proofs.Judgements.{judge-low, judge-high, judge-refused, lying, judge-contents, judge-good}
use Rattle.record_judgement.proofs.judge.Goals as goal
use Rattle.record_judgement.proofs.judge.Goals.{After-shape_of}

-- the tag is known where the shape is asked for
module _ (c : After-shape_of) where
  low : 0x10 ≤ c.args.field.tag
  low = c.if-field-lt-IPV4_NETWORK.false

  high : c.args.field.tag ≤ 0x15
  high = c.if-field-gt-ENTITY.false

pub returns-then-field-lt-IPV4_NETWORK : goal.returns-then-field-lt-IPV4_NETWORK
returns-then-field-lt-IPV4_NETWORK c =
    judge-low c.args.image.now c.args.field.tag c.args.field.start c.args.field.end c.if-field-lt-IPV4_NETWORK.true

pub returns-then-field-gt-ENTITY : goal.returns-then-field-gt-ENTITY
returns-then-field-gt-ENTITY c =
    judge-high c.args.image.now c.args.field.tag c.args.field.start c.args.field.end c.if-field-lt-IPV4_NETWORK.false c.if-field-gt-ENTITY.true

pub returns-in_default : goal.returns-in_default
returns-in_default c =
    judge-refused c.args.image.now c.args.field.tag c.args.field.start c.args.field.end (low (goal.at.returns-in_default c).After-shape_of) (high (goal.at.returns-in_default c).After-shape_of) c.shape_of.result c.shape_of.ensures c.in_default.is _
    c.defect_of.ensures

pub contents_ok-requires : goal.contents_ok-requires
contents_ok-requires c =
    lying c.args.image.now c.args.field.tag c.args.field.start c.args.field.end (low (goal.at.contents_ok-requires c).After-shape_of) (high (goal.at.contents_ok-requires c).After-shape_of) c.shape_of.result c.shape_of.ensures _ c.in-Some.is

pub returns-then-not-contents_ok : goal.returns-then-not-contents_ok
returns-then-not-contents_ok c =
    judge-contents c.args.image.now c.args.field.tag c.args.field.start c.args.field.end (low (goal.at.returns-then-not-contents_ok c).After-shape_of) (high (goal.at.returns-then-not-contents_ok c).After-shape_of) c.shape_of.result c.shape_of.ensures _ c.in-Some.is
    (sym c.contents_ok.ensures ∙ c.if-not-contents_ok.true)

pub returns : goal.returns
returns c =
    judge-good c.args.image.now c.args.field.tag c.args.field.start c.args.field.end (low (goal.at.returns c).After-shape_of) (high (goal.at.returns c).After-shape_of) c.shape_of.result c.shape_of.ensures _ c.in-Some.is
    (sym c.contents_ok.ensures ∙ c.if-not-contents_ok.false)
