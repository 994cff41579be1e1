-- The field that is read at the position has the part (Spans.antt).
use mathlib.Core.Path.{◌∙◌}
use Rattle.registry.specs.declared.Part.TheVariants.{Range, Handle, Name}
use Rattle.records.proofs.Layouts.{no-span}
use Rattle.entries.proofs.Spans.{no-contents, contents-read, end-inside}
use Rattle.entries.proofs.contents_span.Goals as goal

pub returns-in_default : goal.returns-in_default
returns-in_default c = no-span c.default.ensures ∙ no-contents _ _ _ c.read.ensures c.in_default.is _

pub range_span-requires : goal.range_span-requires
range_span-requires c =
    end-inside _ _ _ c.read.ensures _ c.in-Some.is

pub handle_span-requires : goal.handle_span-requires
handle_span-requires c =
    end-inside _ _ _ c.read.ensures _ c.in-Some.is

pub name_span-requires : goal.name_span-requires
name_span-requires c =
    end-inside _ _ _ c.read.ensures _ c.in-Some.is

pub returns-in-Range : goal.returns-in-Range
returns-in-Range c =
    contents-read _ _ _ c.read.ensures _ c.in-Some.is _ Range c.in-Range.is c.range_span.ensures

pub returns-in-Handle : goal.returns-in-Handle
returns-in-Handle c =
    contents-read _ _ _ c.read.ensures _ c.in-Some.is _ Handle c.in-Handle.is c.handle_span.ensures

pub returns-in-Name : goal.returns-in-Name
returns-in-Name c =
    contents-read _ _ _ c.read.ensures _ c.in-Some.is _ Name c.in-Name.is c.name_span.ensures
